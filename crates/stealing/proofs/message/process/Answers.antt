-- `stealing::message::process` meets its contract: what the questions grant is what the writing asks for. Assumes
-- nothing.
use Prim.Native.Nat.{ℕ}
use mathlib.Core.Path.{◌≡◌, refl, sym, ap, ◌∙◌}
use mathlib.Core.List.{List, ◌++◌}
use lib.ListN.{length, drop, length-drop}
use Rattle.bits.specs.Texts.{bytes_for, pack}
use Rattle.aes.specs.Calls.{encrypted, decrypted}
use Rattle.rules.specs.declared.Mode.TheVariants.{Cbc}
use Rattle.rules.specs.Rules.{start}
use Rattle.modes.specs.Sessions.{opened_session, open_number, fed_text}
use Rattle.modes.proofs.AnswerLaws.{part_written}
use Rattle.modes.proofs.WorkLaws.{part_all}
use Rattle.modes.proofs.OpeningLaws.{opened-session, opened-ready}
use Rattle.stolen.specs.Stealing.{stolen_text}
use Rattle.questions.proofs.QuestionLaws.{opening_taken}
use Rattle.stealing.proofs.KeyLaws.{Keyed, keyed, stolen-bytes}
use Rattle.stealing.proofs.NumberLaws.{opening-yes, message_taken}
use Rattle.stealing.proofs.AnswerLaws.{steal-accepted}
use Rattle.bits.proofs.Owned.{arrays}
use Rattle.stealing.proofs.message.process.Goals as goal

pub slice_bounds-put_message-count : goal.slice_bounds-put_message-count
slice_bounds-put_message-count c = (message_taken _ _ _ _ (sym c.in_ok-ask_message.ensures)).inside

pub slice_bounds-put_message-start : goal.slice_bounds-put_message-start
slice_bounds-put_message-start c = (message_taken _ _ _ _ (sym c.in_ok-ask_message.ensures)).inside

pub put_message-requires : goal.put_message-requires
unfolding opened_session open_number
put_message-requires c =
    let a = c.args in
    let opened : c.open.result.number ≡ 0 = c.open.ensures.answer ∙ sym c.in_ok-ask_open.ensures in
    let granted = sym c.in_ok-ask_message.ensures in
    let q = message_taken (length a.input.now) a.bits (length a.out.now) a.place granted in
    rw (opened-session c.open.ensures opened)
    (record {
      mode = refl;
      unit = refl;
      counter = refl;
      rounds_good = (opened-ready c.open.ensures opened (search arrays) (search arrays)).rounds_good;
      not_closed = refl;
      no_units = refl;
      whole_bytes = q.whole_bytes;
      more_than_16 = q.more_than_16;
      small = q.small;
      there = q.there;
      room = rw (part_all, length-drop) q.room;
    })

pub returns : goal.returns
unfolding opened_session start encrypted decrypted open_number
returns c =
    let a = c.args in
    let opened : c.open.result.number ≡ 0 = c.open.ensures.answer ∙ sym c.in_ok-ask_open.ensures in
    let zero = sym c.in_ok-ask_message.ensures in
    let q = message_taken (length a.input.now) a.bits (length a.out.now) a.place zero in
    let taken = opening_taken Cbc 128 128 a.key.now a.iv.now (sym c.in_ok-ask_open.ensures) in
    let under : Keyed a.key.now a.iv.now = keyed (search arrays) (search arrays) taken.key_size taken.iv_size in
    let text = stolen_text (encrypted a.key.now) (decrypted a.key.now) a.direction a.iv.now (fed_text a.input.now a.bits) in
    steal-accepted a.direction a.key.now a.iv.now a.input.now a.bits a.out.now a.place
    (opening-yes a.key.now a.iv.now (length a.input.now) a.bits (length a.out.now) a.place (sym c.in_ok-ask_open.ensures) ∙ zero)
    (part_written a.out.now a.place (bytes_for a.bits) text _ q.inside (stolen-bytes under a.direction a.input.now a.bits q.there q.more_than_16) q.room
    (rw (opened-session c.open.ensures opened) at c.put_message.ensures
    ∙ ap (λ (l : List ℕ). pack text ++ drop (bytes_for a.bits) l) (part_all a.place a.out.now)))
