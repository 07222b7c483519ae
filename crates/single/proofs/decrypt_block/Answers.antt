-- `single::decrypt_block` meets its contract: what is written is the block under the key's schedule. Assumes nothing.
use Prim.Native.Nat.{ℕ}
use mathlib.Core.Path.{◌≡◌, sym, ap, ◌∙◌}
use mathlib.Core.List.{List}
use borrow.Author.Rules.{rules}
use lib.ListN.{length}
use Rattle.bits.specs.Texts.{bits}
use Rattle.bits.proofs.Owned.{arrays}
use Rattle.aes.specs.Calls.{key_number}
use Rattle.questions.specs.Questions.{ask, room_ok}
use Rattle.questions.proofs.SentenceLaws.{room_exactly}
use Rattle.modes.specs.Sessions.{written}
use Rattle.single.specs.Single.{neighbour_questions, single_number, single_questions}
use Rattle.single.proofs.AnswerLaws.{block_written, plain_is}
use Rattle.single.proofs.decrypt_block.Goals as goal

pub returns : goal.returns
unfolding single_number single_questions neighbour_questions ask room_ok key_number
returns c =
    let a = c.args in
    let schedule = c.in_ok-schedule.ensures in
    let asked : 0 ≡ single_number a.key.now a.iv.now a.text.now a.j (length a.out.now) a.place = search rules in
    let room = (room_exactly _ _ 16).0 (sym c.room_ok.ensures ∙ c.if-not-room_ok.false) in
    let plain = plain_is a.key.now a.iv.now a.text.now a.j schedule.expanded_rounds schedule.expanded_keys c.plain_block-plain.ensures in
    let put = block_written a.out.now a.place c.plain_block-plain.result (search arrays) c.copy_from_slice.ensures.after room in
    record {
      answer = asked;
      output = rw (← asked) (put ∙ ap (λ (b : List ℕ). written a.out.now a.place (bits b)) plain);
    }
