-- Refused: the session and the output as they were. Accepted: the units are processed into the named part of the
-- output. Assumes nothing.
use Prim.Native.Nat.{ℕ, ◌*◌, ◌≤◌}
use mathlib.Core.Path.{◌≡◌, sym, ap, ◌∙◌}
use native.Mathlib.Omega.{arith}
use mathlib.Core.List.{List, ◌++◌}
use native.Mathlib.Nat.{min-eq_left}
use lib.ListN.{length, drop, length-take, length-drop}
use Rattle.bits.specs.Texts.{bits, bytes_for, pack}
use Rattle.bits.proofs.Texts.{length-bits, length-pack}
use Rattle.bits.proofs.Owned.{arrays}
use Rattle.rules.specs.Rules.{units_in}
use Rattle.rules.proofs.Taken.{unit_bounds}
use Rattle.modes.specs.Sessions.{Arrays, feed_number_within, fed_text, session_text, session_register, session_runs}
use Rattle.questions.specs.Questions.{ask, feed_questions, max_units}
use Rattle.modes.specs.declared.session.Session.{Session}
use Rattle.questions.proofs.QuestionLaws.{FeedTaken, feed_taken}
use Rattle.questions.proofs.RefusalLaws.{no_success}
use Rattle.modes.proofs.AnswerLaws.{feed-refused, feed-accepted, part_written, moved_by}
use Rattle.modes.proofs.SessionLaws.{Ready, text-length}
use Rattle.modes.proofs.WorkLaws.{part_all}
use borrow.Author.Rules.{rules, length_unmapped}
use Rattle.modes.proofs.session.Session.feed.Goals as goal

-- what the number 0 grants
granted : (s : Session) (bytes count size place : ℕ)
    → 0 ≡ ask (feed_questions max_units s.mode s.rounds s.n s.m s.closed s.units bytes count size place)
    → FeedTaken max_units s.mode s.rounds s.n s.m s.closed s.units bytes count size place
granted s bytes count size place e = feed_taken max_units _ _ _ _ _ _ _ _ _ _ (sym e)

arrays_are : (c : goal.After-moved) → Arrays c.args.self
arrays_are c = record { register = search arrays; keys = search arrays; keys_size = length_unmapped ℕ c.args.self.keys 240 (search rules) }

-- the text has as many bits as are fed, and so has what it becomes
fed_length : (input : List ℕ) (count : ℕ) → count ≤ length input * 8 → length (fed_text input count) ≡ count
unfolding fed_text
fed_length input count there = length-take count (bits input) ∙ min-eq_left (omega (arith, length-bits input, there))

pub returns-in-Err : goal.returns-in-Err
unfolding feed_number_within
returns-in-Err c =
    let a = c.args in
    rw c.into.ensures (feed-refused a.self a.input.now a.bits a.out.now a.place c.in-Err.ensures (no_success _))

pub slice_bounds-work-count : goal.slice_bounds-work-count
slice_bounds-work-count c = omega (arith, (granted c.args.self _ _ _ _ c.in_default.ensures).inside)

pub slice_bounds-work-start : goal.slice_bounds-work-start
slice_bounds-work-start c = omega (arith, (granted c.args.self _ _ _ _ c.in_default.ensures).inside)

pub work-worked-requires : goal.work-worked-requires
work-worked-requires c =
    let q = granted c.args.self _ _ _ _ c.in_default.ensures in (
      record {
        unit_length = q.unit;
        whole = q.whole;
        within = omega (arith, q.there);
        small = q.small;
        room = rw (part_all c.args.place c.args.out.now, length-drop c.args.place c.args.out.now) q.room;
      },
      q.rounds_good,
    )

pub moved-requires : goal.moved-requires
moved-requires c =
    let q = granted c.args.self _ _ _ _ c.in_default.ensures in
    ((unit_bounds _ _ q.unit).0, q.counted)

pub returns : goal.returns
unfolding feed_number_within session_register session_text session_runs fed_text
returns c =
    let a = c.args in
    let q = granted a.self _ _ _ _ c.in_default.ensures in
    let fed = fed_length a.input.now a.bits (omega (arith, q.there)) in
    let text = session_text a.self (fed_text a.input.now a.bits) in
    let ready : Ready a.self = record { arrays = arrays_are c; rounds_good = q.rounds_good; unit = q.unit } in
    let become : length (pack text) ≡ bytes_for a.bits =
    length-pack text ∙ ap bytes_for (text-length ready (fed_text a.input.now a.bits) (rw fed q.whole) ∙ fed)
    in
    feed-accepted a.self a.input.now a.bits a.out.now a.place (sym c.in_default.ensures)
    (moved_by a.self (fed_text a.input.now a.bits) fed c.work-worked.ensures.register_after c.moved.ensures)
    (part_written a.out.now a.place (bytes_for a.bits) text _ q.inside become q.room
    (c.work-worked.ensures.out_after ∙ ap (λ l. pack text ++ drop (bytes_for a.bits) l) (part_all a.place a.out.now)))
    (c.work-worked.ensures.all_runs ∙ ap (units_in a.self.n) (sym fed))
