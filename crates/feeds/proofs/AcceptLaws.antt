-- Which openings and feeds are accepted, in plain numbers: at 0, and only there, every question said 'yes'. Assumes
-- nothing.
use Prim.Native.Nat.{ℕ, ◌+◌, ◌^◌, ◌≤◌}
use mathlib.Core.Path.{◌≡◌, refl, sym, ◌∙◌}
use mathlib.Core.Bool.{true, not}
use mathlib.Core.List.{List}
use native.Mathlib.Omega.{arith}
use borrow.Author.Tests.{leb-true, le-leb, not-true}
use lib.ListN.{length}
use Rattle.bits.specs.Texts.{bytes_for}
use Rattle.bits.specs.Blocks.{Bytes}
use Rattle.aes.specs.Calls.{key_rounds}
use Rattle.aes.specs.Promises.{AcceptedExpands}
use Rattle.aes.proofs.CallLaws.{accepted_expands}
use Rattle.rules.specs.declared.Mode.{Mode}
use Rattle.rules.specs.declared.Direction.{Direction}
use Rattle.rules.specs.Rules.{units_in}
use Rattle.rules.proofs.Counts.{units_few}
use Rattle.rules.proofs.Taken.{unit_bounds}
use Rattle.questions.specs.Questions.{units_ok, counters_ok, max_bits, max_units, open_questions, feed_questions}
use Rattle.questions.specs.Promises.{AcceptedExactly}
use Rattle.questions.proofs.QuestionLaws.{accepted_exactly}
use Rattle.modes.specs.declared.session.Opened.{Opened}
use Rattle.modes.specs.Sessions.{open_number, opened_session, OpenedBy, feed_number_within}
use Rattle.feeds.specs.Accepts.{OpenAccepts, OpenCounterAccepts, AcceptableSession, FeedAccepts, FirstFeedAccepts}
use Rattle.modes.proofs.OpeningLaws.{opened-session}
use Rattle.rules.proofs.LengthLaws.{unit_exactly, counter_exactly, whole_exactly}
use Rattle.questions.proofs.SentenceLaws.{key_exactly, iv_exactly, rounds_exactly, session_exactly, bits_exactly, room_exactly}

pub open_counter_accepts : OpenCounterAccepts
unfolding OpenCounterAccepts AcceptedExactly open_number open_questions
open_counter_accepts mode dir n m key iv r opened =
    let exactly = accepted_exactly (open_questions mode n m key iv) (omega arith) in (
      λ zero.
          let (q1, (q2, (q3, (q14, end)))) = exactly.0 (sym opened.answer ∙ zero) in
          let (in-ecb, elsewhere) = (iv_exactly mode iv).0 q2 in (
            record {
              key-length = (key_exactly key).0 q1;
              iv_in_ecb = in-ecb;
              iv_elsewhere = elsewhere;
              unit_length = (unit_exactly mode n).0 q3;
            },
            (counter_exactly mode m).0 q14,
          ),
      λ h.
          let (o, counter) = h in
          let q1 = (key_exactly key).1 o.key-length in
          let q2 = (iv_exactly mode iv).1 (o.iv_in_ecb, o.iv_elsewhere) in
          let q3 = (unit_exactly mode n).1 o.unit_length in
          let q14 = (counter_exactly mode m).1 counter in
          opened.answer ∙ exactly.1 (q1, (q2, (q3, (q14, tt)))),
    )

-- m = 128 is a length of a counter in every mode.
pub open_accepts : OpenAccepts
unfolding OpenAccepts OpenCounterAccepts
open_accepts mode dir n key iv r opened =
    let (granted, accepted) = open_counter_accepts mode dir n _ key iv r opened in
    (λ zero. (granted zero).0, λ h. accepted (h, record { elsewhere = λ other. refl; in_own = λ same. omega arith }))

pub feed_accepts : FeedAccepts
unfolding FeedAccepts AcceptedExactly feed_number_within feed_questions units_ok counters_ok
feed_accepts s input count out place r after fed =
    let units = s.units + units_in s.n count in
    let exactly = accepted_exactly (feed_questions max_units s.mode s.rounds s.n s.m s.closed s.units (length input) count (length out) place) (omega arith) in (
      λ zero.
          let (q4, (q5, (q6, (q7, (q8, (q9, (q15, end))))))) = exactly.0 (sym fed.answer ∙ zero) in
          let (rounds, unit, counter) = (session_exactly s.mode s.rounds s.n s.m).0 q4 in
          let (there, small) = (bits_exactly max_bits (length input) count).0 q6 in
          let open-still = not-true s.closed q5 in
          let whole = (whole_exactly s.mode s.n count).0 q7 in
          let room = (room_exactly (length out) place (bytes_for count)).0 q8 in
          record {
            session = record { rounds = rounds; unit_length = unit; counter-length = counter; not_closed = open-still };
            text = record { there = omega arith; at_most = omega arith; whole-units = whole; room = omega (arith, room) };
            units = omega (arith, leb-true units max_units q9);
            counter_blocks = omega (arith, leb-true units (2 ^ s.m) q15);
          },
      λ h.
          let a = h.session in
          let x = h.text in
          let q4 = (session_exactly s.mode s.rounds s.n s.m).1 (a.rounds, a.unit_length, a.counter-length) in
          let q5 : not s.closed ≡ true = rw a.not_closed in
          let q6 = (bits_exactly max_bits (length input) count).1 (omega (arith, x.there, x.at_most)) in
          let q7 = (whole_exactly s.mode s.n count).1 x.whole-units in
          let q8 = (room_exactly (length out) place (bytes_for count)).1 (omega (arith, x.room)) in
          let q9 = le-leb units max_units (omega (arith, h.units)) in
          let q15 = le-leb units (2 ^ s.m) (omega (arith, h.counter_blocks)) in
          fed.answer ∙ exactly.1 (q4, (q5, (q6, (q7, (q8, (q9, (q15, tt))))))),
    )

-- What an accepted opening returns passes 4 and 5.
fresh : {mode : Mode} {dir : Direction} {n m : ℕ} {key iv : List ℕ} {o : Opened} → Bytes key → OpenedBy mode dir n m key iv o → o.number ≡ 0
    → AcceptableSession (opened_session mode dir n m key iv)
unfolding opened_session AcceptedExpands OpenCounterAccepts
fresh {mode} {dir} {n} {m} {key} {iv} {o} bytes opening accepted =
    let (h, counter) = (open_counter_accepts mode dir n m key iv o opening).0 accepted in
    record {
      rounds = (rounds_exactly (key_rounds key)).0 (accepted_expands key bytes ((key_exactly key).1 h.key-length)).rounds;
      unit_length = h.unit_length;
      counter-length = counter;
      not_closed = refl;
    }

pub first_feed_accepts : FirstFeedAccepts
unfolding FirstFeedAccepts FeedAccepts opened_session
first_feed_accepts mode dir n m key iv o bytes opening accepted input count out place r after fed =
    let s = opened_session mode dir n m key iv in
    let session = fresh bytes opening accepted in
    let (granted, taken) = feed_accepts s input count out place r after (rw (opened-session opening accepted) at fed) in (
      λ zero. let h = granted zero in (h.text, omega (arith, h.counter_blocks)),
      λ h.
          let few : units_in n count ≤ count = units_few count (unit_bounds mode n ((unit_exactly mode n).1 session.unit_length)).0 in
          taken (record { session = session; text = h.0; units = omega (arith, few, h.0.at_most); counter_blocks = omega (arith, h.1) }),
    )
