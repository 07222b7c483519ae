-- With m = 128 no call answers 14 or 15, and the other numbers are as before there was an m. Assumes nothing.
use Prim.Native.Nat.{ℕ}
use mathlib.Core.Path.{◌≡◌, refl}
use mathlib.Core.Bool.{Bool, true, false, cond, ◌&&◌}
use native.Mathlib.Omega.{arith}
use Rattle.rules.proofs.LengthLaws.{whole_block}
use Rattle.rules.specs.Rules.{units_in}
use Rattle.questions.specs.Questions.{ask, session_ok, units_ok, counters_ok, max_units, open_questions, feed_questions}
use Rattle.questions.proofs.QuestionLaws.{counters_enough}
use Rattle.modes.specs.Sessions.{open_number, feed_number_within}
use Rattle.feeds.specs.Counters.{WholeBlockOpening, WholeBlockFeed}

pub whole_block_opening : WholeBlockOpening
unfolding WholeBlockOpening open_number ask open_questions
whole_block_opening mode n key iv = rw (whole_block mode)

-- Question 15 after question 9.
never_15 : (done new : ℕ) → ◌≡◌ {A = ℕ} (cond (units_ok max_units done new) (cond (counters_ok 128 done new) 0 15) 9) (cond (units_ok max_units done new) 0 9)
never_15 done new = by_answer (units_ok max_units done new) refl
  where
    by_answer : (b : Bool) → units_ok max_units done new ≡ b → ◌≡◌ {A = ℕ} (cond b (cond (counters_ok 128 done new) 0 15) 9) (cond b 0 9)
    by_answer true few = rw (counters_enough 128 done new (omega arith) few)
    by_answer false many = refl

and_true : (b : Bool) → (b && true) ≡ b
and_true true = refl
and_true false = refl

pub whole_block_feed : WholeBlockFeed
unfolding WholeBlockFeed feed_number_within ask feed_questions session_ok
whole_block_feed s bytes count size place whole =
    rw (whole, whole_block s.mode, and_true, never_15 s.units (units_in s.n count))
