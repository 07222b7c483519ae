-- What the number says: 14 and 16 by their questions, and at 0 both are answered 'yes'. Assumes nothing.
use mathlib.Core.Path.{◌≡◌}
use mathlib.Core.Bool.{true, false}
use mathlib.Core.List.{List}
use Prim.Native.Nat.{ℕ, ◌/◌, ◌^◌, ◌≤◌}
use native.Mathlib.Omega.{arith}
use borrow.Author.Tests.{le-leb, eqb-true}
use Rattle.bits.specs.Counter.{number}
use Rattle.rules.specs.declared.Mode.TheVariants.{Ctr}
use Rattle.rules.specs.Lengths.{counter_length_ok}
use Rattle.rules.proofs.Taken.{counter_bounds}
use Rattle.questions.specs.Questions.{ask}
use Rattle.questions.specs.Promises.{AcceptedExactly}
use Rattle.questions.proofs.QuestionLaws.{accepted_exactly}
use Rattle.places.specs.Answers.{upper_same, of_block_questions, of_block_number}

pub length_ok : (m : ℕ) → 1 ≤ m → m ≤ 128 → counter_length_ok Ctr m ≡ true
unfolding counter_length_ok
length_ok m least most = rw (le-leb 1 m least, le-leb m 128 most)

module _ (iv block : List ℕ) (m : ℕ) where
  pub answers-14 : counter_length_ok Ctr m ≡ false → of_block_number iv block m ≡ 14
  unfolding of_block_number ask of_block_questions
  answers-14 q14 = rw q14

  pub answers-16 : counter_length_ok Ctr m ≡ true → upper_same m iv block ≡ false → of_block_number iv block m ≡ 16
  unfolding of_block_number ask of_block_questions
  answers-16 q14 q16 = rw (q14, q16)

  pub answers-0 : counter_length_ok Ctr m ≡ true → upper_same m iv block ≡ true → of_block_number iv block m ≡ 0
  unfolding of_block_number ask of_block_questions
  answers-0 q14 q16 = rw (q14, q16)

  pub accepted_length : of_block_number iv block m ≡ 0 → (1 ≤ m) × (m ≤ 128)
  unfolding of_block_number of_block_questions AcceptedExactly
  accepted_length e = counter_bounds Ctr m ((accepted_exactly (of_block_questions iv block m) (omega arith)).0 e).0

  pub accepted-upper : of_block_number iv block m ≡ 0 → number iv / 2 ^ m ≡ number block / 2 ^ m
  unfolding of_block_number of_block_questions AcceptedExactly upper_same
  accepted-upper e = eqb-true _ _ ((accepted_exactly (of_block_questions iv block m) (omega arith)).0 e).1.0
