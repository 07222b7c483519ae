-- Questions 6 and 7 in plain numbers. Assumes nothing.
use Prim.Native.Nat.{ℕ, ◌+◌, ◌*◌, ◌/◌, ◌%◌, ◌≤◌}
use mathlib.Core.Path.{◌≡◌}
use mathlib.Core.Bool.{true}
use native.Mathlib.Omega.{arith}
use lib.Dec.{leb, eqb}
use borrow.Author.Tests.{le-leb, leb-true, eq-eqb, eqb-true}
use Rattle.questions.specs.Questions.{bits_ok}
use Rattle.questions.proofs.QuestionLaws.{both_true}
use Rattle.padding.specs.Padding.{whole_blocks}

module _ (limit bytes count : ℕ) where
  pub taken : count ≤ limit → (count + 7) / 8 ≤ bytes → bits_ok limit bytes count ≡ true
  unfolding bits_ok
  taken h there = rw (le-leb count (8 * bytes) (omega arith), le-leb count limit h)

pub whole-blocks : (count : ℕ) → (count ≡ 0 → ⊥) → count % 128 ≡ 0 → whole_blocks count ≡ true
unfolding whole_blocks
whole-blocks count some whole = rw (le-leb 1 count (omega arith), eq-eqb (count % 128) 0 whole)

pub blocks_there : (count : ℕ) → whole_blocks count ≡ true → 128 ≤ count
unfolding whole_blocks
blocks_there count e =
    let (some, whole) = both_true (leb 1 count) (eqb (count % 128) 0) e in
    omega (arith, leb-true 1 count some, eqb-true (count % 128) 0 whole)
