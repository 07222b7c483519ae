-- Questions 1, 2, 11 and 8 in their order: the number at each 'no', and what the number 0 grants. Assumes nothing.
use Prim.Native.Nat.{ℕ, suc, ◌*◌, ◌/◌, ◌%◌, ◌≤◌, ◌<◌}
use mathlib.Core.Path.{◌≡◌}
use mathlib.Core.Bool.{true, and-eq-true_iff}
use mathlib.Core.List.{List}
use native.Mathlib.Omega.{arith}
use borrow.Author.Tests.{ltb-true, eqb-true}
use lib.Dec.{eqb, ltb}
use lib.ListN.{length}
use Rattle.rules.specs.declared.Mode.TheVariants.{Cbc}
use Rattle.questions.specs.Questions.{ask, iv_ok, room_ok}
use Rattle.questions.specs.Promises.{AcceptedExactly}
use Rattle.questions.proofs.QuestionLaws.{accepted_exactly}
use Rattle.single.specs.Single.{block_ok, neighbour_questions, single_questions, single_number}

-- ---- the neighbour's questions

pub record NeighbourTaken (iv text : List ℕ) (j : ℕ) : Type 0 where
  pub iv_yes : iv_ok Cbc iv ≡ true
  pub block_yes : block_ok (length text) j ≡ true

pub neighbour_taken : (iv text : List ℕ) (j : ℕ) → ask (neighbour_questions iv text j) ≡ 0 → NeighbourTaken iv text j
unfolding AcceptedExactly neighbour_questions
neighbour_taken iv text j e =
    let (q2, (q11, end)) = (accepted_exactly (neighbour_questions iv text j) (omega arith)).0 e in
    record { iv_yes = q2; block_yes = q11 }

pub iv-length : (iv : List ℕ) → iv_ok Cbc iv ≡ true → length iv ≡ 16
unfolding iv_ok
iv-length iv e = eqb-true (length iv) 16 e

-- block j is there whole, and the text fits whole blocks
pub block_there : (bytes j : ℕ) → block_ok bytes j ≡ true → (bytes % 16 ≡ 0) × (suc j * 16 ≤ bytes)
unfolding block_ok
block_there bytes j e =
    let (whole, inside) = (and-eq-true_iff (eqb (bytes % 16) 0) (ltb j (bytes / 16))).0 e in
    let below : j < bytes / 16 = ltb-true j (bytes / 16) inside in
    (eqb-true (bytes % 16) 0 whole, omega arith)

pub there : (iv text : List ℕ) (j : ℕ) → ask (neighbour_questions iv text j) ≡ 0 → suc j * 16 ≤ length text
there iv text j e = (block_there (length text) j (neighbour_taken iv text j e).block_yes).1

-- ---- the single block's questions

module _ (key iv text : List ℕ) (j size place : ℕ) where
  -- at 0, block j is there and so is the room
  pub single-taken : single_number key iv text j size place ≡ 0 → (block_ok (length text) j ≡ true) × (room_ok size place 16 ≡ true)
  unfolding AcceptedExactly single_number single_questions
  single-taken e = let (q1, (q2, (q11, (q8, end)))) = (accepted_exactly (single_questions key iv text j size place) (omega arith)).0 e in (q11, q8)
