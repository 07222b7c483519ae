-- The neighbour of a block, and a block as the code reads it. Assumes nothing.
use Prim.Native.Nat.{ℕ, zero, suc, ◌-◌, ◌*◌, ◌≤◌}
use mathlib.Core.Path.{◌≡◌, sym, ap, ◌∙◌}
use mathlib.Core.List.{List, []}
use native.Mathlib.Nat.{le_of_eq}
use native.Mathlib.Omega.{arith}
use borrow.Author.Tests.{eq-eqb, ne_eqb}
use lib.ListN.{length, take, drop, length-drop}
use lib.Seq.{length-take-le, take_all}
use Rattle.bits.specs.Texts.{bits, pack_to}
use Rattle.bits.specs.Blocks.{Bytes, Block}
use Rattle.bits.proofs.Texts.{take-bits, take_bytes, drop_bytes, pack_to-bits}
use Rattle.questions.specs.Questions.{ask}
use Rattle.modes.proofs.WorkLaws.{part_all}
use Rattle.single.specs.Single.{block_at, neighbour_of, neighbour_questions, neighbour_answer}

-- ---- what the call answers

module _ (iv text : List ℕ) (j : ℕ) {number : ℕ} (asked : number ≡ ask (neighbour_questions iv text j)) where
  pub answer-refused : (number ≡ 0 → ⊥) → [] ≡ neighbour_answer iv text j
  unfolding neighbour_answer
  answer-refused some = rw (← asked, ne_eqb number 0 some)

  pub answer-taken : number ≡ 0 → neighbour_of iv text j ≡ neighbour_answer iv text j
  unfolding neighbour_answer
  answer-taken none = rw (← asked, eq-eqb number 0 none)

-- ---- blocks

pub block_is : (text : List ℕ) → Bytes text → (j : ℕ) → suc j * 16 ≤ length text → Block (block_at text j)
unfolding block_at
block_is text h j there =
    record { size = length-take-le 16 (drop (j * 16) text) (simp length-drop (omega arith)); bytes = take_bytes 16 (drop_bytes (j * 16) h) }

pub neighbour_is : (iv text : List ℕ) → Block iv → Bytes text → (j : ℕ) → suc j * 16 ≤ length text → Block (neighbour_of iv text j)
unfolding neighbour_of
neighbour_is iv text block h zero there = block
neighbour_is iv text block h (suc j) there = block_is text h j (omega arith)

-- the first 128 bits of a slice, read as a block
window_block : (s : List ℕ) → Bytes s → 16 ≤ length s → pack_to 16 (take 128 (drop 0 (bits s))) ≡ take 16 s
window_block s h long =
    ap (pack_to 16) (take-bits 16 s)
    ∙ ap (λ (k : ℕ). pack_to k (bits (take 16 s))) (sym (length-take-le 16 s long))
    ∙ pack_to-bits (take 16 s) (take_bytes 16 h)

pub window_at : (text : List ℕ) → Bytes text → (j : ℕ) → suc j * 16 ≤ length text
    → pack_to 16 (take 128 (drop 0 (bits (take (length text - j * 16) (drop (j * 16) text))))) ≡ block_at text j
unfolding block_at
window_at text h j there =
    rw part_all (window_block (drop (j * 16) text) (drop_bytes (j * 16) h) (simp length-drop (omega arith)))

pub window_whole : (b : List ℕ) → Block b → pack_to 16 (take 128 (drop 0 (bits b))) ≡ b
window_whole b block = window_block b block.bytes (le_of_eq (sym block.size)) ∙ take_all 16 b (le_of_eq block.size)
