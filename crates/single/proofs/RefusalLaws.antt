-- What a refusal leaves: the output as it was, and an empty neighbour where one that is not refused has 16 bytes.
-- Assumes nothing.
use Prim.Native.Nat.{ℕ, zero, suc, ◌*◌, ◌≤◌}
use mathlib.Core.Path.{◌≡◌, refl, sym, ap, ◌∙◌}
use mathlib.Core.List.{List}
use native.Mathlib.Omega.{arith}
use borrow.Author.Tests.{ne_eqb}
use lib.ListN.{length, drop, length-drop}
use lib.Seq.{length-take-le}
use Rattle.single.specs.Single.{block_at, neighbour_of, single_number}
use Rattle.single.specs.Promises.{BlockRefusedUnchanged, EmptyIsRefused}
use Rattle.single.proofs.NumberLaws.{neighbour_taken, iv-length, block_there}
use Rattle.single.proofs.NeighbourLaws.{answer-refused, answer-taken}

pub block_refused_unchanged : BlockRefusedUnchanged
unfolding BlockRefusedUnchanged
block_refused_unchanged key iv text j out place number after by refused =
    rw (ne_eqb (single_number key iv text j (length out) place) 0 (λ e. refused (by.answer ∙ e))) at by.output

neighbour_length : (iv text : List ℕ) (j : ℕ) → length iv ≡ 16 → suc j * 16 ≤ length text → length (neighbour_of iv text j) ≡ 16
unfolding neighbour_of block_at
neighbour_length iv text zero size there = size
neighbour_length iv text (suc j) size there = length-take-le 16 (drop (j * 16) text) (simp length-drop (omega arith))

pub empty_is_refused : EmptyIsRefused
unfolding EmptyIsRefused
empty_is_refused iv text j = (
  λ none.
      let taken = neighbour_taken iv text j none in
      ap length (sym (answer-taken iv text j refl none))
      ∙ neighbour_length iv text j (iv-length iv taken.iv_yes) (block_there (length text) j taken.block_yes).1,
  λ some. sym (answer-refused iv text j refl some),
)
