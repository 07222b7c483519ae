-- The two matrices of MixColumns undo each other: a product goes through a sum, sums of sums are turned, and one
-- computed test at the bytes with one digit says that the matrices' product gives a byte on the diagonal and 0
-- elsewhere. Assumes nothing.
use mathlib.Core.Path.{◌≡◌, refl, sym, ap, ◌∙◌}
use mathlib.Core.Bool.{Bool, true, false, cond}
use mathlib.Core.List.{List}
use Prim.Native.Nat.{ℕ, ◌^◌, ◌<◌}
use native.Mathlib.Omega.{arith}
use lib.Dec.{T, eqb, eqb→eq}
use Rattle.bits.specs.Xor.{xor}
use Rattle.bits.proofs.Xor as Xor
use Rattle.bits.proofs.Tables.{every_below, below}
use Rattle.field.specs.Field.{double, shift_add, product}
use Rattle.field.proofs.FieldLaws.{product-xor, product_byte}
use Rattle.field.proofs.Linear.{Linear, linear-ext}
use Rattle.steps.specs.Steps.{circulant, dot, mix_row, inv_mix_row}
use Rattle.field.proofs.Fours.{places}

sum : (ℕ → ℕ) → ℕ
sum g = xor (g 0) (xor (g 1) (xor (g 2) (g 3)))

product_sum : (c : ℕ) (g : ℕ → ℕ) → product c (sum g) ≡ sum (λ k. product c (g k))
unfolding sum
product_sum c g = simp product-xor

sum_turned : (t : ℕ → ℕ → ℕ) → sum (λ k. sum (t k)) ≡ sum (λ j. sum (λ k. t k j))
unfolding sum
sum_turned t = simp Xor.sorted

sum_ext : (f g : ℕ → ℕ) → ((k : ℕ) → k < 4 → f k ≡ g k) → sum f ≡ sum g
unfolding sum
sum_ext f g h = rw (h 0 (omega arith), h 1 (omega arith), h 2 (omega arith), h 3 (omega arith))

-- entry (r, j) of the product of two such matrices, times a byte
entry : List ℕ → List ℕ → ℕ → ℕ → ℕ → ℕ
entry back there r j b = sum (λ k. product (circulant back r k) (product (circulant there k j) b))

-- the byte where r is j, and 0 elsewhere
diagonal : ℕ → ℕ → ℕ → ℕ
diagonal r j b = cond (eqb r j) b 0

sum_diagonal : (x : ℕ → ℕ) (r : ℕ) → r < 4 → sum (λ j. diagonal r j (x j)) ≡ x r
unfolding sum diagonal
sum_diagonal x =
    places (λ r. sum (λ j. diagonal r j (x j)) ≡ x r)
    (simp (Xor.zero_left, Xor.zero_right)) (simp (Xor.zero_left, Xor.zero_right)) (simp (Xor.zero_left, Xor.zero_right)) (simp Xor.zero_left)

entry_linear : (back there : List ℕ) (r j : ℕ) → Linear (entry back there r j)
unfolding entry sum
entry_linear back there r j a b = simp (product-xor, Xor.sorted)

diagonal_linear : (r j : ℕ) → Linear (diagonal r j)
unfolding diagonal
diagonal_linear r j a b = go (eqb r j)
  where
    go : (t : Bool) → cond t (xor a b) 0 ≡ xor (cond t a 0) (cond t b 0)
    go true = refl
    go false = sym (Xor.self 0)

-- the computed test: every row, every column, every byte with one digit
abbrev right : List ℕ → List ℕ → ℕ → ℕ → ℕ → Bool
right back there r j i = eqb (entry back there r j (2 ^ i)) (diagonal r j (2 ^ i))

abbrev Unmixes : List ℕ → List ℕ → Type 0
Unmixes back there = T (every_below (λ r. every_below (λ j. every_below (right back there r j) 8) 4) 4)

entries : (back there : List ℕ) → Unmixes back there → (r j b : ℕ) → r < 4 → j < 4 → b < 256 → entry back there r j b ≡ diagonal r j b
entries back there t r j b hr hj hb =
    linear-ext (entry back there r j) (diagonal r j) (entry_linear back there r j) (diagonal_linear r j) 8
    (λ i hi. eqb→eq (entry back there r j (2 ^ i)) (diagonal r j (2 ^ i))
    (below (right back there r j) 8
    (below (λ j. every_below (right back there r j) 8) 4 (below (λ r. every_below (λ j. every_below (right back there r j) 8) 4) 4 t r hr) j hj) i hi))
    b hb

unmixed : (back there : List ℕ) → Unmixes back there → (x : ℕ → ℕ) → ((k : ℕ) → x k < 256) → (r : ℕ) → r < 4
    → dot (circulant back r) (λ k. dot (circulant there k) x) ≡ x r
unfolding dot sum entry
unmixed back there t x h r hr =
    sum_ext (λ k. product (circulant back r k) (dot (circulant there k) x)) (λ k. sum (λ j. product (circulant back r k) (product (circulant there k j) (x j))))
    (λ k hk. product_sum (circulant back r k) (λ j. product (circulant there k j) (x j)))
    ∙ sum_turned (λ k j. product (circulant back r k) (product (circulant there k j) (x j)))
    ∙ sum_ext (λ j. entry back there r j (x j)) (λ j. diagonal r j (x j)) (λ j hj. entries back there t r j (x j) hr hj (h j))
    ∙ sum_diagonal x r hr

pub dot_ext : (m x y : ℕ → ℕ) → ((k : ℕ) → k < 4 → x k ≡ y k) → dot m x ≡ dot m y
unfolding dot sum
dot_ext m x y h = sum_ext (λ k. product (m k) (x k)) (λ k. product (m k) (y k)) (λ k hk. ap (product (m k)) (h k hk))

pub dot_byte : (m x : ℕ → ℕ) → ((k : ℕ) → x k < 256) → dot m x < 256
unfolding dot
dot_byte m x h = Xor.width 8 (product_byte _ _ (h 0)) (Xor.width 8 (product_byte _ _ (h 1)) (Xor.width 8 (product_byte _ _ (h 2)) (product_byte _ _ (h 3))))

backward_forward : Unmixes inv_mix_row mix_row
unfolding xor double shift_add product circulant sum entry diagonal
backward_forward = tt

forward_backward : Unmixes mix_row inv_mix_row
unfolding xor double shift_add product circulant sum entry diagonal
forward_backward = tt

-- MixColumns, then its inverse, on a column x; and the other way round
pub unmix : (x : ℕ → ℕ) → ((k : ℕ) → x k < 256) → (r : ℕ) → r < 4 → dot (circulant inv_mix_row r) (λ k. dot (circulant mix_row k) x) ≡ x r
unmix = unmixed inv_mix_row mix_row backward_forward

pub remix : (x : ℕ → ℕ) → ((k : ℕ) → x k < 256) → (r : ℕ) → r < 4 → dot (circulant mix_row r) (λ k. dot (circulant inv_mix_row k) x) ≡ x r
remix = unmixed mix_row inv_mix_row forward_backward
