-- CTR's register is a counter block, j increments after the first: the bits above the lowest m stay, the lowest m are j
-- more modulo 2^m, and the first 2^m blocks differ. Assumes nothing.
use mathlib.Core.Path.{◌≡◌, refl, sym, ap, ◌∙◌}
use mathlib.Core.Bool.{Bool}
use mathlib.Core.List.{List}
use Prim.Native.Nat.{ℕ, zero, suc, ◌+◌, ◌-◌, ◌/◌, ◌%◌, ◌^◌, ◌<◌, ◌≤◌}
use native.Mathlib.Nat.{add-zero, add-suc, add-mod_right, mod-lt, mod-mod, mod-add-mod, mod-eq_of_lt}
use native.Mathlib.Numerals.{add-one}
use native.Mathlib.Omega.{arith}
use lib.Pow.{pow_pos}
use Rattle.bits.specs.Blocks.{Block}
use Rattle.bits.specs.Counter.{number, increment}
use Rattle.bits.proofs.Counter.{increment-block}
use Rattle.bits.proofs.Counting.{plus_one_upper, plus_one_lower, increment-number}
use Rattle.rules.specs.declared.Mode.TheVariants.{Ctr}
use Rattle.rules.specs.declared.Direction.{Direction}
use Rattle.rules.specs.declared.Direction.TheVariants.{Encrypt, Decrypt}
use Rattle.rules.specs.Rules.{next, next_of, register_at}
use Rattle.rules.specs.Standard.{counter}

pub ctr_register : (enc dec : List ℕ → List ℕ) (dir : Direction) (n m : ℕ) (r : List ℕ) (x : List Bool) (t : ℕ)
    → register_at enc dec Ctr dir n m r x t ≡ counter m r t
unfolding register_at next_of next counter
ctr_register enc dec dir n m r x zero = refl
ctr_register enc dec Encrypt n m r x (suc t) = ap (increment m) (ctr_register enc dec Encrypt n m r x t)
ctr_register enc dec Decrypt n m r x (suc t) = ap (increment m) (ctr_register enc dec Decrypt n m r x t)

pub counter-block : (m : ℕ) {r : List ℕ} → Block r → (j : ℕ) → Block (counter m r j)
unfolding counter
counter-block m h zero = h
counter-block m {r} h (suc j) = increment-block m (counter m r j)

pub counter_add : (m : ℕ) (r : List ℕ) (i j : ℕ) → counter m r (i + j) ≡ counter m (counter m r i) j
unfolding counter
counter_add m r i zero = rw add-zero
counter_add m r i (suc j) = rw add-suc (ap (increment m) (counter_add m r i j))

module _ {m : ℕ} (fits : m ≤ 128) {r : List ℕ} (h : Block r) where
  pub counter-number : (j : ℕ)
      → (number (counter m r j) / 2 ^ m ≡ number r / 2 ^ m) × (number (counter m r j) % 2 ^ m ≡ (number r % 2 ^ m + j) % 2 ^ m)
  unfolding counter
  counter-number zero = (refl, rw add-zero (sym (mod-mod (number r) (2 ^ m))))
  counter-number (suc j) =
      let next = increment-number m fits (counter m r j) (counter-block m h j) in (
        rw (next, plus_one_upper) (counter-number j).0,
        rw (next, plus_one_lower, (counter-number j).1, mod-add-mod (number r % 2 ^ m + j) (2 ^ m) 1, add-one, add-suc),
      )

  -- how many increments there were
  pub counter-count : (j : ℕ) → j < 2 ^ m → (number (counter m r j) % 2 ^ m + (2 ^ m - number r % 2 ^ m)) % 2 ^ m ≡ j
  counter-count j l =
      let first : number r % 2 ^ m < 2 ^ m = mod-lt (number r) (pow_pos m) in
      let sum : number r % 2 ^ m + j + (2 ^ m - number r % 2 ^ m) ≡ j + 2 ^ m = omega arith in
      rw ((counter-number j).1, mod-add-mod (number r % 2 ^ m + j) (2 ^ m) _, sum, add-mod_right) (mod-eq_of_lt l)

  pub counter-distinct : (i j : ℕ) → i < 2 ^ m → j < 2 ^ m → counter m r i ≡ counter m r j → i ≡ j
  counter-distinct i j below-i below-j same = sym (counter-count i below-i) ∙ rw same (counter-count j below-j)
