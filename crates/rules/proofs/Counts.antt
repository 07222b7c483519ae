-- How many units a text has: unit t is there exactly where its first bit is. Assumes nothing.
use Prim.Native.Nat.{ℕ, suc, ◌+◌, ◌-◌, ◌*◌, ◌/◌, ◌%◌, ◌≤◌, ◌<◌}
use mathlib.Core.Path.{◌≡◌, sym, ap, ◌∙◌}
use mathlib.Core.Logic.{◌↔◌}
use native.Mathlib.Nat.{mul-le-mul_left, div-lt_iff_lt-mul, le-div_iff_mul-le, lt-div-mul-add, mul-add-div_right, div-add-mod', div-eq_of_lt, add_assoc, add-zero, zero-mul}
use native.Mathlib.Omega.{arith}
use Rattle.rules.specs.Rules.{units_in}

pub unit_there : {n : ℕ} (b t : ℕ) → 0 < n → (t < units_in n b) ↔ (t * n < b)
unfolding units_in
unit_there {n} b t pos = (λ h. before ((le-div_iff_mul-le pos).0 h), λ h. (le-div_iff_mul-le pos).1 (after h))
  where
    before : suc t * n ≤ b + (n - 1) → t * n < b
    before h = omega arith

    after : t * n < b → suc t * n ≤ b + (n - 1)
    after h = omega arith

-- A unit that is there whole is there.
pub whole_there : {n : ℕ} (b t : ℕ) → 0 < n → suc t * n ≤ b → t < units_in n b
whole_there b t pos h = (unit_there b t pos).1 (omega arith)

-- The units cover the text.
pub units_cover : {n : ℕ} (b : ℕ) → 0 < n → b ≤ units_in n b * n
unfolding units_in
units_cover {n} b pos = omega (arith, lt-div-mul-add {a = b + (n - 1)} pos)

-- A text has no more units than bits.
pub units_few : {n : ℕ} (b : ℕ) → 0 < n → units_in n b ≤ b
unfolding units_in
units_few {n} b pos =
    let long : b * 1 ≤ b * n = mul-le-mul_left b pos in
    let below : units_in n b < suc b = (div-lt_iff_lt-mul pos).1 (omega arith) in
    omega arith

-- Whole units in front count by themselves.
pub units_add : {n : ℕ} (k b : ℕ) → 0 < n → units_in n (k * n + b) ≡ k + units_in n b
unfolding units_in
units_add {n} k b pos = rw (add_assoc, mul-add-div_right pos)

pub units_of : {n : ℕ} (k : ℕ) → 0 < n → units_in n (k * n) ≡ k
unfolding units_in
units_of {n} k pos = mul-add-div_right pos k (n - 1) ∙ ap (◌+◌ k) (div-eq_of_lt (omega arith)) ∙ add-zero k

pub units_none : {n : ℕ} → 0 < n → units_in n 0 ≡ 0
units_none {n} pos = rw zero-mul at (units_of 0 pos)

-- A text of whole units has as many bits as its units.
pub whole-units : {n : ℕ} (b : ℕ) → 0 < n → b % n ≡ 0 → b ≡ units_in n b * n
whole-units {n} b pos whole = of-units (b / n) (omega (arith, div-add-mod' b n))
  where
    of-units : (k : ℕ) → b ≡ k * n → b ≡ units_in n b * n
    of-units k e = e ∙ ap (λ (m : ℕ). m * n) (sym (units_of k pos) ∙ ap (units_in n) (sym e))
