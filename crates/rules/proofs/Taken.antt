-- What questions 3, 7 and 14 let through: units that are not empty, at most a block long, and each of a length that its
-- mode's rule is for; counters of 1 to 128 bits. Assumes nothing.
use Prim.Native.Nat.{ℕ, ◌+◌, ◌*◌, ◌%◌, ◌≤◌, ◌<◌}
use mathlib.Core.Path.{◌≡◌, refl, ◌∙◌}
use mathlib.Core.Bool.{Bool, true, and-eq-true_iff}
use mathlib.Core.List.{List}
use native.Mathlib.Nat.{mul-le-mul_right, mul-add-mod_self_right}
use native.Mathlib.Omega.{arith}
use lib.Dec.{leb, eqb}
use lib.ListN.{length}
use borrow.Author.Tests.{leb-true, eqb-true}
use Rattle.rules.specs.declared.Mode.{Mode}
use Rattle.rules.specs.declared.Mode.TheVariants.{Ecb, Cbc, Cfb, Ofb, Ctr}
use Rattle.rules.specs.Lengths.{unit_length_ok, counter_length_ok, whole_units}
use Rattle.rules.specs.Rules.{unit_at, units_in}
use Rattle.rules.proofs.Counts.{whole-units}
use Rattle.rules.proofs.Joined.{unit_short, unit_full}
use Rattle.rules.proofs.Units.{UnitLength}

-- A unit has from 1 to 128 bits.
pub unit_bounds : (mode : Mode) (n : ℕ) → unit_length_ok mode n ≡ true → (0 < n) × (n ≤ 128)
unfolding unit_length_ok
unit_bounds Ecb n ok = omega (arith, eqb-true n 128 ok)
unit_bounds Cbc n ok = omega (arith, eqb-true n 128 ok)
unit_bounds Cfb n ok = let (some, short) = (and-eq-true_iff (leb 1 n) (leb n 128)).0 ok in (leb-true 1 n some, leb-true n 128 short)
unit_bounds Ofb n ok = omega (arith, eqb-true n 128 ok)
unit_bounds Ctr n ok = omega (arith, eqb-true n 128 ok)

-- So does a counter.
pub counter_bounds : (mode : Mode) (m : ℕ) → counter_length_ok mode m ≡ true → (0 < m) × (m ≤ 128)
unfolding counter_length_ok
counter_bounds Ecb m ok = omega (arith, eqb-true m 128 ok)
counter_bounds Cbc m ok = omega (arith, eqb-true m 128 ok)
counter_bounds Cfb m ok = omega (arith, eqb-true m 128 ok)
counter_bounds Ofb m ok = omega (arith, eqb-true m 128 ok)
counter_bounds Ctr m ok = let (some, fits) = (and-eq-true_iff (leb 1 m) (leb m 128)).0 ok in (leb-true 1 m some, leb-true m 128 fits)

-- Elsewhere than in CFB a unit is a block.
pub block_unit : (mode : Mode) (n : ℕ) → unit_length_ok mode n ≡ true → (mode ≡ Cfb → ⊥) → n ≡ 128
unfolding unit_length_ok
block_unit Ecb n ok other = eqb-true n 128 ok
block_unit Cbc n ok other = eqb-true n 128 ok
block_unit Cfb n ok other = absurd (other refl)
block_unit Ofb n ok other = eqb-true n 128 ok
block_unit Ctr n ok other = eqb-true n 128 ok

pub whole_unit : (n : ℕ) (x : List Bool) → 0 < n → eqb (length x % n) 0 ≡ true → (t : ℕ) → t < units_in n (length x) → length (unit_at n x t) ≡ n
whole_unit n x some whole t h =
    let bits = whole-units (length x) some (eqb-true (length x % n) 0 whole) in
    let inside = mul-le-mul_right n h in
    unit_full x t (omega arith)

-- A text that the mode takes in units of n bits.
pub record Taken (mode : Mode) (n : ℕ) (x : List Bool) : Type 0 where
  pub some : 0 < n
  pub unit : (t : ℕ) → t < units_in n (length x) → UnitLength mode (length (unit_at n x t))

taken_unit : (mode : Mode) (n : ℕ) (x : List Bool) → unit_length_ok mode n ≡ true → whole_units mode n (length x) ≡ true
    → (t : ℕ) → t < units_in n (length x) → UnitLength mode (length (unit_at n x t))
unfolding unit_length_ok whole_units UnitLength
taken_unit Ecb n x ok whole t h = whole_unit n x (unit_bounds Ecb n ok).0 whole t h ∙ eqb-true n 128 ok
taken_unit Cbc n x ok whole t h = whole_unit n x (unit_bounds Cbc n ok).0 whole t h ∙ eqb-true n 128 ok
taken_unit Cfb n x ok whole t h = omega (arith, unit_short n x t, unit_bounds Cfb n ok)
taken_unit Ofb n x ok whole t h = omega (arith, unit_short n x t, unit_bounds Ofb n ok)
taken_unit Ctr n x ok whole t h = omega (arith, unit_short n x t, unit_bounds Ctr n ok)

pub taken : (mode : Mode) (n : ℕ) (x : List Bool) → unit_length_ok mode n ≡ true → whole_units mode n (length x) ≡ true → Taken mode n x
taken mode n x ok whole = record { some = (unit_bounds mode n ok).0; unit = taken_unit mode n x ok whole }

-- Whole units in front do not count for question 7.
pub whole_append : (mode : Mode) (n k b : ℕ) → whole_units mode n (k * n + b) ≡ whole_units mode n b
unfolding whole_units
whole_append Ecb n k b = rw mul-add-mod_self_right
whole_append Cbc n k b = rw mul-add-mod_self_right
whole_append Cfb n k b = rw mul-add-mod_self_right
whole_append Ofb n k b = refl
whole_append Ctr n k b = refl
