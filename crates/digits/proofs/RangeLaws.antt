-- A byte between two others, and the value of a digit. Assumes nothing.
use mathlib.Core.Path.{◌≡◌, refl}
use mathlib.Core.Bool.{Bool, true, false, ◌&&◌, cond}
use Prim.Native.Nat.{ℕ, ◌+◌, ◌-◌, ◌≤◌, ◌<◌}
use native.Mathlib.Omega.{arith}
use borrow.Author.Tests.{leb-true}
use lib.Dec.{leb}
use Rattle.digits.specs.Texts.{between, value}

pub and_first : (a b : Bool) → (a && b) ≡ true → a ≡ true
and_first true b e = refl
and_first false b e = e

pub and_second : (a b : Bool) → (a && b) ≡ true → b ≡ true
and_second true b e = e
and_second false true e = refl
and_second false false e = e

module _ (low high b : ℕ) (e : between low high b ≡ true) where
  pub between-high : b ≤ high
  unfolding between
  between-high = leb-true b high (and_second (leb low b) (leb b high) e)

-- a digit's value is less than 16
below : (p q : Bool) (b : ℕ) → (p ≡ true → b ≤ 57) → (q ≡ true → b ≤ 102) → cond p (b - 48) (cond q (b - 97 + 10) 0) < 16
below true q b f g = omega (arith, f refl)
below false true b f g = omega (arith, g refl)
below false false b f g = omega arith

pub value_below : (b : ℕ) → value b < 16
unfolding value
value_below b = below (between 48 57 b) (between 97 102 b) b (between-high 48 57 b) (between-high 97 102 b)
