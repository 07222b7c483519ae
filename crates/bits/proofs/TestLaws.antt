-- A chain of tests `n == a || n == b || n == d`: what holds of a, b and d holds of each number that passes. Assumes
-- nothing.
use mathlib.Core.Path.{◌≡◌, refl}
use mathlib.Core.Bool.{Bool, true, false, cond}
use Prim.Native.Nat.{ℕ}
use lib.Dec.{eqb}
use borrow.Author.Tests.{eqb-true}

pub passed : (P : ℕ → Type 0) (n a b d : ℕ) → cond (eqb n a) true (cond (eqb n b) true (eqb n d)) ≡ true → P a → P b → P d → P n
passed P n a b d e pa pb pd = go (eqb n a) (eqb n b) (eqb-true n a) (eqb-true n b) e
  where
    go : (t u : Bool) → (t ≡ true → n ≡ a) → (u ≡ true → n ≡ b) → cond t true (cond u true (eqb n d)) ≡ true → P n
    go true u h k e = rw (h refl) pa
    go false true h k e = rw (k refl) pb
    go false false h k e = rw (eqb-true n d e) pd
