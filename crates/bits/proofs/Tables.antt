-- A rule for all numbers below n, and the rule of a table at each of its entries, each from one test that antt
-- computes; and the rule of a list that a loop fills, one store a turn. Assumes nothing.
use mathlib.Core.Path.{◌≡◌, refl}
use mathlib.Core.Bool.{Bool, true, false}
use mathlib.Core.List.{List, [], ◌∷◌}
use Prim.Native.Nat.{ℕ, zero, suc, ◌+◌, ◌≤◌, ◌<◌}
use native.Mathlib.Nat.{le_of_suc-le-suc, not-suc-le-zero}
use native.Mathlib.Omega.{arith}
use lib.Dec.{T, eqb, eqb→eq, ltb}
use lib.ListN.{length, get_or, set}
use lib.Seq.{get_or-set_same, get_or-set_other}
use borrow.Author.Tests.{ltb-true, ltb-false}

abbrev pub both : Bool → Bool → Bool
both true b = b
both false b = false

both_left : (a b : Bool) → T (both a b) → T a
both_left true b t = tt
both_left false b t = t

both_right : (a b : Bool) → T (both a b) → T b
both_right true b t = t
both_right false b t = absurd t

-- the test f passes at each number below n
abbrev pub every_below : (ℕ → Bool) → ℕ → Bool
every_below f zero = true
every_below f (suc n) = both (f 0) (every_below (λ k. f (suc k)) n)

pub below : (f : ℕ → Bool) (n : ℕ) → T (every_below f n) → (k : ℕ) → k < n → T (f k)
below f zero t k h = absurd (not-suc-le-zero h)
below f (suc n) t zero h = both_left (f 0) (every_below (λ k. f (suc k)) n) t
below f (suc n) t (suc k) h = below (λ k. f (suc k)) n (both_right (f 0) (every_below (λ k. f (suc k)) n) t) k (le_of_suc-le-suc h)

-- two functions agree at each number below n
pub agree : (f g : ℕ → ℕ) (n : ℕ) → T (every_below (λ k. eqb (f k) (g k)) n) → (k : ℕ) → k < n → f k ≡ g k
agree f g n t k h = eqb→eq (f k) (g k) (below (λ k. eqb (f k) (g k)) n t k h)

-- the entries of a list are the values of f at 0, 1, ..
abbrev pub tabulated : (ℕ → ℕ) → List ℕ → Bool
tabulated f [] = true
tabulated f (x ∷ xs) = both (eqb x (f 0)) (tabulated (λ k. f (suc k)) xs)

pub entry : (f : ℕ → ℕ) (xs : List ℕ) → T (tabulated f xs) → (k : ℕ) → k < length xs → get_or xs k 0 ≡ f k
entry f [] t k h = absurd (not-suc-le-zero h)
entry f (x ∷ xs) t zero h = eqb→eq x (f 0) (both_left (eqb x (f 0)) (tabulated (λ k. f (suc k)) xs) t)
entry f (x ∷ xs) t (suc k) h =
    entry (λ k. f (suc k)) xs (both_right (eqb x (f 0)) (tabulated (λ k. f (suc k)) xs) t) k (le_of_suc-le-suc h)

-- ---- a list that is filled

-- what is below i + 1 is below i, or i
below_next : (i : ℕ) (P : ℕ → Type 0) → ((j : ℕ) → j < i → P j) → P i → (j : ℕ) → j < i + 1 → P j
below_next i P p q j h = go (ltb j i) refl
  where
    go : (t : Bool) → ltb j i ≡ t → P j
    go true e = p j (ltb-true j i e)
    go false e =
        let above : i ≤ j = ltb-false j i e in
        let same : j ≡ i = omega arith in
        rw same q

-- P holds of the elements before place i, and of the one that is stored there
pub stored_next : (l : List ℕ) (i v : ℕ) → i < length l → (P : ℕ → ℕ → Type 0) → ((j : ℕ) → j < i → P j (get_or l j 0)) → P i v
    → (j : ℕ) → j < i + 1 → P j (get_or (set l i v) j 0)
stored_next l i v room P h e =
    below_next i (λ j. P j (get_or (set l i v) j 0)) (λ j hj. rw (get_or-set_other l i j v 0 (λ x. omega arith)) (h j hj)) (rw (get_or-set_same l i v 0 room) e)
