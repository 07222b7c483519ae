-- A text cut into units, and texts joined from parts. Assumes nothing.
use Prim.Native.Nat.{ℕ, zero, suc, ◌+◌, ◌-◌, ◌*◌, ◌≤◌, ◌<◌, min}
use mathlib.Core.Path.{◌≡◌, refl, sym, ap₂, ◌∙◌}
use mathlib.Core.Bool.{Bool}
use mathlib.Core.List.{List, [], ◌++◌, append_assoc, append-nil}
use native.Mathlib.Nat.{not-suc-le-zero, mul-le-mul_right, add-mul, suc-mul, zero-mul, add-zero, add-suc}
use native.Mathlib.Decide.{dec_lt}
use native.Mathlib.Omega.{arith}
use lib.ListN.{length, take, drop, length-append, length-take, length-drop, drop_of_length-le}
use lib.Seq.{take_all, take-nil, drop_at, drop-drop, take-add, take-append-le, drop-append-le}
use Rattle.rules.specs.Rules.{unit_at, joined}

-- ---- units of a text

pub unit_length : (n : ℕ) (x : List Bool) (t : ℕ) → length (unit_at n x t) ≡ min n (length x - t * n)
unfolding unit_at
unit_length n x t = simp (length-take, length-drop)

pub unit_short : (n : ℕ) (x : List Bool) (t : ℕ) → length (unit_at n x t) ≤ n
unit_short n x t = rw unit_length (omega arith)

pub unit_full : {n : ℕ} (x : List Bool) (t : ℕ) → suc t * n ≤ length x → length (unit_at n x t) ≡ n
unit_full x t h = rw unit_length (omega arith)

pub unit_past : (n : ℕ) (x : List Bool) (t : ℕ) → length x ≤ t * n → unit_at n x t ≡ []
unfolding unit_at
unit_past n x t h = rw (drop_of_length-le x h, take-nil)

-- Unit t of what follows the first k units is unit k + t.
pub unit_from : (n : ℕ) (x : List Bool) (k t : ℕ) → unit_at n (drop (k * n) x) t ≡ unit_at n x (k + t)
unfolding unit_at
unit_from n x k t = rw (drop-drop, add-mul)

-- Of a text in two parts, the first of k units.
module _ (n k : ℕ) (x y : List Bool) (whole : length x ≡ k * n) where
  pub unit-first : (t : ℕ) → t < k → unit_at n (x ++ y) t ≡ unit_at n x t
  unfolding unit_at
  unit-first t h =
      let inside : suc t * n ≤ k * n = mul-le-mul_right n h in
      rw (drop-append-le (t * n) x y (omega arith), take-append-le n (drop (t * n) x) y (simp length-drop (omega arith)))

  pub unit-second : (t : ℕ) → unit_at n (x ++ y) (k + t) ≡ unit_at n y t
  unit-second t = rw (← unit_from, drop_at x y (k * n) whole)

  pub unit-last : length y ≤ n → unit_at n (x ++ y) k ≡ y
  unfolding unit_at
  unit-last short = rw (drop_at x y (k * n) whole, take_all n y short)

-- ---- joined parts

pub joined_same : (k : ℕ) {f g : ℕ → List Bool} → ((t : ℕ) → t < k → f t ≡ g t) → joined k f ≡ joined k g
unfolding joined
joined_same zero same = refl
joined_same (suc k) same = ap₂ ◌++◌ (joined_same k (λ t h. same t (omega arith))) (same k (omega arith))

pub joined-same-length : (k : ℕ) (f g : ℕ → List Bool) → ((t : ℕ) → t < k → length (f t) ≡ length (g t)) → length (joined k f) ≡ length (joined k g)
unfolding joined
joined-same-length zero f g same = refl
joined-same-length (suc k) f g same =
    simp length-append (ap₂ ◌+◌ (joined-same-length k f g (λ t h. same t (omega arith))) (same k (omega arith)))

pub joined_length : {n : ℕ} (k : ℕ) (f : ℕ → List Bool) → ((t : ℕ) → t < k → length (f t) ≡ n) → length (joined k f) ≡ k * n
unfolding joined
joined_length {n} zero f full = sym (zero-mul n)
joined_length {n} (suc k) f full =
    let before = joined_length k f (λ t h. full t (omega arith)) in
    let last = full k (omega arith) in
    simp length-append (omega arith)

pub joined_add : (k m : ℕ) (f : ℕ → List Bool) → joined (k + m) f ≡ joined k f ++ joined m (λ t. f (k + t))
unfolding joined
joined_add k zero f = rw (add-zero, append-nil)
joined_add k (suc m) f = rw (add-suc, joined_add k m f, append_assoc)

-- The units of a text, joined, are the text.
pub joined_units : (n : ℕ) (x : List Bool) (k : ℕ) → joined k (unit_at n x) ≡ take (k * n) x
unfolding joined unit_at
joined_units n x zero = rw zero-mul
joined_units n x (suc k) = rw (suc-mul, take-add, joined_units n x k)

-- Unit t of joined parts is part t: the parts before the last have n bits, and the last at most n.
pub unit_joined : {n : ℕ} (k : ℕ) (f : ℕ → List Bool) → ((t : ℕ) → t < k → length (f t) ≤ n) → ((t : ℕ) → suc t < k → length (f t) ≡ n)
    → (t : ℕ) → t < k → unit_at n (joined k f) t ≡ f t
unfolding joined
unit_joined zero f short full t h = absurd (not-suc-le-zero h)
unit_joined {n} (suc k) f short full t h =
    either (dec_lt t k) (unit_joined k f (λ s i. short s (omega arith)) (λ s i. full s (omega arith)) t)
  where
    whole : length (joined k f) ≡ k * n
    whole = joined_length k f (λ s i. full s (omega arith))

    either : Dec (t < k) → (t < k → unit_at n (joined k f) t ≡ f t) → unit_at n (joined k f ++ f k) t ≡ f t
    either (yes i) before = unit-first n k (joined k f) (f k) whole t i ∙ before i
    either (no i) before =
        let last : t ≡ k = omega arith in
        rw last (unit-last n k (joined k f) (f k) whole (short k (omega arith)))
