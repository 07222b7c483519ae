-- A text processed in parts: the register after the first part starts the second; the results join. Assumes nothing.
use Prim.Native.Nat.{ℕ, zero, suc, ◌+◌, ◌*◌, ◌≤◌, ◌<◌}
use mathlib.Core.Path.{◌≡◌, refl, ap₂}
use mathlib.Core.Bool.{Bool}
use mathlib.Core.List.{List, ◌++◌}
use native.Mathlib.Nat.{add-zero, add-suc, le_refl, le_of_lt}
use native.Mathlib.Omega.{arith}
use lib.ListN.{length, drop, length-append}
use lib.Seq.{drop_at}
use Rattle.rules.specs.declared.Mode.{Mode}
use Rattle.rules.specs.declared.Direction.{Direction}
use Rattle.rules.specs.Rules.{next_of, unit_at, units_in, register_at, out_at, worked}
use Rattle.rules.proofs.Counts.{units_add, units_of}
use Rattle.rules.proofs.Joined.{unit_from, unit-first, joined_same, joined_add}

module _ (enc dec : List ℕ → List ℕ) (mode : Mode) (dir : Direction) (n m : ℕ) where
  -- Texts with the same first t units lead to the same register.
  pub register-same : (r : List ℕ) (x y : List Bool) (t : ℕ) → ((s : ℕ) → s < t → unit_at n x s ≡ unit_at n y s)
      → register_at enc dec mode dir n m r x t ≡ register_at enc dec mode dir n m r y t
  unfolding register_at
  register-same r x y zero same = refl
  register-same r x y (suc t) same =
      ap₂ (next_of enc dec mode dir m) (register-same r x y t (λ s h. same s (omega arith))) (same t (omega arith))

  -- From unit k on, the work goes as on the rest of the text from the register there.
  pub register-from : (r : List ℕ) (x : List Bool) (k t : ℕ)
      → register_at enc dec mode dir n m r x (k + t) ≡ register_at enc dec mode dir n m (register_at enc dec mode dir n m r x k) (drop (k * n) x) t
  unfolding register_at
  register-from r x k zero = rw add-zero
  register-from r x k (suc t) = rw (add-suc, register-from r x k t, unit_from)

  pub out-from : (r : List ℕ) (x : List Bool) (k t : ℕ)
      → out_at enc dec mode dir n m r x (k + t) ≡ out_at enc dec mode dir n m (register_at enc dec mode dir n m r x k) (drop (k * n) x) t
  unfolding out_at
  out-from r x k t = rw (register-from, unit_from)

  -- A text in two parts, the first of k units.
  module _ (r : List ℕ) (x y : List Bool) (k : ℕ) (whole : length x ≡ k * n) where
    pub register-first : (t : ℕ) → t ≤ k → register_at enc dec mode dir n m r (x ++ y) t ≡ register_at enc dec mode dir n m r x t
    register-first t h = register-same r (x ++ y) x t (λ s i. unit-first n k x y whole s (omega arith))

    pub out_first : (t : ℕ) → t < k → out_at enc dec mode dir n m r (x ++ y) t ≡ out_at enc dec mode dir n m r x t
    unfolding out_at
    out_first t h = rw (register-first t (le_of_lt h), unit-first n k x y whole t)

    pub register-second : (t : ℕ)
        → register_at enc dec mode dir n m r (x ++ y) (k + t) ≡ register_at enc dec mode dir n m (register_at enc dec mode dir n m r x k) y t
    register-second t = rw (register-from, register-first k (le_refl k), drop_at x y (k * n) whole)

    pub out-second : (t : ℕ) → out_at enc dec mode dir n m r (x ++ y) (k + t) ≡ out_at enc dec mode dir n m (register_at enc dec mode dir n m r x k) y t
    out-second t = rw (out-from, register-first k (le_refl k), drop_at x y (k * n) whole)

    pub units-append : 0 < n → units_in n (length (x ++ y)) ≡ k + units_in n (length y)
    units-append pos = rw (length-append, whole) (units_add k (length y) pos)

    pub worked-append : 0 < n
        → worked enc dec mode dir n m r (x ++ y) ≡ worked enc dec mode dir n m r x ++ worked enc dec mode dir n m (register_at enc dec mode dir n m r x k) y
    unfolding worked
    worked-append pos =
        rw (units-append pos, whole, units_of k pos, joined_add)
        (ap₂ ◌++◌ (joined_same k out_first) (joined_same (units_in n (length y)) (λ t h. out-second t)))
