-- One ciphertext unit changed, in any mode that recovers: the registers up to it are the same, and after it comes
-- a common run, so no plaintext unit outside the mode's reach differs. The unit itself does. Assumes nothing.
use Prim.Native.Nat.{ℕ, suc, ◌+◌, ◌-◌, ◌*◌, ◌≤◌, ◌<◌}
use mathlib.Core.Path.{◌≡◌, sym, ap, ap₂, ◌∙◌}
use mathlib.Core.Bool.{Bool, true}
use mathlib.Core.List.{List}
use mathlib.Core.Option.{some}
use native.Mathlib.Nat.{le_refl, le_of_lt, mul-le-mul_right}
use native.Mathlib.Decide.{dec_lt, dec_le}
use native.Mathlib.Omega.{arith}
use lib.ListN.{length}
use Rattle.bits.specs.Blocks.{Block, BlockCipher}
use Rattle.rules.specs.declared.Mode.{Mode}
use Rattle.rules.specs.declared.Direction.TheVariants.{Decrypt}
use Rattle.rules.specs.Lengths.{unit_length_ok}
use Rattle.rules.specs.Rules.{start, cipher_unit, plain_unit, out_of, unit_at, units_in, register_at, out_at, worked}
use Rattle.rules.specs.Recovery.{recovery_units}
use Rattle.rules.specs.Promises.{OneUnitChanged}
use Rattle.rules.proofs.Counts.{unit_there, whole_there, units_cover}
use Rattle.rules.proofs.Joined.{unit_past}
use Rattle.rules.proofs.Append.{register-same}
use Rattle.rules.proofs.Units.{UnitLength, cipher-plain}
use Rattle.rules.proofs.Taken.{Taken}
use Rattle.rules.proofs.Undo.{registers-block, worked-length, worked-unit}
use Rattle.rules.proofs.Recovering.Runs.{run-register}

-- Different units stay different under one register.
plain_cancel : {enc dec : List ℕ → List ℕ} → BlockCipher enc dec → {r : List ℕ} → Block r → (mode : Mode) (c d : List Bool)
    → UnitLength mode (length c) → UnitLength mode (length d) → plain_unit enc dec mode r c ≡ plain_unit enc dec mode r d → c ≡ d
plain_cancel {enc} {dec} ciphers {r} block mode c d lc ld same =
    sym (cipher-plain ciphers block mode c lc) ∙ ap (cipher_unit enc dec mode r) same ∙ cipher-plain ciphers block mode d ld

module _ {enc dec : List ℕ → List ℕ} (ciphers : BlockCipher enc dec) (m : ℕ) {mode : Mode} {n : ℕ} (v : List ℕ) (block : Block (start mode v)) where
  pub plain-unit : {x : List Bool} → Taken mode n x → (t : ℕ) → t < units_in n (length x)
      → unit_at n (worked enc dec mode Decrypt n m (start mode v) x) t ≡ plain_unit enc dec mode (register_at enc dec mode Decrypt n m (start mode v) x t) (unit_at n x t)
  unfolding out_at out_of
  plain-unit text t h = worked-unit ciphers m Decrypt block text t h

  module _ (x y : List Bool) (tx : Taken mode n x) (ty : Taken mode n y) (j : ℕ) (change : OneUnitChanged n x y j) where
    pub there : (t : ℕ) → t < units_in n (length x) → t < units_in n (length y)
    there t h = rw (← change.same_length) h

    pub changed-there : j < units_in n (length x)
    changed-there = whole_there (length x) j tx.some change.inside

    pub register-before : (t : ℕ) → t ≤ j → register_at enc dec mode Decrypt n m (start mode v) x t ≡ register_at enc dec mode Decrypt n m (start mode v) y t
    register-before t h = register-same enc dec mode Decrypt n m (start mode v) x y t (λ s i. change.others s (omega arith))

    -- after unit j the texts are a common run
    register-behind : unit_length_ok mode n ≡ true → {c : ℕ} → recovery_units mode n ≡ some c → (t : ℕ) → suc j + c ≤ t → t * n ≤ length x
        → register_at enc dec mode Decrypt n m (start mode v) x t ≡ register_at enc dec mode Decrypt n m (start mode v) y t
    register-behind ok rec t from inside =
        let k = t - suc j in
        let e : suc j + k ≡ t = omega arith in
        rw e at
        (run-register ciphers m n v v x y (suc j) (suc j) k
        (record { inside_x = rw e inside; inside_y = rw (e, ← change.same_length) inside; equal = λ s h. change.others (suc j + s) (omega arith) })
        mode ok block block rec k (omega arith) (le_refl k))

    pub undamaged : unit_length_ok mode n ≡ true → {c : ℕ} → recovery_units mode n ≡ some c → (t : ℕ) → (j ≤ t → suc j + c ≤ t)
        → unit_at n (worked enc dec mode Decrypt n m (start mode v) x) t ≡ unit_at n (worked enc dec mode Decrypt n m (start mode v) y) t
    undamaged ok rec t outside = either (dec_lt t (units_in n (length x)))
      where
        register : t < units_in n (length x) → Dec (j ≤ t) → register_at enc dec mode Decrypt n m (start mode v) x t ≡ register_at enc dec mode Decrypt n m (start mode v) y t
        register h (yes i) = register-behind ok rec t (outside i) (le_of_lt ((unit_there (length x) t tx.some).0 h))
        register h (no i) = register-before t (omega arith)

        either : Dec (t < units_in n (length x))
            → unit_at n (worked enc dec mode Decrypt n m (start mode v) x) t ≡ unit_at n (worked enc dec mode Decrypt n m (start mode v) y) t
        either (yes h) =
            plain-unit tx t h
            ∙ ap₂ (plain_unit enc dec mode) (register h (dec_le j t)) (change.others t (λ e. omega (arith, outside (omega arith))))
            ∙ sym (plain-unit ty t (there t h))
        either (no h) =
            let behind : units_in n (length x) ≤ t = omega arith in
            let past : length x ≤ t * n = omega (arith, units_cover (length x) tx.some, mul-le-mul_right n behind) in
            unit_past n _ t (omega (arith, worked-length ciphers m Decrypt block tx))
            ∙ sym (unit_past n _ t (omega (arith, worked-length ciphers m Decrypt block ty, change.same_length)))

    pub damaged-here : unit_at n (worked enc dec mode Decrypt n m (start mode v) x) j ≡ unit_at n (worked enc dec mode Decrypt n m (start mode v) y) j → ⊥
    damaged-here e =
        let h = changed-there in
        let i = there j h in
        change.changed
        (plain_cancel ciphers (registers-block ciphers m Decrypt block tx j (le_of_lt h)) mode (unit_at n x j) (unit_at n y j) (tx.unit j h) (ty.unit j i)
        (sym (plain-unit tx j h) ∙ e ∙ plain-unit ty j i
        ∙ ap (λ (r : List ℕ). plain_unit enc dec mode r (unit_at n y j)) (sym (register-before j (le_refl j)))))
