-- A common run: after as many units as its mode needs, both decryptions have the same register and go on alike. In CFB
-- this is the register law, with no case on whether n divides 128. Assumes nothing.
use Prim.Native.Nat.{ℕ, zero, suc, ◌+◌, ◌-◌, ◌*◌, ◌≤◌, ◌<◌}
use mathlib.Core.Path.{◌≡◌, refl, sym, ap, ap₂, ◌∙◌}
use mathlib.Core.Bool.{Bool, true}
use mathlib.Core.List.{List}
use mathlib.Core.Option.{some, some-injective}
use native.Mathlib.Nat.{le_of_lt, add-suc, not-suc-le-zero, mul-le-mul_right}
use native.Mathlib.Omega.{arith}
use lib.ListN.{length, take, drop, length-drop}
use Rattle.bits.specs.Texts.{pack}
use Rattle.bits.specs.Blocks.{Block, BlockCipher}
use Rattle.bits.proofs.Texts.{block-pack-bits}
use Rattle.rules.specs.declared.Mode.{Mode}
use Rattle.rules.specs.declared.Mode.TheVariants.{Ecb, Cbc, Cfb, Ofb, Ctr}
use Rattle.rules.specs.declared.Direction.TheVariants.{Decrypt}
use Rattle.rules.specs.Lengths.{unit_length_ok}
use Rattle.rules.specs.Rules.{next, next_of, out_of, start, unit_at, units_in, register_at, out_at, worked}
use Rattle.rules.specs.Recovery.{recovery_units}
use Rattle.rules.specs.Promises.{CommonRun}
use Rattle.rules.proofs.Counts.{whole_there, units_cover}
use Rattle.rules.proofs.Joined.{unit_from, joined_same, joined_units}
use Rattle.rules.proofs.Append.{register-from}
use Rattle.rules.proofs.Register.{cfb-block, cfb-register-new}
use Rattle.rules.proofs.Taken.{Taken, unit_bounds}
use Rattle.rules.proofs.Undo.{worked-unit}

-- Equal units are equal bits.
run_bits : (n : ℕ) (x y : List Bool) (k : ℕ) → ((t : ℕ) → t < k → unit_at n x t ≡ unit_at n y t) → take (k * n) x ≡ take (k * n) y
run_bits n x y k equal = sym (joined_units n x k) ∙ joined_same k equal ∙ joined_units n y k

-- ---- each mode's register

module _ (enc dec : List ℕ → List ℕ) (m : ℕ) where
  pub ecb-register : (n : ℕ) (r : List ℕ) (x : List Bool) (t : ℕ) → register_at enc dec Ecb Decrypt n m r x t ≡ r
  unfolding register_at next_of next
  ecb-register n r x zero = refl
  ecb-register n r x (suc t) = ecb-register n r x t

  pub cbc-register : (n : ℕ) (r : List ℕ) (x : List Bool) (t : ℕ) → register_at enc dec Cbc Decrypt n m r x (suc t) ≡ pack (unit_at n x t)
  unfolding register_at next_of next
  cbc-register n r x t = refl

module _ {enc dec : List ℕ → List ℕ} (ciphers : BlockCipher enc dec) (m : ℕ) where
  -- From two registers, over the same bits, 128 or more.
  cfb-same : (n : ℕ) → n ≤ 128 → {r s : List ℕ} → Block r → Block s → (x y : List Bool) (t : ℕ) → t * n ≤ length x → t * n ≤ length y → 128 ≤ t * n
      → take (t * n) x ≡ take (t * n) y → register_at enc dec Cfb Decrypt n m r x t ≡ register_at enc dec Cfb Decrypt n m s y t
  cfb-same n short {r} {s} br bs x y t hx hy new same =
      sym (block-pack-bits (cfb-block ciphers m br n short x t))
      ∙ ap pack (cfb-register-new ciphers m br n short x t hx new ∙ ap (drop (t * n - 128)) same ∙ sym (cfb-register-new ciphers m bs n short y t hy new))
      ∙ block-pack-bits (cfb-block ciphers m bs n short y t)

  -- ---- a common run

  module _ (n : ℕ) (v w : List ℕ) (x y : List Bool) (i j k : ℕ) (run : CommonRun n x y i j k) where
    cbc-run : (t : ℕ) → t < k → register_at enc dec Cbc Decrypt n m v x (i + suc t) ≡ register_at enc dec Cbc Decrypt n m w y (j + suc t)
    cbc-run t h = simp (add-suc, cbc-register enc dec m) (ap pack (run.equal t h))

    cfb-run : (0 < n) × (n ≤ 128) → Block v → Block w → (t : ℕ) → units_in n 128 ≤ t → t ≤ k
        → register_at enc dec Cfb Decrypt n m v x (i + t) ≡ register_at enc dec Cfb Decrypt n m w y (j + t)
    cfb-run bounds bv bw t from upto =
        let new : 128 ≤ t * n = omega (arith, units_cover 128 bounds.0, mul-le-mul_right n from) in
        let inside : t * n ≤ k * n = mul-le-mul_right n upto in
        register-from enc dec Cfb Decrypt n m v x i t
        ∙ cfb-same n bounds.1 (cfb-block ciphers m bv n bounds.1 x i) (cfb-block ciphers m bw n bounds.1 y j) (drop (i * n) x) (drop (j * n) y) t
        (rw length-drop (omega (arith, run.inside_x)))
        (rw length-drop (omega (arith, run.inside_y)))
        new
        (run_bits n (drop (i * n) x) (drop (j * n) y) t (λ s h. unit_from n x i s ∙ run.equal s (omega arith) ∙ sym (unit_from n y j s)))
        ∙ sym (register-from enc dec Cfb Decrypt n m w y j t)

    pub run-register : (mode : Mode) → unit_length_ok mode n ≡ true → Block (start mode v) → Block (start mode w) → {c : ℕ} → recovery_units mode n ≡ some c
        → (t : ℕ) → c ≤ t → t ≤ k
        → register_at enc dec mode Decrypt n m (start mode v) x (i + t) ≡ register_at enc dec mode Decrypt n m (start mode w) y (j + t)
    unfolding recovery_units start
    run-register Ecb ok bv bw rec t from upto = ecb-register enc dec m n _ x (i + t) ∙ sym (ecb-register enc dec m n _ y (j + t))
    run-register Cbc ok bv bw rec zero from upto = absurd (not-suc-le-zero (rw (← some-injective _ _ rec) at from))
    run-register Cbc ok bv bw rec (suc t) from upto = cbc-run t upto
    run-register Cfb ok bv bw rec t from upto = cfb-run (unit_bounds Cfb n ok) bv bw t (rw (← some-injective _ _ rec) at from) upto
    run-register Ofb ok bv bw rec t from upto = cc
    run-register Ctr ok bv bw rec t from upto = cc

    -- plaintext units
    pub run-unit : (mode : Mode) → unit_length_ok mode n ≡ true → Taken mode n x → Taken mode n y → Block (start mode v) → Block (start mode w)
        → {c : ℕ} → recovery_units mode n ≡ some c → (t : ℕ) → c ≤ t → t < k
        → unit_at n (worked enc dec mode Decrypt n m (start mode v) x) (i + t) ≡ unit_at n (worked enc dec mode Decrypt n m (start mode w) y) (j + t)
    unfolding out_at
    run-unit mode ok tx ty bv bw rec t from upto =
        let inside : suc t * n ≤ k * n = mul-le-mul_right n upto in
        worked-unit ciphers m Decrypt bv tx (i + t) (whole_there (length x) (i + t) tx.some (omega (arith, run.inside_x)))
        ∙ ap₂ (out_of enc dec mode Decrypt) (run-register mode ok bv bw rec t from (le_of_lt upto)) (run.equal t upto)
        ∙ sym (worked-unit ciphers m Decrypt bw ty (j + t) (whole_there (length y) (j + t) ty.some (omega (arith, run.inside_y))))
