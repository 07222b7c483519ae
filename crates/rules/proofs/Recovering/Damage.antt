-- One ciphertext unit changed, mode by mode: beside what holds in any, the next block in CBC and the segment itself in
-- CFB differ in exactly the changed bits. Assumes nothing.
use Prim.Native.Nat.{ℕ, suc, ◌*◌, ◌≤◌, ◌<◌}
use mathlib.Core.Path.{◌≡◌, refl, sym, ap, ◌∙◌}
use mathlib.Core.Logic.{◌↔◌}
use mathlib.Core.Bool.{Bool, true}
use mathlib.Core.List.{List}
use native.Mathlib.Nat.{le_refl, le_of_lt}
use native.Mathlib.Omega.{arith}
use lib.ListN.{length}
use Rattle.bits.specs.Texts.{bits, pack, xor_bits}
use Rattle.bits.specs.Blocks.{Block, BlockCipher}
use Rattle.bits.proofs.Texts.{pack-block, bits-block, block-bits-pack}
use Rattle.bits.proofs.Xors.{xor_bits_comm}
use Rattle.rules.specs.declared.Mode.TheVariants.{Ecb, Cbc, Cfb}
use Rattle.rules.specs.declared.Direction.TheVariants.{Decrypt}
use Rattle.rules.specs.Lengths.{unit_length_ok}
use Rattle.rules.specs.Rules.{start, plain_unit, unit_at, units_in, register_at, worked}
use Rattle.rules.specs.Standard.{ciph_inv}
use Rattle.rules.specs.Recovery.{recovery_units}
use Rattle.rules.specs.Promises.{Differ, OneUnitChanged, OneBlockChanged, OnlyBlockDamaged, OneBlockDamaged, OneSegmentDamaged}
use Rattle.rules.proofs.Counts.{whole_there}
use Rattle.rules.proofs.Joined.{unit_length}
use Rattle.rules.proofs.Units.{UnitLength}
use Rattle.rules.proofs.Taken.{Taken}
use Rattle.rules.proofs.Undo.{registers-block}
use Rattle.rules.proofs.Formulas.{cbc-plain}
use Rattle.rules.proofs.Recovering.Runs.{cbc-register}
use Rattle.rules.proofs.Recovering.Differ.{xor-differ, mask-xor}
use Rattle.rules.proofs.Recovering.OneUnit.{plain-unit, there, changed-there, register-before, undamaged, damaged-here}

-- ---- ECB

module _ {enc dec : List ℕ → List ℕ} (ciphers : BlockCipher enc dec) (m : ℕ) (v : List ℕ) (block : Block (start Ecb v)) (x y : List Bool) (tx : Taken Ecb 128 x) (ty : Taken Ecb 128 y) (j : ℕ) (change : OneBlockChanged x y j) where
  pub only-block-damaged : OnlyBlockDamaged (worked enc dec Ecb Decrypt 128 m (start Ecb v) x) (worked enc dec Ecb Decrypt 128 m (start Ecb v) y) j
  unfolding unit_length_ok recovery_units
  only-block-damaged =
      record {
        here = damaged-here ciphers m v block x y tx ty j change;
        others = λ t other. undamaged ciphers m v block x y tx ty j change refl refl t (λ h. omega arith);
      }

-- ---- CBC

module _ {enc dec : List ℕ → List ℕ} (ciphers : BlockCipher enc dec) (m : ℕ) (v : List ℕ) (block : Block (start Cbc v)) where
  -- A later unit is the ciphertext's unit before it, masked with what dec makes of its own.
  plain-chained : {x : List Bool} → Taken Cbc 128 x → (t : ℕ) → suc t < units_in 128 (length x)
      → unit_at 128 (worked enc dec Cbc Decrypt 128 m (start Cbc v) x) (suc t) ≡ xor_bits (unit_at 128 x t) (ciph_inv enc dec (unit_at 128 x (suc t)))
  unfolding UnitLength
  plain-chained {x} text t h =
      let c = unit_at 128 x t in
      let d = unit_at 128 x (suc t) in
      let l : length c ≡ 128 = text.unit t (le_of_lt h) in
      plain-unit ciphers m v block text (suc t) h
      ∙ ap (λ (r : List ℕ). plain_unit enc dec Cbc r d) (cbc-register enc dec m 128 (start Cbc v) x t)
      ∙ cbc-plain ciphers (pack-block c l) d (text.unit (suc t) h)
      ∙ ap (xor_bits (ciph_inv enc dec d)) (block-bits-pack c l)
      ∙ xor_bits_comm (ciph_inv enc dec d) c

  module _ (x y : List Bool) (tx : Taken Cbc 128 x) (ty : Taken Cbc 128 y) (j : ℕ) (change : OneBlockChanged x y j) where
    damaged-next : suc (suc j) * 128 ≤ length x → (b : ℕ)
        → Differ (unit_at 128 (worked enc dec Cbc Decrypt 128 m (start Cbc v) x) (suc j)) (unit_at 128 (worked enc dec Cbc Decrypt 128 m (start Cbc v) y) (suc j)) b
        ↔ Differ (unit_at 128 x j) (unit_at 128 y j) b
    unfolding UnitLength ciph_inv
    damaged-next inside b =
        let h = whole_there (length x) (suc j) tx.some inside in
        let i = there ciphers m v block x y tx ty j change (suc j) h in
        let d = unit_at 128 x (suc j) in
        let lx = tx.unit j (le_of_lt h) in
        rw (plain-chained tx j h, plain-chained ty j i, ← change.others (suc j) (omega arith))
        (xor-differ (unit_at 128 x j) (unit_at 128 y j) (ciph_inv enc dec d) (lx ∙ sym (ty.unit j (le_of_lt i)))
        (omega (arith, bits-block (ciphers.dec_block (pack d) (pack-block d (tx.unit (suc j) h))))) b)

    pub one-block-damaged : OneBlockDamaged x y (worked enc dec Cbc Decrypt 128 m (start Cbc v) x) (worked enc dec Cbc Decrypt 128 m (start Cbc v) y) j
    unfolding unit_length_ok recovery_units
    one-block-damaged =
        record {
          here = damaged-here ciphers m v block x y tx ty j change;
          following = damaged-next;
          others = λ t this next. undamaged ciphers m v block x y tx ty j change refl refl t (λ h. omega arith);
        }

-- ---- CFB

module _ {enc dec : List ℕ → List ℕ} (ciphers : BlockCipher enc dec) (m : ℕ) {n : ℕ} (v : List ℕ) (block : Block (start Cfb v)) (x y : List Bool) (tx : Taken Cfb n x) (ty : Taken Cfb n y) (j : ℕ) (change : OneUnitChanged n x y j) where
  segment-here : (b : ℕ) → Differ (unit_at n (worked enc dec Cfb Decrypt n m (start Cfb v) x) j) (unit_at n (worked enc dec Cfb Decrypt n m (start Cfb v) y) j) b
      ↔ Differ (unit_at n x j) (unit_at n y j) b
  unfolding plain_unit UnitLength
  segment-here b =
      let h = changed-there ciphers m v block x y tx ty j change in
      let i = there ciphers m v block x y tx ty j change j h in
      let r = register_at enc dec Cfb Decrypt n m (start Cfb v) x j in
      let masked = ciphers.enc_block r (registers-block ciphers m Decrypt block tx j (le_of_lt h)) in
      rw (
        plain-unit ciphers m v block tx j h,
        plain-unit ciphers m v block ty j i,
        ← register-before ciphers m v block x y tx ty j change j (le_refl j),
        mask-xor (unit_at n x j) (tx.unit j h) masked,
        mask-xor (unit_at n y j) (ty.unit j i) masked,
      )
      (xor-differ (unit_at n x j) (unit_at n y j) (bits (enc r)) (simp (unit_length, change.same_length)) (omega (arith, bits-block masked, tx.unit j h)) b)

  pub one-segment-damaged : unit_length_ok Cfb n ≡ true
      → OneSegmentDamaged n x y (worked enc dec Cfb Decrypt n m (start Cfb v) x) (worked enc dec Cfb Decrypt n m (start Cfb v) y) j
  unfolding recovery_units
  one-segment-damaged ok =
      record {
        here = segment-here;
        before = λ t h. undamaged ciphers m v block x y tx ty j change ok refl t (λ i. omega arith);
        behind = λ t h. undamaged ciphers m v block x y tx ty j change ok refl t (λ i. omega arith);
      }
