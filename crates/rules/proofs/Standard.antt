-- The unit rules give SP 800-38A's text: by the number of the unit, what the rules have in the register is the
-- standard's chaining value. Assumes nothing.
use Prim.Native.Nat.{ℕ, zero, suc, ◌≤◌, ◌<◌}
use mathlib.Core.Path.{◌≡◌, refl, ap, ap₂, ◌∙◌}
use mathlib.Core.Bool.{Bool, true}
use mathlib.Core.List.{List, ◌++◌}
use native.Mathlib.Nat.{le_of_lt}
use native.Mathlib.Omega.{arith}
use lib.ListN.{length, drop}
use Rattle.bits.specs.Texts.{bits, xor_bits}
use Rattle.bits.specs.Blocks.{Block, BlockCipher}
use Rattle.bits.proofs.Texts.{pack-block, block-bits-pack}
use Rattle.rules.specs.declared.Mode.{Mode}
use Rattle.rules.specs.declared.Mode.TheVariants.{Ecb, Cbc, Cfb, Ofb, Ctr}
use Rattle.rules.specs.declared.Direction.{Direction}
use Rattle.rules.specs.declared.Direction.TheVariants.{Encrypt, Decrypt}
use Rattle.rules.specs.Lengths.{unit_length_ok, whole_units}
use Rattle.rules.specs.Rules.{msb, next, out_of, next_of, start, unit_at, units_in, register_at, out_at, worked}
use Rattle.rules.specs.Standard.{counter, ciph, ciph_inv, ofb_output, cbc_cipher, cbc_plain, cfb_input, cfb_encrypt_input, standard_at, standard}
use Rattle.rules.proofs.Formulas.{ecb_cipher, ecb_plain, cbc-cipher, cbc-plain, cfb-out, cfb-next, ofb-out, ofb-next, ctr-out}
use Rattle.rules.proofs.Units.{UnitLength}
use Rattle.rules.proofs.Taken.{Taken, taken, unit_bounds, whole_unit}
use Rattle.rules.proofs.Counters.{ctr_register}
use Rattle.rules.proofs.Undo.{registers-block, out-at-length, worked_by}

-- ---- whole texts: the register and the standard's chaining value

module _ {enc dec : List ℕ → List ℕ} (ciphers : BlockCipher enc dec) (n m : ℕ) {iv : List ℕ} (block : Block iv) (x : List Bool) where
  cbc-encrypt : Taken Cbc n x → (t : ℕ) → t < units_in n (length x) → out_at enc dec Cbc Encrypt n m iv x t ≡ cbc_cipher enc dec (unit_at n x) (bits iv) t
  unfolding out_at out_of register_at next_of next cbc_cipher UnitLength
  cbc-encrypt text zero h = cbc-cipher ciphers block (unit_at n x 0) (text.unit 0 h)
  cbc-encrypt text (suc t) h =
      let c = out_at enc dec Cbc Encrypt n m iv x t in
      let l : length c ≡ 128 = out-at-length ciphers m Encrypt block text t (omega arith) ∙ text.unit t (omega arith) in
      cbc-cipher ciphers (pack-block c l) (unit_at n x (suc t)) (text.unit (suc t) h)
      ∙ ap (λ (k : List Bool). ciph enc dec (xor_bits (unit_at n x (suc t)) k)) (block-bits-pack c l ∙ cbc-encrypt text t (omega arith))

  cbc-decrypt : Taken Cbc n x → (t : ℕ) → t < units_in n (length x) → out_at enc dec Cbc Decrypt n m iv x t ≡ cbc_plain enc dec (unit_at n x) (bits iv) t
  unfolding out_at out_of register_at next_of next cbc_plain UnitLength
  cbc-decrypt text zero h = cbc-plain ciphers block (unit_at n x 0) (text.unit 0 h)
  cbc-decrypt text (suc t) h =
      let l = text.unit t (omega arith) in
      cbc-plain ciphers (pack-block (unit_at n x t) l) (unit_at n x (suc t)) (text.unit (suc t) h)
      ∙ ap (xor_bits (ciph_inv enc dec (unit_at n x (suc t)))) (block-bits-pack (unit_at n x t) l)

  module _ (text : Taken Cfb n x) (short : n ≤ 128) (full : (t : ℕ) → t < units_in n (length x) → length (unit_at n x t) ≡ n) where
    -- Segment t from the input block that is in the register.
    cfb-segment : (dir : Direction) (t : ℕ) {i : List Bool} → t < units_in n (length x) → bits (register_at enc dec Cfb dir n m iv x t) ≡ i
        → out_at enc dec Cfb dir n m iv x t ≡ xor_bits (unit_at n x t) (msb n (ciph enc dec i))
    unfolding out_at
    cfb-segment dir t h same =
        cfb-out enc dec (registers-block ciphers m dir block text t (le_of_lt h)) dir (unit_at n x t)
        ∙ ap₂ (λ (k : ℕ) (i : List Bool). xor_bits (unit_at n x t) (msb k (ciph enc dec i))) (full t h) same

    cfb-encrypt-input : (t : ℕ) → t ≤ units_in n (length x)
        → bits (register_at enc dec Cfb Encrypt n m iv x t) ≡ cfb_encrypt_input enc dec n (unit_at n x) (bits iv) t
    unfolding register_at out_at out_of next_of cfb_encrypt_input
    cfb-encrypt-input zero h = refl
    cfb-encrypt-input (suc t) h =
        let before = cfb-encrypt-input t (omega arith) in
        cfb-next enc dec (registers-block ciphers m Encrypt block text t (omega arith)) n m (out_at enc dec Cfb Encrypt n m iv x t)
        (out-at-length ciphers m Encrypt block text t h ∙ full t h) short
        ∙ ap₂ (λ (i c : List Bool). drop n i ++ c) before (cfb-segment Encrypt t h before)

    cfb-decrypt-input : (t : ℕ) → t ≤ units_in n (length x) → bits (register_at enc dec Cfb Decrypt n m iv x t) ≡ cfb_input enc dec n (unit_at n x) (bits iv) t
    unfolding register_at next_of cfb_input
    cfb-decrypt-input zero h = refl
    cfb-decrypt-input (suc t) h =
        cfb-next enc dec (registers-block ciphers m Decrypt block text t (omega arith)) n m (unit_at n x t) (full t h) short
        ∙ ap (λ (i : List Bool). drop n i ++ unit_at n x t) (cfb-decrypt-input t (omega arith))

    cfb-standard : (dir : Direction) (t : ℕ) → t < units_in n (length x)
        → out_at enc dec Cfb dir n m iv x t ≡ standard_at enc dec Cfb dir n m iv (unit_at n x) t
    unfolding standard_at
    cfb-standard Encrypt t h = cfb-segment Encrypt t h (cfb-encrypt-input t (le_of_lt h))
    cfb-standard Decrypt t h = cfb-segment Decrypt t h (cfb-decrypt-input t (le_of_lt h))

  ofb-output : (dir : Direction) → Taken Ofb n x → (t : ℕ) → t < units_in n (length x)
      → ciph enc dec (bits (register_at enc dec Ofb dir n m iv x t)) ≡ ofb_output enc dec (bits iv) t
  unfolding register_at ofb_output
  ofb-output dir text zero h = refl
  ofb-output dir text (suc t) h =
      ap (ciph enc dec)
      (ofb-next enc dec (registers-block ciphers m dir block text t (omega arith)) dir m (unit_at n x t) ∙ ofb-output dir text t (omega arith))

  ofb-standard : (dir : Direction) → Taken Ofb n x → (t : ℕ) → t < units_in n (length x)
      → out_at enc dec Ofb dir n m iv x t ≡ xor_bits (unit_at n x t) (msb (length (unit_at n x t)) (ofb_output enc dec (bits iv) t))
  unfolding out_at
  ofb-standard dir text t h =
      ofb-out enc dec (registers-block ciphers m dir block text t (le_of_lt h)) dir (unit_at n x t)
      ∙ ap (λ (o : List Bool). xor_bits (unit_at n x t) (msb (length (unit_at n x t)) o)) (ofb-output dir text t h)

  ctr-standard : (dir : Direction) → Taken Ctr n x → (t : ℕ) → t < units_in n (length x)
      → out_at enc dec Ctr dir n m iv x t ≡ xor_bits (unit_at n x t) (msb (length (unit_at n x t)) (ciph enc dec (bits (counter m iv t))))
  unfolding out_at
  ctr-standard dir text t h =
      ctr-out enc dec (registers-block ciphers m dir block text t (le_of_lt h)) dir (unit_at n x t)
      ∙ ap (λ (b : List ℕ). xor_bits (unit_at n x t) (msb (length (unit_at n x t)) (ciph enc dec (bits b)))) (ctr_register enc dec dir n m iv x t)

module _ {enc dec : List ℕ → List ℕ} (ciphers : BlockCipher enc dec) (n m : ℕ) (iv : List ℕ) (x : List Bool) where
  pub standard-at : (mode : Mode) (dir : Direction) → unit_length_ok mode n ≡ true → whole_units mode n (length x) ≡ true → Block (start mode iv)
      → (t : ℕ) → t < units_in n (length x) → out_at enc dec mode dir n m (start mode iv) x t ≡ standard_at enc dec mode dir n m iv (unit_at n x) t
  unfolding out_at out_of start standard_at whole_units
  standard-at Ecb Encrypt ok whole block t h = ecb_cipher enc dec (register_at enc dec Ecb Encrypt n m (start Ecb iv) x t) (unit_at n x t)
  standard-at Ecb Decrypt ok whole block t h = ecb_plain enc dec (register_at enc dec Ecb Decrypt n m (start Ecb iv) x t) (unit_at n x t)
  standard-at Cbc Encrypt ok whole block t h = cbc-encrypt ciphers n m block x (taken Cbc n x ok whole) t h
  standard-at Cbc Decrypt ok whole block t h = cbc-decrypt ciphers n m block x (taken Cbc n x ok whole) t h
  standard-at Cfb dir ok whole block t h =
      cfb-standard ciphers n m block x (taken Cfb n x ok whole) (unit_bounds Cfb n ok).1 (whole_unit n x (unit_bounds Cfb n ok).0 whole) dir t h
  standard-at Ofb Encrypt ok whole block t h = ofb-standard ciphers n m block x Encrypt (taken Ofb n x ok whole) t h
  standard-at Ofb Decrypt ok whole block t h = ofb-standard ciphers n m block x Decrypt (taken Ofb n x ok whole) t h
  standard-at Ctr Encrypt ok whole block t h = ctr-standard ciphers n m block x Encrypt (taken Ctr n x ok whole) t h
  standard-at Ctr Decrypt ok whole block t h = ctr-standard ciphers n m block x Decrypt (taken Ctr n x ok whole) t h

  pub worked-standard : (mode : Mode) (dir : Direction) → unit_length_ok mode n ≡ true → whole_units mode n (length x) ≡ true → Block (start mode iv)
      → worked enc dec mode dir n m (start mode iv) x ≡ standard enc dec mode dir n m iv x
  unfolding standard
  worked-standard mode dir ok whole block =
      worked_by enc dec mode dir n m (start mode iv) x (units_in n (length x)) (standard_at enc dec mode dir n m iv (unit_at n x)) refl
      (standard-at mode dir ok whole block)
