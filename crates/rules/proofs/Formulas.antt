-- One unit by the rules is SP 800-38A's formula for it, the register's bits standing for the chaining value. Assumes
-- nothing.
use Prim.Native.Nat.{ℕ, ◌≤◌}
use mathlib.Core.Path.{◌≡◌, refl, sym, ap, ◌∙◌}
use mathlib.Core.Bool.{Bool}
use mathlib.Core.List.{List, ◌++◌}
use native.Mathlib.Omega.{arith}
use lib.ListN.{length, drop, length-append, length-drop}
use Rattle.bits.specs.Texts.{bits, pack, xor_bits, shift_in}
use Rattle.bits.specs.Blocks.{Block, BlockCipher}
use Rattle.bits.proofs.Texts.{pack-block, bits-block, block-bits-pack, block-pack-bits}
use Rattle.bits.proofs.Xors.{bits-xor_bytes, xor_bytes-block}
use Rattle.rules.specs.declared.Mode.TheVariants.{Ecb, Cbc, Cfb, Ofb, Ctr}
use Rattle.rules.specs.declared.Direction.{Direction}
use Rattle.rules.specs.declared.Direction.TheVariants.{Encrypt, Decrypt}
use Rattle.rules.specs.Rules.{msb, mask, next, cipher_unit, plain_unit, out_of, next_of}
use Rattle.rules.specs.Standard.{ciph, ciph_inv}

-- A shifted register is as long as before.
pub shift_in-block : {r : List ℕ} → Block r → (c : List Bool) → length c ≤ 128 → length (shift_in (bits r) c) ≡ 128
unfolding shift_in
shift_in-block {r} block c h = simp (length-append, length-drop, bits-block block) (omega arith)

module _ (enc dec : List ℕ → List ℕ) {r : List ℕ} (block : Block r) where
  pub ciph-bits : bits (enc r) ≡ ciph enc dec (bits r)
  unfolding ciph
  ciph-bits = ap (λ (b : List ℕ). bits (enc b)) (sym (block-pack-bits block))

  -- ---- sections 6.3 to 6.5: CFB, OFB, CTR

  masked : (u : List Bool) → mask u (enc r) ≡ xor_bits u (msb (length u) (ciph enc dec (bits r)))
  unfolding mask
  masked u = ap (λ (o : List Bool). xor_bits u (msb (length u) o)) ciph-bits

  pub cfb-out : (dir : Direction) (u : List Bool) → out_of enc dec Cfb dir r u ≡ xor_bits u (msb (length u) (ciph enc dec (bits r)))
  unfolding out_of cipher_unit plain_unit
  cfb-out Encrypt u = masked u
  cfb-out Decrypt u = masked u

  pub ofb-out : (dir : Direction) (u : List Bool) → out_of enc dec Ofb dir r u ≡ xor_bits u (msb (length u) (ciph enc dec (bits r)))
  unfolding out_of cipher_unit plain_unit next
  ofb-out Encrypt u = masked u
  ofb-out Decrypt u = masked u

  pub ctr-out : (dir : Direction) (u : List Bool) → out_of enc dec Ctr dir r u ≡ xor_bits u (msb (length u) (ciph enc dec (bits r)))
  unfolding out_of cipher_unit plain_unit
  ctr-out Encrypt u = masked u
  ctr-out Decrypt u = masked u

  -- The next input block of CFB, for a segment of n bits.
  pub cfb-next : (n m : ℕ) (c : List Bool) → length c ≡ n → n ≤ 128 → bits (next enc dec Cfb m r c) ≡ drop n (bits r) ++ c
  unfolding next shift_in
  cfb-next n m c l short = block-bits-pack (shift_in (bits r) c) (shift_in-block block c (omega arith)) ∙ ap (λ (k : ℕ). drop k (bits r) ++ c) l

  -- The next input block of OFB.
  pub ofb-next : (dir : Direction) (m : ℕ) (u : List Bool) → bits (next_of enc dec Ofb dir m r u) ≡ ciph enc dec (bits r)
  unfolding next_of next
  ofb-next Encrypt m u = ciph-bits
  ofb-next Decrypt m u = ciph-bits

-- ---- sections 6.1 and 6.2: ECB, CBC

module _ {enc dec : List ℕ → List ℕ} (ciphers : BlockCipher enc dec) {r : List ℕ} (block : Block r) where
  pub cbc-cipher : (m : List Bool) → length m ≡ 128 → cipher_unit enc dec Cbc r m ≡ ciph enc dec (xor_bits m (bits r))
  unfolding cipher_unit ciph
  cbc-cipher m l =
      ap (λ (b : List ℕ). bits (enc b))
      (sym (block-pack-bits (xor_bytes-block (pack-block m l) block))
      ∙ ap pack (bits-xor_bytes (pack m) r (pack-block m l).bytes block.bytes ∙ ap (λ (k : List Bool). xor_bits k (bits r)) (block-bits-pack m l)))

  pub cbc-plain : (c : List Bool) → length c ≡ 128 → plain_unit enc dec Cbc r c ≡ xor_bits (ciph_inv enc dec c) (bits r)
  unfolding plain_unit ciph_inv
  cbc-plain c l = bits-xor_bytes (dec (pack c)) r (ciphers.dec_block (pack c) (pack-block c l)).bytes block.bytes

pub ecb_cipher : (enc dec : List ℕ → List ℕ) (r : List ℕ) (m : List Bool) → cipher_unit enc dec Ecb r m ≡ ciph enc dec m
unfolding cipher_unit ciph
ecb_cipher enc dec r m = refl

pub ecb_plain : (enc dec : List ℕ → List ℕ) (r : List ℕ) (c : List Bool) → plain_unit enc dec Ecb r c ≡ ciph_inv enc dec c
unfolding plain_unit ciph_inv
ecb_plain enc dec r c = refl
