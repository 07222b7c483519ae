-- One unit: each direction keeps its length, undoes the other from the same register, and leaves a block in the
-- register. Assumes nothing.
use Prim.Native.Nat.{ℕ, ◌≤◌}
use mathlib.Core.Path.{◌≡◌, refl, sym, ap, ◌∙◌}
use mathlib.Core.Bool.{Bool}
use mathlib.Core.List.{List}
use native.Mathlib.Omega.{arith}
use lib.ListN.{length, length-take}
use Rattle.bits.specs.Xor.{xor_bytes}
use Rattle.bits.specs.Texts.{bits, pack, shift_in}
use Rattle.bits.specs.Blocks.{Block, BlockCipher}
use Rattle.bits.proofs.Texts.{pack-block, bits-block, block-bits-pack, block-pack-bits}
use Rattle.bits.proofs.Xors.{length-xor_bits, xor_bits_undo, xor_bytes_undo, xor_bytes-block}
use Rattle.bits.proofs.Counter.{increment-block}
use Rattle.rules.specs.declared.Mode.{Mode}
use Rattle.rules.specs.declared.Mode.TheVariants.{Ecb, Cbc, Cfb, Ofb, Ctr}
use Rattle.rules.specs.declared.Direction.{Direction}
use Rattle.rules.specs.declared.Direction.TheVariants.{Encrypt, Decrypt}
use Rattle.rules.specs.Rules.{msb, mask, next, cipher_unit, plain_unit, out_of, next_of}
use Rattle.rules.specs.Promises.{other}
use Rattle.rules.proofs.Formulas.{shift_in-block}

-- How many bits a mode's unit may have.
unfoldable pub UnitLength : Mode → ℕ → Type 0
UnitLength Ecb l = l ≡ 128
UnitLength Cbc l = l ≡ 128
UnitLength Cfb l = l ≤ 128
UnitLength Ofb l = l ≤ 128
UnitLength Ctr l = l ≤ 128

block_undo : {a b : List ℕ} → Block a → Block b → xor_bytes (xor_bytes a b) b ≡ a
block_undo {a} {b} h g = xor_bytes_undo a b (h.size ∙ sym g.size)

-- ---- a unit masked with the first bits of a block

msb-length : {b : List ℕ} (l : ℕ) → l ≤ 128 → Block b → length (msb l (bits b)) ≡ l
unfolding msb
msb-length l h block = simp (length-take, bits-block block) (omega arith)

pub mask-length : {b : List ℕ} (u : List Bool) → length u ≤ 128 → Block b → length (mask u b) ≡ length u
unfolding mask
mask-length {b} u h block = length-xor_bits u (msb (length u) (bits b)) (omega (arith, msb-length (length u) h block))

pub mask_undo : {b : List ℕ} (u : List Bool) → length u ≤ 128 → Block b → mask (mask u b) b ≡ u
unfolding mask
mask_undo {b} u h block =
    rw (mask-length u h block) (xor_bits_undo u (msb (length u) (bits b)) (omega (arith, msb-length (length u) h block)))

-- ---- the modes

module _ {enc dec : List ℕ → List ℕ} (ciphers : BlockCipher enc dec) {r : List ℕ} (block : Block r) where
  -- what CBC hands to enc, and what it makes of what dec gives
  chained : (u : List Bool) → length u ≡ 128 → Block (xor_bytes (pack u) r)
  chained u l = xor_bytes-block (pack-block u l) block

  unchained : (c : List Bool) → length c ≡ 128 → Block (xor_bytes (dec (pack c)) r)
  unchained c l = xor_bytes-block (ciphers.dec_block (pack c) (pack-block c l)) block

  pub cipher-length : (mode : Mode) (u : List Bool) → UnitLength mode (length u) → length (cipher_unit enc dec mode r u) ≡ length u
  unfolding cipher_unit next UnitLength
  cipher-length Ecb u l = bits-block (ciphers.enc_block (pack u) (pack-block u l)) ∙ sym l
  cipher-length Cbc u l = bits-block (ciphers.enc_block (xor_bytes (pack u) r) (chained u l)) ∙ sym l
  cipher-length Cfb u l = mask-length u l (ciphers.enc_block r block)
  cipher-length Ofb u l = mask-length u l (ciphers.enc_block r block)
  cipher-length Ctr u l = mask-length u l (ciphers.enc_block r block)

  pub plain-length : (mode : Mode) (c : List Bool) → UnitLength mode (length c) → length (plain_unit enc dec mode r c) ≡ length c
  unfolding plain_unit next UnitLength
  plain-length Ecb c l = bits-block (ciphers.dec_block (pack c) (pack-block c l)) ∙ sym l
  plain-length Cbc c l = bits-block (unchained c l) ∙ sym l
  plain-length Cfb c l = mask-length c l (ciphers.enc_block r block)
  plain-length Ofb c l = mask-length c l (ciphers.enc_block r block)
  plain-length Ctr c l = mask-length c l (ciphers.enc_block r block)

  pub plain-cipher : (mode : Mode) (u : List Bool) → UnitLength mode (length u) → plain_unit enc dec mode r (cipher_unit enc dec mode r u) ≡ u
  unfolding cipher_unit plain_unit next UnitLength
  plain-cipher Ecb u l =
      let b = pack-block u l in
      rw (block-pack-bits (ciphers.enc_block (pack u) b), ciphers.dec_enc (pack u) b) (block-bits-pack u l)
  plain-cipher Cbc u l =
      let b = chained u l in
      rw (block-pack-bits (ciphers.enc_block (xor_bytes (pack u) r) b), ciphers.dec_enc (xor_bytes (pack u) r) b, block_undo (pack-block u l) block)
      (block-bits-pack u l)
  plain-cipher Cfb u l = mask_undo u l (ciphers.enc_block r block)
  plain-cipher Ofb u l = mask_undo u l (ciphers.enc_block r block)
  plain-cipher Ctr u l = mask_undo u l (ciphers.enc_block r block)

  pub cipher-plain : (mode : Mode) (c : List Bool) → UnitLength mode (length c) → cipher_unit enc dec mode r (plain_unit enc dec mode r c) ≡ c
  unfolding cipher_unit plain_unit next UnitLength
  cipher-plain Ecb c l =
      let b = pack-block c l in
      rw (block-pack-bits (ciphers.dec_block (pack c) b), ciphers.enc_dec (pack c) b) (block-bits-pack c l)
  cipher-plain Cbc c l =
      let b = pack-block c l in
      rw (block-pack-bits (unchained c l), block_undo (ciphers.dec_block (pack c) b) block, ciphers.enc_dec (pack c) b) (block-bits-pack c l)
  cipher-plain Cfb c l = mask_undo c l (ciphers.enc_block r block)
  cipher-plain Ofb c l = mask_undo c l (ciphers.enc_block r block)
  cipher-plain Ctr c l = mask_undo c l (ciphers.enc_block r block)

  pub next_block : (mode : Mode) (m : ℕ) (c : List Bool) → UnitLength mode (length c) → Block (next enc dec mode m r c)
  unfolding next UnitLength
  next_block Ecb m c l = block
  next_block Cbc m c l = pack-block c l
  next_block Cfb m c l = pack-block (shift_in (bits r) c) (shift_in-block block c l)
  next_block Ofb m c l = ciphers.enc_block r block
  next_block Ctr m c l = increment-block m r

  -- ---- either direction

  pub out-length : (mode : Mode) (dir : Direction) (u : List Bool) → UnitLength mode (length u) → length (out_of enc dec mode dir r u) ≡ length u
  unfolding out_of
  out-length mode Encrypt u l = cipher-length mode u l
  out-length mode Decrypt u l = plain-length mode u l

  pub out-undo : (mode : Mode) (dir : Direction) (u : List Bool) → UnitLength mode (length u)
      → out_of enc dec mode (other dir) r (out_of enc dec mode dir r u) ≡ u
  unfolding out_of other
  out-undo mode Encrypt u l = plain-cipher mode u l
  out-undo mode Decrypt u l = cipher-plain mode u l

  pub next-undo : (mode : Mode) (dir : Direction) (m : ℕ) (u : List Bool) → UnitLength mode (length u)
      → next_of enc dec mode (other dir) m r (out_of enc dec mode dir r u) ≡ next_of enc dec mode dir m r u
  unfolding out_of next_of other
  next-undo mode Encrypt m u l = refl
  next-undo mode Decrypt m u l = ap (next enc dec mode m r) (cipher-plain mode u l)

  pub register-block : (mode : Mode) (dir : Direction) (m : ℕ) (u : List Bool) → UnitLength mode (length u) → Block (next_of enc dec mode dir m r u)
  unfolding next_of
  register-block mode Encrypt m u l = next_block mode m (cipher_unit enc dec mode r u) (rw (cipher-length mode u l) l)
  register-block mode Decrypt m u l = next_block mode m u l
