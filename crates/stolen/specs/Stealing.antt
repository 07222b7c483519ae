-- Ciphertext stealing for CBC (request 03, after RFC 2040), by index and over any two block functions. Blocks count
-- from 0. A message has more than 128 bits. Its last block, the tail of a plaintext and the end of a ciphertext, has 1
-- to 128 of them.
use Rattle.std.specs.Prelude.{ℕ, zero, suc, ◌-◌, ◌/◌, Bool, false, cond, List, ◌++◌, ltb, length, drop, replicate}
use Rattle.bits.specs.Texts.{bits, xor_bits}
use Rattle.rules.specs.declared.Direction.{Direction}
use Rattle.rules.specs.declared.Direction.TheVariants.{Encrypt, Decrypt}
use Rattle.rules.specs.Rules.{msb, unit_at, units_in, joined}
use Rattle.rules.specs.Standard.{ciph, ciph_inv, cbc_cipher, cbc_plain}

-- How many full blocks stand before the tail, of a message of this many bits. It is the tail's number too.
unfoldable pub full_blocks : ℕ → ℕ
full_blocks count = (count - 1) / 128

-- A tail filled with 0 bits.
unfoldable pub filled : List Bool → List Bool
filled tail = tail ++ replicate (128 - length tail) false

-- What CBC takes by XOR to block t: the IV, or the ciphertext block before it.
unfoldable pub before : (ℕ → List Bool) → List Bool → ℕ → List Bool
before c iv zero = iv
before c iv (suc t) = c t

-- What stands at block t where `last` is the last one: before the last two, just before the end, at the end.
unfoldable pub placed : ℕ → ℕ → List Bool → List Bool → List Bool → List Bool
placed last t early before_end end = cond (ltb (suc t) last) early (cond (ltb t last) before_end end)

module _ (enc dec : List ℕ → List ℕ) (iv : List ℕ) (x : List Bool) where
  -- the message's blocks, the number of its last one, and that one
  abbrev block : ℕ → List Bool
  block = unit_at 128 x

  abbrev last : ℕ
  last = full_blocks (length x)

  abbrev tail : List Bool
  tail = block last

  -- ---- from a plaintext

  -- X, the ciphertext of the last full block before the tail.
  unfoldable pub last_full : List Bool
  last_full = cbc_cipher enc dec block (bits iv) (last - 1)

  -- The block before the end is the encryption of (tail filled with 00) XOR X. The end is the first bits of X, as many
  -- as the tail has.
  unfoldable pub cipher_at : ℕ → List Bool
  cipher_at t =
      placed last t (cbc_cipher enc dec block (bits iv) t) (ciph enc dec (xor_bits (filled tail) last_full)) (msb (length tail) last_full)

  -- ---- from a ciphertext

  -- The block before the end, decrypted: (tail filled with 00) XOR X.
  unfoldable pub opened : List Bool
  opened = ciph_inv enc dec (block (last - 1))

  -- X again: the end is its first part, and where the tail was filled with 00 `opened` is its rest.
  unfoldable pub restored : List Bool
  restored = tail ++ drop (length tail) opened

  unfoldable pub plain_at : ℕ → List Bool
  plain_at t =
      placed last t (cbc_plain enc dec block (bits iv) t) (xor_bits (ciph_inv enc dec restored) (before block (bits iv) t)) (xor_bits (msb (length tail) opened) tail)

-- What a message becomes: as many bits as it has.
unfoldable pub stolen_text : (List ℕ → List ℕ) → (List ℕ → List ℕ) → Direction → List ℕ → List Bool → List Bool
stolen_text enc dec Encrypt iv x = joined (units_in 128 (length x)) (cipher_at enc dec iv x)
stolen_text enc dec Decrypt iv x = joined (units_in 128 (length x)) (plain_at enc dec iv x)
