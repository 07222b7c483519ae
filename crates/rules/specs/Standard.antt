-- SP 800-38A section 6, for whole messages and by index: a definition of its own, beside the unit rules.
-- The standard counts blocks from 1 and these definitions from 0. Blocks are strings of 128 bits here.
use Rattle.std.specs.Prelude.{ℕ, zero, suc, Bool, List, ◌++◌, length, drop}
use Rattle.bits.specs.Texts.{bits, pack, xor_bits}
use Rattle.bits.specs.Counter.{increment}
use Rattle.rules.specs.declared.Mode.{Mode}
use Rattle.rules.specs.declared.Mode.TheVariants.{Ecb, Cbc, Cfb, Ofb, Ctr}
use Rattle.rules.specs.declared.Direction.{Direction}
use Rattle.rules.specs.declared.Direction.TheVariants.{Encrypt, Decrypt}
use Rattle.rules.specs.Rules.{msb, unit_at, units_in, joined}

-- T_j of CTR: the counter block, by the standard incrementing function on the lowest m bits.
unfoldable pub counter : ℕ → List ℕ → ℕ → List ℕ
counter m t1 zero = t1
counter m t1 (suc j) = increment m (counter m t1 j)

module _ (enc dec : List ℕ → List ℕ) where
  -- CIPH_K and CIPH^-1_K on strings of bits.
  unfoldable pub ciph : List Bool → List Bool
  ciph x = bits (enc (pack x))

  unfoldable pub ciph_inv : List Bool → List Bool
  ciph_inv x = bits (dec (pack x))

  -- OFB's O_j, section 6.4: O_1 = CIPH(IV), O_j = CIPH(O_(j-1)).
  unfoldable pub ofb_output : List Bool → ℕ → List Bool
  ofb_output iv zero = ciph iv
  ofb_output iv (suc j) = ciph (ofb_output iv j)

  -- CBC encryption, section 6.2: C_1 = CIPH(P_1 ⊕ IV), C_j = CIPH(P_j ⊕ C_(j-1)).
  unfoldable pub cbc_cipher : (ℕ → List Bool) → List Bool → ℕ → List Bool
  cbc_cipher p iv zero = ciph (xor_bits (p zero) iv)
  cbc_cipher p iv (suc j) = ciph (xor_bits (p (suc j)) (cbc_cipher p iv j))

  -- CBC decryption: P_1 = CIPH^-1(C_1) ⊕ IV, P_j = CIPH^-1(C_j) ⊕ C_(j-1).
  unfoldable pub cbc_plain : (ℕ → List Bool) → List Bool → ℕ → List Bool
  cbc_plain c iv zero = xor_bits (ciph_inv (c zero)) iv
  cbc_plain c iv (suc j) = xor_bits (ciph_inv (c (suc j))) (c j)

  -- CFB, section 6.3: I_1 = IV, I_j = LSB_(b-s)(I_(j-1)) | C#_(j-1); of a string of b bits LSB_(b-s) drops the first s.
  unfoldable pub cfb_input : ℕ → (ℕ → List Bool) → List Bool → ℕ → List Bool
  cfb_input s c iv zero = iv
  cfb_input s c iv (suc j) = drop s (cfb_input s c iv j) ++ c j

  -- C#_j = P#_j ⊕ MSB_s(O_j), O_j = CIPH(I_j). In encryption I_j is made of the ciphertext so far.
  unfoldable pub cfb_encrypt_input : ℕ → (ℕ → List Bool) → List Bool → ℕ → List Bool
  cfb_encrypt_input s p iv zero = iv
  cfb_encrypt_input s p iv (suc j) = drop s (cfb_encrypt_input s p iv j) ++ xor_bits (p j) (msb s (ciph (cfb_encrypt_input s p iv j)))

  -- Block j, or segment j, of the message that the mode makes of the message with blocks `u`. In OFB and CTR a last
  -- block of fewer bits takes as many of the output block's first bits.
  unfoldable pub standard_at : Mode → Direction → ℕ → ℕ → List ℕ → (ℕ → List Bool) → ℕ → List Bool
  standard_at Ecb Encrypt n m iv u j = ciph (u j)
  standard_at Ecb Decrypt n m iv u j = ciph_inv (u j)
  standard_at Cbc Encrypt n m iv u j = cbc_cipher u (bits iv) j
  standard_at Cbc Decrypt n m iv u j = cbc_plain u (bits iv) j
  standard_at Cfb Encrypt n m iv u j = xor_bits (u j) (msb n (ciph (cfb_encrypt_input n u (bits iv) j)))
  standard_at Cfb Decrypt n m iv u j = xor_bits (u j) (msb n (ciph (cfb_input n u (bits iv) j)))
  standard_at Ofb Encrypt n m iv u j = xor_bits (u j) (msb (length (u j)) (ofb_output (bits iv) j))
  standard_at Ofb Decrypt n m iv u j = xor_bits (u j) (msb (length (u j)) (ofb_output (bits iv) j))
  standard_at Ctr Encrypt n m iv u j = xor_bits (u j) (msb (length (u j)) (ciph (bits (counter m iv j))))
  standard_at Ctr Decrypt n m iv u j = xor_bits (u j) (msb (length (u j)) (ciph (bits (counter m iv j))))

  -- The whole message.
  unfoldable pub standard : Mode → Direction → ℕ → ℕ → List ℕ → List Bool → List Bool
  standard mode dir n m iv x = joined (units_in n (length x)) (standard_at mode dir n m iv (unit_at n x))
