-- SubBytes of one byte and its inverse, by their rule and not by a table (document 01, "The block cipher"; FIPS 197
-- sections 5.1.1 and 5.3.2), and what it is for a table to hold a rule.
use Rattle.std.specs.Prelude.{ℕ, ◌+◌, ◌*◌, ◌/◌, ◌%◌, ◌^◌, ◌<◌, ◌≡◌, List, length, get_or}
use Rattle.field.specs.Field.{inverse}

-- Bit i of a byte, counted from the lowest, indices modulo 8.
unfoldable pub low : ℕ → ℕ → ℕ
low b i = b / 2 ^ (i % 8) % 2

-- The byte whose bit i is the sum modulo 2 that f gives at i: XOR of bits.
unfoldable pub from_bits : (ℕ → ℕ) → ℕ
from_bits f =
    f 0 % 2 + f 1 % 2 * 2 + f 2 % 2 * 4 + f 3 % 2 * 8 + f 4 % 2 * 16 + f 5 % 2 * 32 + f 6 % 2 * 64 + f 7 % 2 * 128

-- Bit i is bit i XOR bits i+4, i+5, i+6, i+7 of v XOR bit i of 63.
unfoldable pub affine : ℕ → ℕ
affine v = from_bits (λ i. low v i + low v (i + 4) + low v (i + 5) + low v (i + 6) + low v (i + 7) + low 0x63 i)

-- The inverse of that map: bit i is bits i+2, i+5, i+7 of v XOR bit i of 05.
unfoldable pub unaffine : ℕ → ℕ
unaffine v = from_bits (λ i. low v (i + 2) + low v (i + 5) + low v (i + 7) + low 0x05 i)

-- SubBytes of a byte: the inverse, then the affine map.
unfoldable pub sub_byte : ℕ → ℕ
sub_byte b = affine (inverse b)

-- InvSubBytes of a byte: the affine map undone, then the inverse.
unfoldable pub inv_sub_byte : ℕ → ℕ
inv_sub_byte b = inverse (unaffine b)

-- A table of 256 numbers that holds a rule at every byte.
pub record Tabulates (f : ℕ → ℕ) (table : List ℕ) : Type 0 where
  pub entries : length table ≡ 256
  pub entry : (b : ℕ) → b < 256 → get_or table b 0 ≡ f b
