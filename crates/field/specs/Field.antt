-- Bytes as polynomials over GF(2) modulo 11b (FIPS 197 section 4.2): the sum is XOR.
use Rattle.std.specs.Prelude.{ℕ, zero, suc, ◌*◌, ◌/◌, ◌%◌}
use Rattle.bits.specs.Xor.{xor}

-- A byte times x: shifted up by one, and 11b added where its highest bit left. (1b is 11b without that bit.)
unfoldable pub double : ℕ → ℕ
double b = xor (b / 128 % 2 * 0x1b) (b % 128 * 2)

-- Shift and add, k digits of c from its lowest: the sum of b times x^i over the digits i of c that are 1.
unfoldable pub shift_add : ℕ → ℕ → ℕ → ℕ
shift_add zero c b = 0
shift_add (suc k) c b = xor (c % 2 * b) (shift_add k (c / 2) (double b))

-- The product of two bytes modulo 11b.
unfoldable pub product : ℕ → ℕ → ℕ
product c b = shift_add 8 c b

unfoldable pub square : ℕ → ℕ
square b = product b b

-- b^2 · b^4 · b^8 · .. , k factors, from b.
unfoldable pub squares : ℕ → ℕ → ℕ
squares zero b = 1
squares (suc k) b = let s = square b in product s (squares k s)

-- The multiplicative inverse, 00 for 00: b^254, which is b^2 · b^4 · .. · b^128.
unfoldable pub inverse : ℕ → ℕ
inverse b = squares 7 b
