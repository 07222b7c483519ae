-- A text is a list of bits. Bit 0 of a message is the highest bit of its first byte (document 01).
use Rattle.std.specs.Prelude.{ℕ, zero, suc, ◌+◌, ◌-◌, ◌*◌, ◌/◌, ◌%◌, ◌^◌, Bool, true, false, List, [], ◌∷◌, ◌++◌, eqb, length, get_or, take, drop}

-- ---- from bytes to bits

-- Bit i of a byte, counted from the highest.
unfoldable pub bit : ℕ → ℕ → Bool
bit b i = eqb (b / 2 ^ (7 - i) % 2) 1

unfoldable pub byte_bits : ℕ → List Bool
byte_bits b = bit b 0 ∷ bit b 1 ∷ bit b 2 ∷ bit b 3 ∷ bit b 4 ∷ bit b 5 ∷ bit b 6 ∷ bit b 7 ∷ []

unfoldable pub bits : List ℕ → List Bool
bits [] = []
bits (b ∷ bs) = byte_bits b ++ bits bs

-- ---- from bits to bytes

unfoldable pub digit : Bool → ℕ
digit true = 1
digit false = 0

-- The byte of a text's first eight bits; bits that the text lacks are 0.
unfoldable pub byte_of : List Bool → ℕ
byte_of x =
    digit (get_or x 0 false) * 128 + digit (get_or x 1 false) * 64 + digit (get_or x 2 false) * 32 + digit (get_or x 3 false) * 16
    + digit (get_or x 4 false) * 8 + digit (get_or x 5 false) * 4 + digit (get_or x 6 false) * 2 + digit (get_or x 7 false)

-- The first k bytes of a text, filled up with 0 bits.
unfoldable pub pack_to : ℕ → List Bool → List ℕ
pack_to zero x = []
pack_to (suc k) x = byte_of x ∷ pack_to k (drop 8 x)

-- How many bytes n bits need, rounded up.
unfoldable pub bytes_for : ℕ → ℕ
bytes_for n = (n + 7) / 8

-- A text as bytes; the unused low bits of the last byte are 0.
unfoldable pub pack : List Bool → List ℕ
pack x = pack_to (bytes_for (length x)) x

-- ---- on texts

unfoldable pub xor_bit : Bool → Bool → Bool
xor_bit false b = b
xor_bit true false = true
xor_bit true true = false

-- As long as the shorter of the two.
unfoldable pub xor_bits : List Bool → List Bool → List Bool
xor_bits [] ys = []
xor_bits (x ∷ xs) [] = []
xor_bits (x ∷ xs) (y ∷ ys) = xor_bit x y ∷ xor_bits xs ys

-- CFB, SP 800-38A section 6.3: as many of the register's first bits leave as the segment has, and it enters at the end.
unfoldable pub shift_in : List Bool → List Bool → List Bool
shift_in r c = drop (length c) r ++ c

-- ---- bits into bytes that are there already

-- The bits `x` from bit `at` on: earlier bits stay, spare bits of the last byte become 0, no other byte changes.
unfoldable pub put_bits : List ℕ → ℕ → List Bool → List ℕ
put_bits bytes at x = pack (take at (bits bytes) ++ x) ++ drop (bytes_for (at + length x)) bytes
