-- XOR, bit by bit (document 01): of two bytes, and of two lists of bytes.
use Rattle.std.specs.Prelude.{ℕ, List, [], ◌∷◌}
use Rattle.std.specs.Int.Bits.{bit_xor}

-- A name of its own, so that a goal shows `xor a b` and not the digits.
unfoldable pub xor : ℕ → ℕ → ℕ
xor a b = bit_xor a b

-- As long as the shorter of the two.
unfoldable pub xor_bytes : List ℕ → List ℕ → List ℕ
xor_bytes [] ys = []
xor_bytes (x ∷ xs) [] = []
xor_bytes (x ∷ xs) (y ∷ ys) = xor x y ∷ xor_bytes xs ys
