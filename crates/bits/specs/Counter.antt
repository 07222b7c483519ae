-- A block as a number, first byte highest, and the counter's increment.
use Rattle.std.specs.Prelude.{ℕ, zero, suc, ◌+◌, ◌*◌, ◌/◌, ◌%◌, ◌^◌, ◌≡◌, List, [], ◌∷◌, length}

unfoldable pub number : List ℕ → ℕ
number [] = 0
number (b ∷ bs) = b * 256 ^ length bs + number bs

-- The lowest k bytes of a number, highest first.
unfoldable pub number_bytes : ℕ → ℕ → List ℕ
number_bytes zero x = []
number_bytes (suc k) x = x / 256 ^ k % 256 ∷ number_bytes k x

-- SP 800-38A appendix B.1, the standard incrementing function: 1 is added to the lowest m bits, modulo 2^m, and the
-- others stay.
unfoldable pub plus_one : ℕ → ℕ → ℕ
plus_one m x = x / 2 ^ m * 2 ^ m + (x % 2 ^ m + 1) % 2 ^ m

-- That of a block.
unfoldable pub increment : ℕ → List ℕ → List ℕ
increment m r = number_bytes 16 (plus_one m (number r))

-- With m = 128 it is a block plus 1 modulo 2^128.
unfoldable pub WholeBlockCounts : Type 0
WholeBlockCounts = (r : List ℕ) → increment 128 r ≡ number_bytes 16 ((number r + 1) % 2 ^ 128)
