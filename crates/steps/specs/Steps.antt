-- The steps of a round, FIPS 197 sections 5.1 and 5.3, each by what stands in row r, column c afterwards.
use Rattle.std.specs.Prelude.{ℕ, ◌+◌, ◌-◌, ◌*◌, ◌%◌, List, [], ◌∷◌, get_or}
use Rattle.bits.specs.Xor.{xor}
use Rattle.field.specs.Field.{product}
use Rattle.boxes.specs.Boxes.{sub_byte, inv_sub_byte}
use Rattle.steps.specs.State.{at, state}

-- A rule for single bytes, at every byte of the state.
unfoldable pub bytewise : (ℕ → ℕ) → List (List ℕ) → List (List ℕ)
bytewise f s = state (λ r c. f (at s r c))

-- 5.1.1 and 5.3.2.
unfoldable pub sub_bytes : List (List ℕ) → List (List ℕ)
sub_bytes s = bytewise sub_byte s

unfoldable pub inv_sub_bytes : List (List ℕ) → List (List ℕ)
inv_sub_bytes s = bytewise inv_sub_byte s

-- 5.1.2: row r turned left by r. 5.3.1: turned right by r.
unfoldable pub shift_rows : List (List ℕ) → List (List ℕ)
shift_rows s = state (λ r c. at s r ((c + r) % 4))

unfoldable pub inv_shift_rows : List (List ℕ) → List (List ℕ)
inv_shift_rows s = state (λ r c. at s r ((c + (4 - r)) % 4))

-- The matrix whose first row is given and in which each later row is the row above turned right by one: row r, column
-- k.
unfoldable pub circulant : List ℕ → ℕ → ℕ → ℕ
circulant first r k = get_or first ((k + (4 - r)) % 4) 0

-- A row of the matrix times a column of the state, in the field.
unfoldable pub dot : (ℕ → ℕ) → (ℕ → ℕ) → ℕ
dot m x = xor (product (m 0) (x 0)) (xor (product (m 1) (x 1)) (xor (product (m 2) (x 2)) (product (m 3) (x 3))))

unfoldable pub mix_with : List ℕ → List (List ℕ) → List (List ℕ)
mix_with first s = state (λ r c. dot (circulant first r) (λ k. at s k c))

-- 5.1.3 and 5.3.3, each with its matrix's first row.
abbrev pub mix_row : List ℕ
mix_row = 0x02 ∷ 0x03 ∷ 0x01 ∷ 0x01 ∷ []

unfoldable pub mix_columns : List (List ℕ) → List (List ℕ)
mix_columns s = mix_with mix_row s

abbrev pub inv_mix_row : List ℕ
inv_mix_row = 0x0e ∷ 0x0b ∷ 0x0d ∷ 0x09 ∷ []

unfoldable pub inv_mix_columns : List (List ℕ) → List (List ℕ)
inv_mix_columns s = mix_with inv_mix_row s

-- 5.1.4: round key number `round` of the schedule w, whose bytes stand as those of a block do.
unfoldable pub add_round_key : List ℕ → ℕ → List (List ℕ) → List (List ℕ)
add_round_key w round s = state (λ r c. xor (at s r c) (get_or w (16 * round + (4 * c + r)) 0))
