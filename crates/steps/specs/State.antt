-- The state, FIPS 197 section 3.4: a square of four rows of four bytes; byte 4c + r of a block stands in row r, column
-- c.
use Rattle.std.specs.Prelude.{ℕ, ◌+◌, ◌*◌, List, [], ◌++◌, get_or}
use Rattle.field.specs.Rows.{four}

-- s[r, c].
unfoldable pub at : List (List ℕ) → ℕ → ℕ → ℕ
at s r c = get_or (get_or s r []) c 0

-- The state whose byte in row r, column c is f r c.
unfoldable pub state : (ℕ → ℕ → ℕ) → List (List ℕ)
state f = four (λ r. four (f r))

-- From a block to the state, and back.
unfoldable pub from_block : List ℕ → List (List ℕ)
from_block b = state (λ r c. get_or b (4 * c + r) 0)

-- Column c, from the first row down.
unfoldable pub column : List (List ℕ) → ℕ → List ℕ
column s c = four (λ r. at s r c)

unfoldable pub to_block : List (List ℕ) → List ℕ
to_block s = column s 0 ++ column s 1 ++ column s 2 ++ column s 3
