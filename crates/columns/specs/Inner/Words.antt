-- Words of four bytes, first byte lowest, and the state whose columns are four words.
use Rattle.std.specs.Prelude.{ℕ, ◌*◌, ◌/◌, ◌%◌, ◌^◌, List, get_or}
use Rattle.field.specs.Rows.{four}
use Rattle.steps.specs.State.{state}

-- Byte r of a word.
unfoldable pub byte_at : ℕ → ℕ → ℕ
byte_at x r = x / 2 ^ (8 * r) % 256

-- Its four bytes.
unfoldable pub word_bytes : ℕ → List ℕ
word_bytes x = four (byte_at x)

unfoldable pub of_words : List ℕ → List (List ℕ)
of_words words = state (λ r c. byte_at (get_or words c 0) r)
