-- What the rounds make of a state, by any words p that stand where prepared ones do: the table from word 0 on, 256
-- words to a row; from 1024 on the bytes of the last round, a word to each; from 1280 on the words of the round keys;
-- at 1340 the rounds; at 1341 the direction.
use Rattle.std.specs.Prelude.{ℕ, zero, suc, ◌+◌, ◌-◌, ◌*◌, ◌%◌, Bool, cond, List, ltb, get_or}
use Rattle.bits.specs.Xor.{xor}
use Rattle.field.specs.Rows.{four}
use Rattle.steps.specs.State.{at, state, from_block, to_block}
use Rattle.steps.specs.Steps.{bytewise, shift_rows}
use Rattle.columns.specs.Inner.Words.{byte_at}

-- Row r of the sum of the entries of four bytes, that of byte k in part k of the table.
unfoldable pub entry_sum : List ℕ → (ℕ → ℕ) → ℕ → ℕ
entry_sum p x r = xor (row 0) (xor (row 1) (xor (row 2) (row 3)))
  where
    row : ℕ → ℕ
    row k = byte_at (get_or p (256 * k + x k) 0) r

-- The bytes that ShiftRows brings into column c: byte k comes from the k-th column to the right.
unfoldable pub drawn : List (List ℕ) → ℕ → ℕ → ℕ
drawn s c k = at s k ((c + k) % 4)

-- A column after a round but for its key, and after the last one, from these bytes.
unfoldable pub round_column : List ℕ → List ℕ → List ℕ
round_column p x = four (entry_sum p (λ k. get_or x k 0))

unfoldable pub last_byte : List ℕ → ℕ → ℕ
last_byte p b = byte_at (get_or p (1024 + b) 0) 0

unfoldable pub last_column : List ℕ → List ℕ → List ℕ
last_column p x = four (λ k. last_byte p (get_or x k 0))

-- A round but for its key.
unfoldable pub table_round : List ℕ → List (List ℕ) → List (List ℕ)
table_round p s = state (λ r c. entry_sum p (drawn s c) r)

-- The last round, by its bytes.
unfoldable pub last_round : List ℕ → List (List ℕ) → List (List ℕ)
last_round p s = shift_rows (bytewise (last_byte p) s)

-- AddRoundKey by the four words of a round, one to a column.
unfoldable pub add_words : List ℕ → ℕ → List (List ℕ) → List (List ℕ)
add_words p round s = state (λ r c. xor (at s r c) (byte_at (get_or p (1280 + 4 * round + c) 0) r))

-- The state after the first words and k rounds.
unfoldable pub rounds_by : List ℕ → ℕ → List (List ℕ) → List (List ℕ)
rounds_by p zero s = add_words p 0 s
rounds_by p (suc k) s = add_words p (suc k) (table_round p (rounds_by p k s))

-- The columns in the order 0, 3, 2, 1.
unfoldable pub mirrored : List (List ℕ) → List (List ℕ)
mirrored s = state (λ r c. at s r ((4 - c) % 4))

-- To decrypt, they are put in that order before the first round, and turned back after the last.
unfoldable pub arranged : Bool → List (List ℕ) → List (List ℕ)
arranged decrypting s = cond decrypting (mirrored s) s

-- The rounds and the direction, as they are kept.
unfoldable pub rounds_in : List ℕ → ℕ
rounds_in p = byte_at (get_or p 1340 0) 0

unfoldable pub decrypts_by : List ℕ → Bool
decrypts_by p = ltb 0 (byte_at (get_or p 1341 0) 0)

unfoldable pub block_by_rounds : List ℕ → ℕ → List ℕ → List ℕ
block_by_rounds p rounds b =
    to_block (arranged (decrypts_by p) (add_words p rounds (last_round p (rounds_by p (rounds - 1) (arranged (decrypts_by p) (from_block b))))))
