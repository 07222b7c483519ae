-- What is prepared, part by part, and all of it by one rule.
use Rattle.std.specs.Prelude.{ℕ, ◌+◌, ◌-◌, ◌*◌, ◌/◌, ◌%◌, ◌≤◌, ◌<◌, ◌≡◌, Bool, true, cond, List, [], ◌∷◌, ltb, get_or, replicate}
use Rattle.field.specs.Field.{product}
use Rattle.boxes.specs.Boxes.{sub_byte, inv_sub_byte}
use Rattle.field.specs.Rows.{four, word_at}
use Rattle.steps.specs.Steps.{mix_row, inv_mix_row, circulant, dot}
use Rattle.cipher.specs.Cipher.{rounds_ok}
use Rattle.columns.specs.Inner.Words.{word_bytes}

-- SubBytes or InvSubBytes of a byte.
unfoldable pub substituted : Bool → ℕ → ℕ
substituted decrypting b = cond decrypting (inv_sub_byte b) (sub_byte b)

-- The first row of the matrix of MixColumns or InvMixColumns.
unfoldable pub matrix : Bool → List ℕ
matrix decrypting = cond decrypting inv_mix_row mix_row

-- Column k of the matrix times a byte.
unfoldable pub column_times : Bool → ℕ → ℕ → List ℕ
column_times decrypting k b = four (λ r. product (circulant (matrix decrypting) r k) b)

-- Words whose bytes follow a rule, up to a count. A word of 32 bits is its four bytes.
pub record Holds (count : ℕ) (rule : ℕ → List ℕ) (words : List ℕ) : Type 0 where
  pub word : (i : ℕ) → i < count → word_bytes (get_or words i 0) ≡ rule i

-- The table, in four parts: entry 256 * k + b is column k of the matrix times the substitute of b in `last`.
unfoldable pub entry_rule : Bool → List ℕ → ℕ → List ℕ
entry_rule decrypting last i = column_times decrypting (i / 256) (get_or last (i % 256) 0)

-- What InvMixColumns makes of a column.
unfoldable pub unmixed : List ℕ → List ℕ
unmixed x = four (λ r. dot (circulant (matrix true) r) (λ k. get_or x k 0))

-- Word i of the round keys in the order of decryption: from the last round key to the first, each with its columns in
-- the order 0, 3, 2, 1; and the same with those in the middle after InvMixColumns (FIPS 197 section 5.3.5).
unfoldable pub reversed_rule : ℕ → List ℕ → ℕ → List ℕ
reversed_rule rounds keys i = word_at keys (4 * (rounds - i / 4) + (4 - i % 4) % 4)

unfoldable pub backward_rule : ℕ → List ℕ → ℕ → List ℕ
backward_rule rounds keys i =
    cond (ltb i 4) (reversed_rule rounds keys i)
    (cond (ltb i (4 * rounds)) (unmixed (reversed_rule rounds keys i)) (reversed_rule rounds keys i))

-- A rule up to a count, and zero bytes from there on.
unfoldable pub zero_from : ℕ → (ℕ → List ℕ) → ℕ → List ℕ
zero_from count rule i = cond (ltb i count) (rule i) (replicate 4 0)

-- The words as the rounds take them. To encrypt these are the round keys' own; to decrypt there are as many as the
-- rounds take, and none under rounds other than 10, 12 and 14, with zero after them.
unfoldable pub word_rule : Bool → ℕ → List ℕ → ℕ → List ℕ
word_rule decrypting rounds keys =
    cond decrypting (zero_from (cond (rounds_ok rounds) (4 * rounds + 4) 0) (backward_rule rounds keys)) (word_at keys)

-- Words that are `others`, those from word 4 up to `end` after InvMixColumns.
pub record Unmixed (end : ℕ) (others words : List ℕ) : Type 0 where
  pub before : (i : ℕ) → i < 4 → get_or words i 0 ≡ get_or others i 0
  pub between : (i : ℕ) → 4 ≤ i → i < end → word_bytes (get_or words i 0) ≡ unmixed (word_bytes (get_or others i 0))
  pub behind : (i : ℕ) → end ≤ i → get_or words i 0 ≡ get_or others i 0

-- A byte as a word.
unfoldable pub byte_word : ℕ → List ℕ
byte_word b = b ∷ 0 ∷ 0 ∷ 0 ∷ []

-- Words from one index up to another, of each of which `made` holds. Those before are as they were.
pub record Placed (start end : ℕ) (made : ℕ → ℕ → Type 0) (before after : List ℕ) : Type 0 where
  pub kept : (i : ℕ) → i < start → get_or after i 0 ≡ get_or before i 0
  pub word : (i : ℕ) → start ≤ i → i < end → made i (get_or after i 0)

-- Such words that follow a rule.
abbrev pub Filled : ℕ → ℕ → (ℕ → List ℕ) → List ℕ → List ℕ → Type 0
Filled start end rule = Placed start end (λ i word. word_bytes word ≡ rule i)

-- ---- all of it

-- Both tables: column k of the matrix times the substitute of b at 256 * k + b, then the substitutes themselves.
unfoldable pub table_rule : Bool → ℕ → List ℕ
table_rule decrypting i =
    cond (ltb i 1024) (column_times decrypting (i / 256) (substituted decrypting (i % 256))) (byte_word (substituted decrypting (i - 1024)))

-- The rounds, or 0 where there is no cipher of this many; and 1 for decryption, 0 for encryption.
unfoldable pub end_rule : Bool → ℕ → ℕ → List ℕ
end_rule decrypting rounds i = cond (ltb i 1341) (word_bytes (cond (rounds_ok rounds) rounds 0)) (word_bytes (cond decrypting 1 0))

-- The word at each index.
unfoldable pub prepared_rule : Bool → ℕ → List ℕ → ℕ → List ℕ
prepared_rule decrypting rounds keys i =
    cond (ltb i 1280) (table_rule decrypting i) (cond (ltb i 1340) (word_rule decrypting rounds keys (i - 1280)) (end_rule decrypting rounds i))
