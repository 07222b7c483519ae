-- A state by its four columns, a word to each: what the code makes of the words is what the rounds make of the state.
-- Assumes nothing.
use mathlib.Core.Path.{◌≡◌, refl, sym, ap, ◌∙◌}
use mathlib.Core.Bool.{Bool, true, false}
use mathlib.Core.List.{List, [], ◌∷◌}
use Prim.Native.Nat.{ℕ, ◌+◌, ◌*◌, ◌/◌, ◌%◌, ◌<◌}
use native.Mathlib.Nat.{zero-add}
use native.Mathlib.Omega.{arith}
use mir.Syntax.{w32}
use lib.ListN.{length, get_or}
use Rattle.std.specs.Int.{from_le_bytes}
use Rattle.bits.specs.Blocks.{Bytes}
use Rattle.bits.specs.Xor.{xor}
use Rattle.bits.proofs.Xor as Xor
use Rattle.bits.proofs.Lists.{listed}
use Rattle.field.specs.Rows.{four, word_at}
use Rattle.field.proofs.Fours.{four_ext, four-at}
use Rattle.steps.specs.State.{at, state, column, from_block, to_block}
use Rattle.steps.specs.Steps.{bytewise, shift_rows}
use Rattle.steps.proofs.StateLaws.{at-state, state_ext}
use Rattle.columns.specs.Inner.Words.{byte_at, word_bytes, of_words}
use Rattle.columns.specs.Inner.Rounds.{entry_sum, drawn, round_column, last_byte, last_column, table_round, last_round, add_words, mirrored, arranged}
use Rattle.columns.proofs.ByteLaws.{same-four, word-made, word_byte, bottom, byte_xor}

-- words whose bytes are known, column by column
of_columns : (f : ℕ → ℕ → ℕ) (w : List ℕ) → ((c : ℕ) → c < 4 → word_bytes (get_or w c 0) ≡ four (λ r. f r c)) → of_words w ≡ state f
unfolding of_words
of_columns f w h = state_ext (λ r c. byte_at (get_or w c 0) r) f (λ r c hr hc. word_byte (get_or w c 0) (λ r. f r c) (h c hc) r hr)

at-words : (w : List ℕ) (r c : ℕ) → r < 4 → c < 4 → at (of_words w) r c ≡ byte_at (get_or w c 0) r
unfolding of_words
at-words w = at-state (λ r c. byte_at (get_or w c 0) r)

-- ---- a block, in and out

pub loaded : (b w : List ℕ) → ((c : ℕ) → c < 4 → word_bytes (get_or w c 0) ≡ word_at b c) → of_words w ≡ from_block b
unfolding from_block word_at
loaded b w h = of_columns (λ r c. get_or b (4 * c + r) 0) w h

pub stored : (w : List ℕ) {b : List ℕ} → length b ≡ 16 → ((i : ℕ) → i < 16 → get_or b i 0 ≡ get_or (word_bytes (get_or w (i / 4) 0)) (i % 4) 0) → b ≡ to_block (of_words w)
unfolding to_block column at state four of_words word_bytes
stored w {b} long h =
    rw (
      sym (listed 0 16 b long),
      h 0 (omega arith),
      h 1 (omega arith),
      h 2 (omega arith),
      h 3 (omega arith),
      h 4 (omega arith),
      h 5 (omega arith),
      h 6 (omega arith),
      h 7 (omega arith),
      h 8 (omega arith),
      h 9 (omega arith),
      h 10 (omega arith),
      h 11 (omega arith),
      h 12 (omega arith),
      h 13 (omega arith),
      h 14 (omega arith),
      h 15 (omega arith),
    ) refl

pub arranged_back : (w : List ℕ) {decrypting : Bool} → decrypting ≡ true
    → of_words (get_or w 0 0 ∷ get_or w 3 0 ∷ get_or w 2 0 ∷ get_or w 1 0 ∷ []) ≡ arranged decrypting (of_words w)
unfolding arranged mirrored of_words at state four
arranged_back w e = rw e

pub arranged-same : (s : List (List ℕ)) {decrypting : Bool} → decrypting ≡ false → s ≡ arranged decrypting s
unfolding arranged
arranged-same s e = rw e

-- ---- the words of a round key

word_xor : (x y : ℕ) → word_bytes (xor x y) ≡ four (λ r. xor (byte_at x r) (byte_at y r))
unfolding word_bytes four
word_xor x y = same-four (byte_xor x y 0) (byte_xor x y 1) (byte_xor x y 2) (byte_xor x y 3)

pub added : (p : List ℕ) (round : ℕ) (s w : List ℕ) → ((c : ℕ) → c < 4 → get_or w c 0 ≡ xor (get_or s c 0) (get_or p (1280 + 4 * round + c) 0))
    → of_words w ≡ add_words p round (of_words s)
unfolding add_words
added p round s w h =
    of_columns (λ r c. xor (at (of_words s) r c) (byte_at (get_or p (1280 + 4 * round + c) 0) r)) w
    (λ c hc. ap word_bytes (h c hc) ∙ word_xor (get_or s c 0) (get_or p (1280 + 4 * round + c) 0)
    ∙ four_ext _ _ (λ r hr. ap (λ b. xor b (byte_at (get_or p (1280 + 4 * round + c) 0) r)) (sym (at-words s r c hr hc))))

-- ---- a round

-- the bytes that ShiftRows brings into a column
pub drawn-bytes : (s : List ℕ) (c : ℕ) {x : List ℕ} → length x ≡ 4 → ((k : ℕ) → k < 4 → get_or x k 0 ≡ get_or (word_bytes (get_or s ((c + k) % 4) 0)) k 0) → x ≡ four (drawn (of_words s) c)
unfolding drawn of_words word_bytes at state four
drawn-bytes s c {x} long h = sym (listed 0 4 x long) ∙ four_ext (λ k. get_or x k 0) (drawn (of_words s) c) byte
  where
    byte : (k : ℕ) → k < 4 → get_or x k 0 ≡ drawn (of_words s) c k
    byte k hk = h k hk ∙ four-at 0 (byte_at (get_or s ((c + k) % 4) 0)) k hk ∙ sym (at-words s k ((c + k) % 4) hk (omega arith))

-- four words by XOR, row by row
sum_four : (p q s t : ℕ) → word_bytes (xor (xor (xor p q) s) t) ≡ four (λ r. xor (byte_at p r) (xor (byte_at q r) (xor (byte_at s r) (byte_at t r))))
unfolding word_bytes
sum_four p q s t = four_ext _ _ (λ r h. row r)
  where
    row : (r : ℕ) → byte_at (xor (xor (xor p q) s) t) r ≡ xor (byte_at p r) (xor (byte_at q r) (xor (byte_at s r) (byte_at t r)))
    row r = simp (byte_xor, Xor.assoc)

pub round-column : (p x : List ℕ)
    → word_bytes (xor (xor (xor (get_or p (get_or x 0 0) 0) (get_or p (256 + get_or x 1 0) 0)) (get_or p (512 + get_or x 2 0) 0)) (get_or p (768 + get_or x 3 0) 0))
    ≡ round_column p x
unfolding round_column entry_sum word_bytes four
round-column p x =
    rw (zero-add (get_or x 0 0))
    (sum_four (get_or p (get_or x 0 0) 0) (get_or p (256 + get_or x 1 0) 0) (get_or p (512 + get_or x 2 0) 0) (get_or p (768 + get_or x 3 0) 0))

pub last-column : (p x w : List ℕ) → Bytes w → ((k : ℕ) → k < 4 → get_or w k 0 ≡ get_or p (1024 + get_or x k 0) 0 % 256) → word_bytes (from_le_bytes w32 w) ≡ last_column p x
unfolding last_column last_byte
last-column p x w bytes h = word-made bytes ∙ four_ext (λ k. get_or w k 0) _ (λ k hk. h k hk ∙ bottom (get_or p (1024 + get_or x k 0) 0))

-- Four words are the columns of a state after a round but for its key.
pub rounded : (p s w : List ℕ) → ((c : ℕ) → c < 4 → word_bytes (get_or w c 0) ≡ round_column p (four (drawn (of_words s) c))) → of_words w ≡ table_round p (of_words s)
unfolding table_round round_column entry_sum four
rounded p s w h = of_columns (λ r c. entry_sum p (drawn (of_words s) c) r) w h

pub last_rounded : (p s w : List ℕ) → ((c : ℕ) → c < 4 → word_bytes (get_or w c 0) ≡ last_column p (four (drawn (of_words s) c))) → of_words w ≡ last_round p (of_words s)
unfolding last_round shift_rows bytewise last_column drawn
last_rounded p s w h =
    of_columns (λ r c. at (state (λ r c. last_byte p (at (of_words s) r c))) r ((c + r) % 4)) w
    (λ c hc. h c hc ∙ four_ext _ _ (λ r hr. ap (last_byte p) (drawn-at r c hr) ∙ sym (at-state (λ r c. last_byte p (at (of_words s) r c)) r ((c + r) % 4) hr (omega arith))))
  where
    drawn-at : (r c : ℕ) → r < 4 → get_or (four (λ k. at (of_words s) k ((c + k) % 4))) r 0 ≡ at (of_words s) r ((c + r) % 4)
    drawn-at r c hr = four-at 0 (λ k. at (of_words s) k ((c + k) % 4)) r hr
