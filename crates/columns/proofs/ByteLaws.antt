-- The four bytes of a word: of bytes that are joined, of a word that is turned, and of a sum by XOR. Assumes nothing.
use mathlib.Core.Path.{◌≡◌, refl, sym, ap, ap₂, ◌∙◌}
use mathlib.Core.List.{List, [], ◌∷◌}
use Prim.Native.Nat.{ℕ, ◌+◌, ◌*◌, ◌/◌, ◌%◌, ◌^◌, ◌<◌}
use native.Mathlib.Nat.{add-zero, div-div-eq-div-mul}
use native.Mathlib.Omega.{arith}
use mir.Syntax.{w32}
use lib.Bits.{bit_or, or_shifted}
use lib.ListN.{get_or}
use Rattle.std.specs.Int.{from_le_bytes, to_le_bytes, rotate_left}
use Rattle.bits.specs.Blocks.{Bytes}
use Rattle.bits.specs.Xor.{xor, xor_bytes}
use Rattle.bits.proofs.Xor as Xor
use Rattle.field.specs.Rows.{four, word_at}
use Rattle.field.proofs.Fours.{four-at}
use Rattle.columns.specs.Inner.Words.{byte_at, word_bytes}

pub same-four : {a b c d p q r s : ℕ} → a ≡ p → b ≡ q → c ≡ r → d ≡ s → a ∷ b ∷ c ∷ d ∷ [] ≡ p ∷ q ∷ r ∷ s ∷ []
same-four p q r s = cc

-- ---- words that the code makes of bytes, and bytes of words

pub bytes_joined : {a b c d : ℕ} → a < 256 → b < 256 → c < 256 → d < 256 → word_bytes (from_le_bytes w32 (a ∷ b ∷ c ∷ d ∷ [])) ≡ a ∷ b ∷ c ∷ d ∷ []
unfolding word_bytes byte_at four
bytes_joined ha hb hc hd = same-four (omega arith) (omega arith) (omega arith) (omega arith)

pub word-made : {b : List ℕ} → Bytes b → word_bytes (from_le_bytes w32 b) ≡ four (λ k. get_or b k 0)
unfolding four
word-made h = bytes_joined (h.byte 0) (h.byte 1) (h.byte 2) (h.byte 3)

-- word i of a list of bytes
pub word-joined : {b : List ℕ} → Bytes b → (i : ℕ)
    → word_bytes (from_le_bytes w32 (get_or b (4 * i) 0 ∷ get_or b (4 * i + 1) 0 ∷ get_or b (4 * i + 2) 0 ∷ get_or b (4 * i + 3) 0 ∷ [])) ≡ word_at b i
unfolding word_at four
word-joined {b} h i =
    bytes_joined (h.byte (4 * i)) (h.byte (4 * i + 1)) (h.byte (4 * i + 2)) (h.byte (4 * i + 3)) ∙ same-four (ap (λ n. get_or b n 0) (sym (add-zero (4 * i)))) refl refl refl

pub bytes_split : (x : ℕ) → to_le_bytes w32 x ≡ word_bytes x
unfolding word_bytes byte_at four
bytes_split x = same-four (omega arith) refl refl refl

-- byte r of a word whose bytes follow a rule
pub word_byte : (x : ℕ) (f : ℕ → ℕ) → word_bytes x ≡ four f → (r : ℕ) → r < 4 → byte_at x r ≡ f r
unfolding word_bytes
word_byte x f e r h = sym (four-at 0 (byte_at x) r h) ∙ ap (λ l. get_or l r 0) e ∙ four-at 0 f r h

-- ---- a word that is turned

abbrev joined : ℕ → ℕ → ℕ → ℕ → ℕ
joined a b c d = from_le_bytes w32 (a ∷ b ∷ c ∷ d ∷ [])

turn_one : (a b c d : ℕ) → a < 256 → b < 256 → c < 256 → joined a b c d % 16777216 * 256 + joined a b c d / 16777216 ≡ joined d a b c
turn_one a b c d ha hb hc = omega arith

turn_two : (a b c d : ℕ) → a < 256 → b < 256 → c < 256 → joined a b c d % 65536 * 65536 + joined a b c d / 65536 ≡ joined c d a b
turn_two a b c d ha hb hc = omega arith

turn_three : (a b c d : ℕ) → a < 256 → b < 256 → c < 256 → joined a b c d % 256 * 16777216 + joined a b c d / 256 ≡ joined b c d a
turn_three a b c d ha hb hc = omega arith

pub byte_small : (x r : ℕ) → byte_at x r < 256
unfolding byte_at
byte_small x r = omega arith

module _ (x : ℕ) (h : x < 2 ^ 32) where
  whole : joined (byte_at x 0) (byte_at x 1) (byte_at x 2) (byte_at x 3) ≡ x
  unfolding byte_at
  whole =
      let e : x / 65536 ≡ x / 256 / 256 = sym (div-div-eq-div-mul x 256 256) in
      let f : x / 16777216 ≡ x / 256 / 256 / 256 = sym (ap (λ (y : ℕ). y / 256) (div-div-eq-div-mul x 256 256) ∙ div-div-eq-div-mul x 65536 256) in
      rw (e, f) (digits (x / 256) (x / 256 / 256) (omega arith) refl refl)
    where
      digits : (y z : ℕ) → z / 256 < 256 → y / 256 ≡ z → x / 256 ≡ y → joined (x / 1 % 256) (y % 256) (z % 256) (z / 256 % 256) ≡ x
      digits y z hz p q = omega arith

  -- the bytes of what the code makes of the word, by what it makes of four bytes
  turned : (f : ℕ → ℕ) {p q r s : ℕ} → p < 256 → q < 256 → r < 256 → s < 256
      → f (joined (byte_at x 0) (byte_at x 1) (byte_at x 2) (byte_at x 3)) ≡ joined p q r s → word_bytes (f x) ≡ p ∷ q ∷ r ∷ s ∷ []
  turned f hp hq hr hs e = ap (λ y. word_bytes (f y)) (sym whole) ∙ ap word_bytes e ∙ bytes_joined hp hq hr hs

  -- turned left, by one, two and three bytes
  pub turned-one : word_bytes (rotate_left w32 x 8) ≡ byte_at x 3 ∷ byte_at x 0 ∷ byte_at x 1 ∷ byte_at x 2 ∷ []
  turned-one =
      let shifted : x * 256 % 2 ^ 32 ≡ x % 16777216 * 2 ^ 8 = omega arith in
      ap (λ (y : ℕ). word_bytes (bit_or y (x / 16777216))) shifted ∙ ap word_bytes (or_shifted (x % 16777216) 8 (x / 16777216) (omega arith))
      ∙ turned (λ (y : ℕ). y % 16777216 * 256 + y / 16777216) (byte_small x 3) (byte_small x 0) (byte_small x 1) (byte_small x 2)
      (turn_one (byte_at x 0) (byte_at x 1) (byte_at x 2) (byte_at x 3) (byte_small x 0) (byte_small x 1) (byte_small x 2))

  pub turned_two : word_bytes (rotate_left w32 x 16) ≡ byte_at x 2 ∷ byte_at x 3 ∷ byte_at x 0 ∷ byte_at x 1 ∷ []
  turned_two =
      let shifted : x * 65536 % 2 ^ 32 ≡ x % 65536 * 2 ^ 16 = omega arith in
      ap (λ (y : ℕ). word_bytes (bit_or y (x / 65536))) shifted ∙ ap word_bytes (or_shifted (x % 65536) 16 (x / 65536) (omega arith))
      ∙ turned (λ (y : ℕ). y % 65536 * 65536 + y / 65536) (byte_small x 2) (byte_small x 3) (byte_small x 0) (byte_small x 1)
      (turn_two (byte_at x 0) (byte_at x 1) (byte_at x 2) (byte_at x 3) (byte_small x 0) (byte_small x 1) (byte_small x 2))

  pub turned-three : word_bytes (rotate_left w32 x 24) ≡ byte_at x 1 ∷ byte_at x 2 ∷ byte_at x 3 ∷ byte_at x 0 ∷ []
  turned-three =
      let shifted : x * 16777216 % 2 ^ 32 ≡ x % 256 * 2 ^ 24 = omega arith in
      ap (λ (y : ℕ). word_bytes (bit_or y (x / 256))) shifted ∙ ap word_bytes (or_shifted (x % 256) 24 (x / 256) (omega arith))
      ∙ turned (λ (y : ℕ). y % 256 * 16777216 + y / 256) (byte_small x 1) (byte_small x 2) (byte_small x 3) (byte_small x 0)
      (turn_three (byte_at x 0) (byte_at x 1) (byte_at x 2) (byte_at x 3) (byte_small x 0) (byte_small x 1) (byte_small x 2))

pub bottom : (x : ℕ) → x % 256 ≡ byte_at x 0
unfolding byte_at
bottom x = omega arith

-- ---- a sum

pub byte_xor : (x y r : ℕ) → byte_at (xor x y) r ≡ xor (byte_at x r) (byte_at y r)
unfolding byte_at
byte_xor x y r = ap (λ (z : ℕ). z % 256) (Xor.high (8 * r) x y) ∙ Xor.low 8 (x / 2 ^ (8 * r)) (y / 2 ^ (8 * r))

split_xor : (x y : ℕ) → word_bytes (xor x y) ≡ xor_bytes (word_bytes x) (word_bytes y)
unfolding word_bytes xor_bytes four
split_xor x y = same-four (byte_xor x y 0) (byte_xor x y 1) (byte_xor x y 2) (byte_xor x y 3)

pub sum_bytes : (x y : ℕ) {k l : List ℕ} → word_bytes x ≡ k → word_bytes y ≡ l → word_bytes (xor x y) ≡ xor_bytes k l
sum_bytes x y p q = split_xor x y ∙ ap₂ xor_bytes p q
