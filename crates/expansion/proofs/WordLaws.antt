-- One word of the schedule (FIPS 197 section 5.2): words from tables and by their bytes, the three cases of `temp`,
-- lengths, and that all stay bytes. Assumes nothing.
use mathlib.Core.Path.{◌≡◌, refl, sym, ap, ap₂, ◌∙◌}
use mathlib.Core.Bool.{Bool, true, false, cond}
use mathlib.Core.List.{List, ◌++◌}
use Prim.Native.Nat.{ℕ, zero, suc, ◌+◌, ◌-◌, ◌*◌, ◌/◌, ◌%◌, ◌≤◌, ◌<◌}
use native.Mathlib.Nat.{zero-lt-suc}
use native.Mathlib.Omega.{arith}
use lib.Dec.{eqb, ltb}
use lib.ListN.{length, get_or, get_or-append}
use borrow.Author.Tests.{eq-eqb, ne_eqb, lt-ltb, le-ltb}
use Rattle.bits.specs.Xor.{xor, xor_bytes}
use Rattle.bits.specs.Blocks.{Bytes}
use Rattle.bits.proofs.Lists.{listed}
use Rattle.bits.proofs.Texts.{bytes_nil, cons_bytes}
use Rattle.bits.proofs.Xors.{length-xor_bytes, xor_bytes_bytes}
use Rattle.boxes.specs.Boxes.{sub_byte, Tabulates}
use Rattle.field.specs.Rows.{four, word_at}
use Rattle.field.proofs.Fours.{four_ext, four_bytes}
use Rattle.field.proofs.FieldLaws.{double_byte}
use Rattle.boxes.proofs.BoxLaws.{sub_byte_byte}
use Rattle.expansion.specs.KeyExpansion.{sub_word, rot_word, power, rcon, temp, next_word}

pub xor-four : (a b : List ℕ) → length a ≡ 4 → length b ≡ 4 → four (λ i. xor (get_or a i 0) (get_or b i 0)) ≡ xor_bytes a b
unfolding four xor_bytes
xor-four a b p q = ap₂ xor_bytes (listed 0 4 a p) (listed 0 4 b q)

pub table_word : {table t : List ℕ} → Tabulates sub_byte table → Bytes t → four (λ j. get_or table (get_or t j 0) 0) ≡ sub_word t
unfolding sub_word
table_word {table} {t} tab h = four_ext _ _ (λ j hj. tab.entry (get_or t j 0) (h.byte j))

-- ---- the cases of `temp`

module _ (nk i : ℕ) (t : List ℕ) where
  pub temp-first : i % nk ≡ 0 → temp nk i t ≡ xor_bytes (sub_word (rot_word t)) (rcon (i / nk))
  unfolding temp
  temp-first e = rw (eq-eqb (i % nk) 0 e)

  pub temp-middle : 6 < nk → i % nk ≡ 4 → temp nk i t ≡ sub_word t
  unfolding temp
  temp-middle h e = rw (ne_eqb (i % nk) 0 (omega arith), lt-ltb 6 nk h, eq-eqb (i % nk) 4 e) refl

  pub temp-other : (i % nk ≡ 0 → ⊥) → (i % nk ≡ 4 → ⊥) → temp nk i t ≡ t
  unfolding temp
  temp-other n m = rw (ne_eqb (i % nk) 0 n, ne_eqb (i % nk) 4 m) (elim (ltb 6 nk) as (λ b. cond b t t ≡ t) [ true ↦ refl | false ↦ refl ])

  pub temp-short : nk ≤ 6 → (i % nk ≡ 0 → ⊥) → temp nk i t ≡ t
  unfolding temp
  temp-short h n = rw (ne_eqb (i % nk) 0 n, le-ltb 6 nk h)

  -- what holds of the three results holds of `temp`
  temp-cases : (P : List ℕ → Type 0) → P (xor_bytes (sub_word (rot_word t)) (rcon (i / nk))) → P (sub_word t) → P t → P (temp nk i t)
  unfolding temp
  temp-cases P p q r = chosen (eqb (i % nk) 0) p (chosen (ltb 6 nk) (chosen (eqb (i % nk) 4) q r) r)
    where
      chosen : (b : Bool) {x y : List ℕ} → P x → P y → P (cond b x y)
      chosen true px py = px
      chosen false px py = py

-- ---- lengths

word_at_length : (w : List ℕ) (i : ℕ) → length (word_at w i) ≡ 4
unfolding word_at four
word_at_length w i = refl

temp-length : (nk i : ℕ) (t : List ℕ) → length t ≡ 4 → length (temp nk i t) ≡ 4
unfolding xor_bytes sub_word rot_word rcon four
temp-length nk i t h = temp-cases nk i t (λ x. length x ≡ 4) refl refl h

pub next_word-length : (nk : ℕ) (w : List ℕ) (i : ℕ) → length (next_word nk w i) ≡ 4
unfolding next_word
next_word-length nk w i =
    length-xor_bytes (word_at w (i - nk)) (temp nk i (word_at w (i - 1)))
    (word_at_length w (i - nk) ∙ sym (temp-length nk i (word_at w (i - 1)) (word_at_length w (i - 1))))
    ∙ word_at_length w (i - nk)

-- ---- bytes

power_byte : (j : ℕ) → power j < 256
unfolding power
power_byte zero = omega arith
power_byte (suc j) = double_byte (power j)

word_at_bytes : {w : List ℕ} → Bytes w → (i : ℕ) → Bytes (word_at w i)
unfolding word_at
word_at_bytes {w} h i = four_bytes (λ j. get_or w (4 * i + j) 0) (λ j. h.byte (4 * i + j))

sub_word_bytes : (t : List ℕ) → Bytes (sub_word t)
unfolding sub_word
sub_word_bytes t = four_bytes (λ j. sub_byte (get_or t j 0)) (λ j. sub_byte_byte (get_or t j 0))

pub rot_word_bytes : {t : List ℕ} → Bytes t → Bytes (rot_word t)
unfolding rot_word
rot_word_bytes {t} h = four_bytes (λ j. get_or t ((j + 1) % 4) 0) (λ j. h.byte ((j + 1) % 4))

rcon_bytes : (j : ℕ) → Bytes (rcon j)
unfolding rcon
rcon_bytes j = cons_bytes (power_byte (j - 1)) (cons_bytes zero_byte (cons_bytes zero_byte (cons_bytes zero_byte bytes_nil)))
  where
    zero_byte : 0 < 256
    zero_byte = zero-lt-suc 255

temp_bytes : (nk i : ℕ) {t : List ℕ} → Bytes t → Bytes (temp nk i t)
temp_bytes nk i {t} h = temp-cases nk i t Bytes (xor_bytes_bytes (sub_word_bytes (rot_word t)) (rcon_bytes (i / nk))) (sub_word_bytes t) h

pub next_word_bytes : (nk : ℕ) {w : List ℕ} → Bytes w → (i : ℕ) → Bytes (next_word nk w i)
unfolding next_word
next_word_bytes nk {w} h i = xor_bytes_bytes (word_at_bytes h (i - nk)) (temp_bytes nk i (word_at_bytes h (i - 1)))

-- ---- what follows the words that are read changes nothing

word_at_front : (b z : List ℕ) (i : ℕ) → 4 * i + 4 ≤ length b → word_at (b ++ z) i ≡ word_at b i
unfolding word_at
word_at_front b z i h = four_ext _ _ (λ j hj. get_or-append b z 0 (4 * i + j) (omega arith))

pub next_word_front : (nk : ℕ) (b z : List ℕ) (i : ℕ) → 0 < nk → nk ≤ i → 4 * i ≤ length b → next_word nk (b ++ z) i ≡ next_word nk b i
unfolding next_word
next_word_front nk b z i p q h =
    ap₂ xor_bytes (word_at_front b z (i - nk) (omega arith)) (ap (temp nk i) (word_at_front b z (i - 1) (omega arith)))
