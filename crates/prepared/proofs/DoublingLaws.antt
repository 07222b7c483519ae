-- The multiples of bytes that the matrices hold, by doublings: the entries of the table, and InvMixColumns of a word.
-- Assumes nothing.
use mathlib.Core.Path.{◌≡◌, refl, sym, ap, ◌∙◌}
use mathlib.Core.Bool.{true, false}
use mathlib.Core.List.{List, [], ◌∷◌, map}
use Prim.Native.Nat.{ℕ, ◌+◌, ◌-◌, ◌*◌, ◌<◌}
use native.Mathlib.Omega.{arith}
use mir.Syntax.{w32}
use lib.Bits.{bit_xor}
use Rattle.std.specs.Int.{from_le_bytes}
use Rattle.bits.specs.Xor.{xor, xor_bytes}
use Rattle.bits.specs.Counter.{number, number_bytes}
use Rattle.bits.proofs.Xor as Xor
use Rattle.field.specs.Field.{double, product}
use Rattle.field.specs.Rows.{four}
use Rattle.field.proofs.FieldLaws.{double-xor, double_byte, times_one, times_two, times_three, times_nine, times_eleven, times_thirteen, times_fourteen}
use Rattle.field.proofs.RowLaws.{join_four}
use Rattle.steps.specs.Steps.{circulant, dot}
use Rattle.columns.specs.Inner.Words.{byte_at, word_bytes}
use Rattle.prepared.specs.Inner.Parts.{matrix, column_times, unmixed}
use Rattle.columns.proofs.ByteLaws.{same-four, bytes_joined, sum_bytes}

-- ---- the entries

pub sum_byte : {x y : ℕ} → x < 256 → y < 256 → bit_xor x y < 256
unfolding xor
sum_byte h k = Xor.width 8 h k

pub forward_entry : (b : ℕ) {t : ℕ} {l : List ℕ} → t ≡ double b → l ≡ t ∷ b ∷ b ∷ xor t b ∷ [] → l ≡ column_times false 0 b
unfolding column_times circulant matrix four
forward_entry b p e = e ∙ rw p (same-four (sym (times_two b)) (sym (times_one b)) (sym (times_one b)) (Xor.comm (double b) b ∙ sym (times_three b)))

pub backward_entry : (b : ℕ) {t f e : ℕ} {l : List ℕ} → t ≡ double b → f ≡ double t → e ≡ double f
    → l ≡ xor (xor e f) t ∷ xor e b ∷ xor (xor e f) b ∷ xor (xor e t) b ∷ [] → l ≡ column_times true 0 b
unfolding column_times circulant matrix four
backward_entry b {t} {f} {e} pt pf pe eq =
    eq ∙ same-four (fourteen ∙ sym (times_fourteen b)) (nine ∙ sym (times_nine b)) (thirteen ∙ sym (times_thirteen b)) (eleven ∙ sym (times_eleven b))
  where
    pf' : f ≡ double (double b)
    pf' = pf ∙ ap double pt

    pe' : e ≡ double (double (double b))
    pe' = pe ∙ ap double pf'

    sorted-three : (p q r : ℕ) → xor (xor p q) r ≡ xor r (xor q p)
    sorted-three p q r = simp Xor.sorted

    fourteen : xor (xor e f) t ≡ xor (double b) (xor (double (double b)) (double (double (double b))))
    fourteen = rw (pe', pf', pt) (sorted-three (double (double (double b))) (double (double b)) (double b))

    nine : xor e b ≡ xor b (double (double (double b)))
    nine = rw pe' (Xor.comm (double (double (double b))) b)

    thirteen : xor (xor e f) b ≡ xor b (xor (double (double b)) (double (double (double b))))
    thirteen = rw (pe', pf') (sorted-three (double (double (double b))) (double (double b)) b)

    eleven : xor (xor e t) b ≡ xor b (xor (double b) (double (double (double b))))
    eleven = rw (pe', pt) (sorted-three (double (double (double b))) (double b) b)

-- ---- InvMixColumns

lowest-first : (a b c d : ℕ) → d * 16777216 + c * 65536 + b * 256 + a ≡ from_le_bytes w32 (a ∷ b ∷ c ∷ d ∷ [])
lowest-first a b c d = omega arith

doubled_all : (x : ℕ) → word_bytes (number (map double (number_bytes 4 x))) ≡ map double (word_bytes x)
unfolding word_bytes byte_at number_bytes four
doubled_all x =
    ap word_bytes (sym (join_four (λ i. double (byte_at x (3 - i)))) ∙ lowest-first (double (byte_at x 0)) (double (byte_at x 1)) (double (byte_at x 2)) (double (byte_at x 3)))
    ∙ bytes_joined (double_byte (byte_at x 0)) (double_byte (byte_at x 1)) (double_byte (byte_at x 2)) (double_byte (byte_at x 3))

doubled : (x : ℕ) {r : ℕ} {l : List ℕ} → r ≡ number (map double (number_bytes 4 x)) → word_bytes x ≡ l → word_bytes r ≡ map double l
doubled x e p = ap word_bytes e ∙ doubled_all x ∙ ap (map double) p

-- a row, as the code adds it up: a byte, and the three below it
unmixed_row : ℕ → ℕ → ℕ → ℕ → ℕ
unmixed_row a b c d =
    xor (double (xor (xor (double (xor (xor (double (xor a (xor (xor b c) d))) a) c)) a) b)) (xor (xor b c) d)

ruleset by_doublings = (times_nine, times_eleven, times_thirteen, times_fourteen, double-xor, Xor.assoc, Xor.comm, Xor.left_comm)

row : (a b c d : ℕ) → unmixed_row a b c d ≡ xor (product 14 a) (xor (product 11 b) (xor (product 13 c) (product 9 d)))
unfolding unmixed_row
row a b c d = simp by_doublings

-- a sum of four that begins at another of them
turned : (p q r s : ℕ) → xor p (xor q (xor r s)) ≡ xor s (xor p (xor q r))
turned p q r s = simp Xor.sorted

rows : (a b c d : ℕ) → unmixed_row a b c d ∷ unmixed_row b c d a ∷ unmixed_row c d a b ∷ unmixed_row d a b c ∷ [] ≡ unmixed (a ∷ b ∷ c ∷ d ∷ [])
unfolding unmixed matrix circulant dot four
rows a b c d =
    same-four (row a b c d) (row b c d a ∙ turned (product 14 b) (product 11 c) (product 13 d) (product 9 a))
    (row c d a b ∙ turned (product 14 c) (product 11 d) (product 13 a) (product 9 b) ∙ turned (product 9 b) (product 14 c) (product 11 d) (product 13 a))
    (row d a b c ∙ sym (turned (product 11 a) (product 13 b) (product 9 c) (product 14 d)))

module _ (x next across one : ℕ) (hn : word_bytes next ≡ byte_at x 1 ∷ byte_at x 2 ∷ byte_at x 3 ∷ byte_at x 0 ∷ [])
    (ha : word_bytes across ≡ byte_at x 2 ∷ byte_at x 3 ∷ byte_at x 0 ∷ byte_at x 1 ∷ [])
    (ho : word_bytes one ≡ byte_at x 3 ∷ byte_at x 0 ∷ byte_at x 1 ∷ byte_at x 2 ∷ []) where
  pub unmixed-word : (eight fourfold twice : ℕ) → eight ≡ number (map double (number_bytes 4 (xor x (xor (xor next across) one))))
      → fourfold ≡ number (map double (number_bytes 4 (xor (xor eight x) across)))
      → twice ≡ number (map double (number_bytes 4 (xor (xor fourfold x) next)))
      → word_bytes (xor twice (xor (xor next across) one)) ≡ unmixed (word_bytes x)
  unfolding word_bytes four xor_bytes unmixed_row
  unmixed-word eight fourfold twice pe pf pt =
      let others = sum_bytes (xor next across) one (sum_bytes next across hn ha) ho in
      let eight-bytes = doubled (xor x (xor (xor next across) one)) pe (sum_bytes x (xor (xor next across) one) {k = word_bytes x} refl others) in
      let four_bytes = doubled (xor (xor eight x) across) pf (sum_bytes (xor eight x) across (sum_bytes eight x {l = word_bytes x} eight-bytes refl) ha) in
      let two_bytes = doubled (xor (xor fourfold x) next) pt (sum_bytes (xor fourfold x) next (sum_bytes fourfold x {l = word_bytes x} four_bytes refl) hn) in
      sum_bytes twice (xor (xor next across) one) two_bytes others ∙ rows (byte_at x 0) (byte_at x 1) (byte_at x 2) (byte_at x 3)
