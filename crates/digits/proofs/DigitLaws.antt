-- Bytes and their digits: lengths, and the digits of each byte. Assumes nothing.
use mathlib.Core.Path.{◌≡◌, refl}
use mathlib.Core.Bool.{true, ◌&&◌}
use mathlib.Core.List.{List, [], ◌∷◌}
use Prim.Native.Nat.{ℕ, zero, suc, ◌+◌, ◌*◌, ◌/◌, ◌%◌, ◌≤◌, ◌<◌}
use native.Mathlib.Nat.{not-suc-le-zero, le_of_suc-le-suc, add_assoc}
use native.Mathlib.Omega.{arith}
use borrow.Author.Tests.{leb-true}
use lib.Dec.{leb, eqb}
use lib.ListN.{length, get_or, set}
use lib.Seq.{paste}
use Rattle.bits.proofs.Fills.{pasted_next}
use Rattle.digits.specs.Texts.{value, digit, all, is_hex, digits_fit, hex_bytes, hex_text}
use Rattle.digits.proofs.RangeLaws.{and_first}

double : (i : ℕ) → suc i * 2 ≡ suc (suc (i * 2))
double i = omega arith

double_on : (i : ℕ) → suc i * 2 + 1 ≡ suc (suc (i * 2 + 1))
double_on i = omega arith

pub length-hex_bytes : (s : List ℕ) → length (hex_bytes s) ≡ length s / 2
unfolding hex_bytes
length-hex_bytes [] = refl
length-hex_bytes (a ∷ []) = refl
length-hex_bytes (a ∷ b ∷ s) = omega (arith, length-hex_bytes s)

pub get_or-hex_bytes : (s : List ℕ) (i : ℕ) → i * 2 + 1 < length s → get_or (hex_bytes s) i 0 ≡ value (get_or s (i * 2) 0) * 16 + value (get_or s (i * 2 + 1) 0)
unfolding hex_bytes
get_or-hex_bytes [] i h = absurd (not-suc-le-zero h)
get_or-hex_bytes (a ∷ []) i h = absurd (omega arith)
get_or-hex_bytes (a ∷ b ∷ s) zero h = refl
get_or-hex_bytes (a ∷ b ∷ s) (suc i) h = rw (double_on, double) (get_or-hex_bytes s i (omega arith))

pub length-hex_text : (s : List ℕ) → length (hex_text s) ≡ length s * 2
unfolding hex_text
length-hex_text [] = refl
length-hex_text (b ∷ s) = omega (arith, length-hex_text s)

pub high_digit : (s : List ℕ) (i : ℕ) → i < length s → get_or (hex_text s) (i * 2) 0 ≡ digit (get_or s i 0 / 16)
unfolding hex_text
high_digit [] i h = absurd (not-suc-le-zero h)
high_digit (b ∷ s) zero h = refl
high_digit (b ∷ s) (suc i) h = rw double (high_digit s i (le_of_suc-le-suc h))

pub low_digit : (s : List ℕ) (i : ℕ) → i < length s → get_or (hex_text s) (i * 2 + 1) 0 ≡ digit (get_or s i 0 % 16)
unfolding hex_text
low_digit [] i h = absurd (not-suc-le-zero h)
low_digit (b ∷ s) zero h = refl
low_digit (b ∷ s) (suc i) h = rw double_on (low_digit s i (le_of_suc-le-suc h))

-- ---- two digits more, in a list that a loop writes

pub pasted_pair : (d : List ℕ) (at : ℕ) (t : List ℕ) (i : ℕ) {l : List ℕ} {v w : ℕ} → l ≡ paste d at t (i * 2) → v ≡ get_or t (i * 2) 0
    → w ≡ get_or t (i * 2 + 1) 0 → at + (i * 2 + 1) < length d → i * 2 + 1 < length t
    → set (set l (at + i * 2) v) (at + i * 2 + 1) w ≡ paste d at t ((i + 1) * 2)
pasted_pair d at t i {l} {v} {w} e f g hd ht =
    let next : (i + 1) * 2 ≡ i * 2 + 1 + 1 = omega arith in
    let first = pasted_next d at t (i * 2) {l = l} e f (omega arith) (omega arith) in
    rw (next, add_assoc at (i * 2) 1) (pasted_next d at t (i * 2 + 1) {l = set l (at + i * 2) v} first g hd ht)

-- ---- an even count, at most `limit`

pub fit_size : (limit : ℕ) (w : List ℕ) → digits_fit limit w ≡ true → length w ≤ limit
fit_size limit w e =
    let even = eqb (length w % 2) 0 in
    leb-true (length w) limit (and_first (leb (length w) limit) even (and_first (leb (length w) limit && even) (all is_hex w) e))
