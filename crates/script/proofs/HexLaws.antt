-- The digits of bytes: they are ASCII, those of a list's parts in turn are those of the list, and `encode` leaves them
-- at the front of a text. Assumes nothing.
use Rattle.std.proofs.Common.{◌≡◌, ℕ, suc, ◌+◌, ◌*◌, ◌/◌, ◌%◌, ◌<◌, ◌≤◌, Bool, true, false, cond, List, [], ◌∷◌, ◌++◌, length, take, slice_index, refl, ap, ◌∙◌, arith}
use Rattle.std.specs.Str.{IsAscii, IsUtf8}
use Rattle.std.proofs.lemmas.Str.{IsUtf8-from_ascii}
use Rattle.std.proofs.lemmas.Str.Ascii.{IsAscii-nil, IsAscii-cons}
use borrow.Author.Tests.{leb-true, le-leb}
use native.Mathlib.Nat.{le_of_eq}
use lib.Dec.{leb}
use lib.Seq.{take-paste, take_all}
use Rattle.digits.specs.Texts.{digit, hex_text, encoded_into}
use Rattle.digits.proofs.DigitLaws.{length-hex_text}
use Rattle.script.specs.Printed.{bytes_text}

ascii : (small : Bool) (x : ℕ) → x < 16 → (small ≡ true → x ≤ 9) → cond small (48 + x) (87 + x) < 128
ascii true x l f = omega (arith, f refl)
ascii false x l f = omega arith

digit_ascii : (x : ℕ) → x < 16 → digit x < 128
unfolding digit
digit_ascii x l = ascii (leb x 9) x l (leb-true x 9)

hex_text_ascii : (s : List ℕ) → ((i : ℕ) → slice_index s i < 256) → IsAscii (hex_text s)
unfolding hex_text
hex_text_ascii [] bytes = IsAscii-nil
hex_text_ascii (b ∷ s) bytes =
    let high = digit_ascii (b / 16) (omega (arith, bytes 0)) in
    let low = digit_ascii (b % 16) (omega arith) in
    IsAscii-cons _ (digit (b % 16) ∷ hex_text s) high (IsAscii-cons _ (hex_text s) low (hex_text_ascii s (λ i. bytes (suc i))))

-- what `encode` wrote from the front on

module _ (s out : List ℕ) {written : List ℕ} (e : written ≡ encoded_into s out 0) (room : 2 * length s ≤ length out) where
  pub written_digits : take (2 * length s) written ≡ hex_text s
  unfolding encoded_into
  written_digits =
      let size = length-hex_text s in
      let n : ℕ = length s * 2 in
      let twice : 2 * length s ≡ 0 + n = omega arith in
      rw (e, twice, le-leb (0 + n) (length out) (omega arith))
      (take-paste out 0 (hex_text s) n (omega arith) (omega (arith, size)) ∙ take_all n (hex_text s) (le_of_eq size))

  pub written_utf8 : ((i : ℕ) → slice_index s i < 256) → IsUtf8 (take (2 * length s) written)
  written_utf8 bytes = rw written_digits (IsUtf8-from_ascii (hex_text s) (hex_text_ascii s bytes))

-- ---- part by part

pub hex_text-nil : hex_text [] ≡ []
unfolding hex_text
hex_text-nil = refl

pub hex_text-append : (s t : List ℕ) → hex_text (s ++ t) ≡ hex_text s ++ hex_text t
unfolding hex_text
hex_text-append [] t = refl
hex_text-append (b ∷ s) t = ap (λ (w : List ℕ). digit (b / 16) ∷ digit (b % 16) ∷ w) (hex_text-append s t)

pub no_text : (s : List ℕ) → length s ≡ 0 → bytes_text s ≡ 45 ∷ []
no_text [] h = refl
no_text (b ∷ s) h = absurd (omega arith)

pub some_text : (s : List ℕ) → 0 < length s → bytes_text s ≡ hex_text s
some_text [] h = absurd (omega arith)
some_text (b ∷ s) h = refl
