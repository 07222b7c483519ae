-- The line that is written: a number alone, or 0, a space and digits, at the front of what was there. Assumes nothing.
use mathlib.Core.Path.{◌≡◌, refl, sym, ap, ◌∙◌}
use mathlib.Core.List.{List, [], ◌∷◌, ◌++◌, append_assoc}
use Prim.Native.Nat.{ℕ, suc, ◌+◌, ◌*◌, ◌/◌, ◌%◌, ◌≤◌, ◌<◌}
use native.Mathlib.Nat.{le_of_eq}
use native.Mathlib.Omega.{arith}
use borrow.Author.Tests.{le-leb, lt-leb, ne_eqb}
use lib.ListN.{length, take, drop, set, length-append, length-drop}
use lib.Seq.{paste, length-paste, take-paste, drop-paste, take_all, set_split, drop-drop}
use Rattle.digits.specs.Texts.{digit, decimal_text, hex_text, encoded_into}
use Rattle.digits.proofs.DigitLaws.{length-hex_text}
use Rattle.lines.specs.Answer.{line_of, Wrote}

-- ---- a number other than 0

pub small_line : (k : ℕ) (bytes : List ℕ) → 0 < k → k ≤ 9 → line_of k bytes ≡ (48 + k) ∷ 10 ∷ []
unfolding line_of decimal_text digit
small_line k bytes h l = rw (ne_eqb k 0 (λ e. omega arith), le-leb k 9 l)

pub large_line : (k : ℕ) (bytes : List ℕ) → 9 < k → k < 100 → line_of k bytes ≡ (48 + k / 10) ∷ (48 + k % 10) ∷ 10 ∷ []
unfolding line_of decimal_text digit
large_line k bytes h l = rw (ne_eqb k 0 (λ e. omega arith), lt-leb k 9 h, le-leb (k / 10) 9 (omega arith), le-leb (k % 10) 9 (omega arith))

-- no digits follow a number other than 0, whatever the bytes
pub refused_line : (k : ℕ) (bytes : List ℕ) → (k ≡ 0 → ⊥) → line_of k bytes ≡ line_of k []
unfolding line_of
refused_line k bytes h = rw (ne_eqb k 0 h)

-- ---- 0 and the digits

zero_line : (bytes : List ℕ) → line_of 0 bytes ≡ 48 ∷ 32 ∷ hex_text bytes ++ (10 ∷ [])
unfolding line_of decimal_text digit
zero_line bytes = refl

module _ (out t : List ℕ) (n : ℕ) (size : length t ≡ n) (room : n + 3 ≤ length out) where
  abbrev front : List ℕ
  front = 48 ∷ 32 ∷ drop 2 out

  abbrev full : List ℕ
  full = paste front 2 t n

  front-size : length front ≡ length out
  front-size = simp length-drop (omega arith)

  full_size : length full ≡ length out
  full_size = length-paste front 2 t n (omega (arith, front-size)) (omega arith) ∙ front-size

  before : take (2 + n) full ≡ 48 ∷ 32 ∷ t
  before = take-paste front 2 t n (omega (arith, front-size)) (omega arith) ∙ rw (take_all n t (le_of_eq size))

  behind : drop (suc (2 + n)) full ≡ drop (n + 3) out
  behind =
      let next : suc (2 + n) ≡ 2 + n + 1 = omega arith in
      let at-front : 2 + n + 1 ≡ suc (suc (n + 1)) = omega arith in
      let whole : 2 + (n + 1) ≡ n + 3 = omega arith in
      rw (next, ← drop-drop 1 (2 + n) full, drop-paste front 2 t n (omega (arith, front-size)) (omega arith), drop-drop 1 (2 + n) front, at-front)
      (drop-drop (n + 1) 2 out ∙ rw whole)

  pub ended : set full (2 + n) 10 ≡ 48 ∷ 32 ∷ t ++ (10 ∷ drop (n + 3) out)
  ended = rw (set_split full (2 + n) 10 (omega (arith, full_size)), before, behind)

  pub line-size : length (48 ∷ 32 ∷ t ++ (10 ∷ [])) ≡ n + 3
  line-size = simp length-append (omega arith)

pub zero_number : (bytes out : List ℕ) {after : List ℕ} → length bytes * 2 + 3 ≤ length out
    → after ≡ encoded_into bytes (48 ∷ 32 ∷ drop 2 out) 2
    → Wrote (line_of 0 bytes) out (2 + length bytes * 2 + 1) (set after (2 + length bytes * 2) 10)
unfolding encoded_into
zero_number bytes out room e =
    let n = length bytes * 2 in
    let size = length-hex_text bytes in
    let long = line-size out (hex_text bytes) n size room in
    let fits = le-leb (2 + n) (length (48 ∷ 32 ∷ drop 2 out)) (simp length-drop (omega arith)) in
    rw (zero_line, e, fits)
    (record {
      count = omega (arith, long);
      bytes =
          ended out (hex_text bytes) n size room ∙ sym (append_assoc (48 ∷ 32 ∷ hex_text bytes) (10 ∷ []) (drop (n + 3) out))
          ∙ ap (λ (m : ℕ). (48 ∷ 32 ∷ hex_text bytes ++ (10 ∷ [])) ++ drop m out) (sym long);
    })
