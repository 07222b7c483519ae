-- The longest texts: each piece that the grammar reads is bounded, a text of the form has at most 8,461 bytes, and its
-- data 4,096. Assumes nothing.
use mathlib.Core.Path.{◌≡◌, refl, sym, ◌∙◌}
use mathlib.Core.Bool.{Bool, true, false, ◌&&◌}
use mathlib.Core.List.{List}
use Rattle.std.specs.Prelude.{Option, None, Some}
use Prim.Native.Nat.{ℕ, ◌+◌, ◌/◌, ◌≤◌, ◌<◌}
use native.Mathlib.Omega.{arith}
use borrow.Author.Tests.{ltb-true, leb-true, eqb-true, eqb-false}
use lib.Dec.{leb, ltb, eqb}
use lib.ListN.{length, take, drop, length-take, length-drop}
use Rattle.rules.specs.declared.Mode.{Mode}
use Rattle.rules.specs.declared.Direction.{Direction}
use Rattle.digits.specs.Texts.{given, ◌>>=◌, up_to, Cut, cut, all, is_decimal, count_on, hex_bytes, digits_fit}
use Rattle.header.specs.declared.line.Header.{Header}
use Rattle.header.specs.Header.{mode_of, length_of, direction_of, behind_mode, first_of}
use Rattle.grammar.specs.Grammar.{max_key_digits, max_data_digits, HexLine, hex_line, Request, behind_first, request}
use Rattle.digits.proofs.RangeLaws.{and_first, and_second}
use Rattle.header.proofs.WordLaws.{same-other}
use Rattle.digits.proofs.DigitLaws.{length-hex_bytes, fit_size}

-- ---- what an answer that is there shows of the steps to it

pub never : {A : Type 0} {a : A} → None ≡ Some a → ⊥
never e = let z : ◌≡◌ {A = ℕ} 0 1 = cc in omega arith

pub given_true : {A : Type 0} (b : Bool) {a c : A} → given b a ≡ Some c → (b ≡ true) × (a ≡ c)
given_true true e = (refl, cc)
given_true false e = absurd (never e)

pub bound : {A B P : Type 0} {f : A → Option B} {b : B} (o : Option A) → (o >>= f) ≡ Some b → ((a : A) → o ≡ Some a → f a ≡ Some b → P) → P
bound None e next = absurd (never e)
bound (Some a) e next = next a refl e

-- ---- the words of the first line

cut_size : (stop : ℕ) (s : List ℕ) {c : Cut} → cut stop s ≡ Some c → length s ≡ length c.before + 1 + length c.behind
unfolding cut
cut_size stop s e =
    let (inside, is) = given_true (ltb (up_to stop s) (length s)) {a = record { before = take (up_to stop s) s; behind = drop (up_to stop s + 1) s }} e in
    rw (← is) (simp (length-take, length-drop) (omega (arith, ltb-true (up_to stop s) (length s) inside)))

-- a word that only one length has
word_size : {A : Type 0} (w : List ℕ) (n : ℕ) {o : Option A} {a : A} → ((length w ≡ n → ⊥) → o ≡ None) → o ≡ Some a → length w ≡ n
word_size w n {o} {a} other e = by-test (eqb (length w) n) refl
  where
    by-test : (b : Bool) → eqb (length w) n ≡ b → length w ≡ n
    by-test true t = eqb-true (length w) n t
    by-test false t = absurd (never (sym (other (eqb-false (length w) n t)) ∙ e))

mode_size : (w : List ℕ) {mode : Mode} → mode_of w ≡ Some mode → length w ≡ 3
unfolding mode_of
mode_size w e = word_size w 3 (λ h. rw (same-other, same-other, same-other, same-other, same-other)) e

direction_size : (w : List ℕ) {direction : Direction} → direction_of w ≡ Some direction → length w ≡ 1
unfolding direction_of
direction_size w e = word_size w 1 (λ h. rw (same-other, same-other)) e

length_size : (w : List ℕ) {n : ℕ} → length_of w ≡ Some n → length w ≤ 3
unfolding length_of
length_size w e =
    let sized = leb 1 (length w) && leb (length w) 3 in
    let asked = (given_true (sized && all is_decimal w) {a = count_on 0 w} e).0 in
    leb-true _ _ (and_second (leb 1 (length w)) (leb (length w) 3) (and_first sized (all is_decimal w) asked))

behind_mode_size : (mode : Mode) (words : List ℕ) {first : Header} → behind_mode mode words ≡ Some first → length words ≤ 5
unfolding behind_mode
behind_mode_size mode words e =
    bound (cut 32 words) e
    (λ number found e. bound (length_of number.before) e
    (λ n is e. bound (direction_of number.behind) e
    (λ direction way e. omega (arith, cut_size 32 words found, length_size number.before is, direction_size number.behind way))))

pub first_size : (line : List ℕ) {first : Header} → first_of line ≡ Some first → length line ≤ 9
unfolding first_of
first_size line e =
    bound (cut 32 line) e
    (λ name found e. bound (mode_of name.before) e
    (λ mode is e. omega (arith, cut_size 32 line found, mode_size name.before is, behind_mode_size mode name.behind e)))

-- ---- the other lines

hex_size : (limit : ℕ) (s : List ℕ) {h : HexLine} → hex_line limit s ≡ Some h → length s ≤ limit + 1 + length h.behind
unfolding hex_line
hex_size limit s e =
    bound (cut 10 s) e
    (λ line found e.
    let w = line.before in
    let (fit, is) = given_true (digits_fit limit w) {a = record { bytes = hex_bytes w; behind = line.behind }} e in
    rw (← is) (omega (arith, cut_size 10 s found, fit_size limit w fit)))

behind_first_size : (first : Header) (s : List ℕ) {q : Request} → behind_first first s ≡ Some q → length s ≤ max_key_digits + 1 + (max_key_digits + 1) + (max_data_digits + 1)
unfolding behind_first
behind_first_size first s e =
    bound (hex_line max_key_digits s) e
    (λ key k e. bound (hex_line max_key_digits key.behind) e
    (λ iv i e. bound (hex_line max_data_digits iv.behind) e
    (λ message m e.
    let q : Request = record { mode = first.mode; n = first.n; direction = first.direction; key = key.bytes; iv = iv.bytes; message = message.bytes } in
    let end = (given_true (eqb (length message.behind) 0) {a = q} e).0 in
    omega (arith, hex_size max_key_digits s k, hex_size max_key_digits key.behind i, hex_size max_data_digits iv.behind m, eqb-true (length message.behind) 0 end))))

request_size : (s : List ℕ) {q : Request} → request s ≡ Some q → length s ≤ 8461
unfolding request
request_size s e =
    bound (cut 10 s) e
    (λ line found e. bound (first_of line.before) e
    (λ first is e. omega (arith, cut_size 10 s found, first_size line.before is, behind_first_size first line.behind e)))

-- ---- the data

hex-bytes : (limit : ℕ) (s : List ℕ) {h : HexLine} → hex_line limit s ≡ Some h → length h.bytes ≤ limit / 2
unfolding hex_line
hex-bytes limit s e =
    bound (cut 10 s) e
    (λ line found e.
    let w = line.before in
    let (fit, is) = given_true (digits_fit limit w) {a = record { bytes = hex_bytes w; behind = line.behind }} e in
    rw (← is) (omega (arith, length-hex_bytes w, fit_size limit w fit)))

message_behind : (first : Header) (s : List ℕ) {q : Request} → behind_first first s ≡ Some q → length q.message ≤ max_data_digits / 2
unfolding behind_first
message_behind first s e =
    bound (hex_line max_key_digits s) e
    (λ key k e. bound (hex_line max_key_digits key.behind) e
    (λ iv i e. bound (hex_line max_data_digits iv.behind) e
    (λ message m e.
    let q : Request = record { mode = first.mode; n = first.n; direction = first.direction; key = key.bytes; iv = iv.bytes; message = message.bytes } in
    rw (← (given_true (eqb (length message.behind) 0) {a = q} e).1) (hex-bytes max_data_digits iv.behind m))))

pub message_size : (s : List ℕ) {q : Request} → request s ≡ Some q → length q.message ≤ max_data_digits / 2
unfolding request
message_size s e =
    bound (cut 10 s) e (λ line found e. bound (first_of line.before) e (λ first is e. message_behind first line.behind e))

-- ---- a longer text

pub too_long : (s : List ℕ) → 8461 < length s → request s ≡ None
too_long s long = by-request (request s) refl
  where
    by-request : (o : Option Request) → request s ≡ o → o ≡ None
    by-request None e = refl
    by-request (Some q) e = absurd (omega (arith, request_size s e))
