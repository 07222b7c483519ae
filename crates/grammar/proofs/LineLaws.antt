-- A line that was cut from a text, and a line of digits. Assumes nothing.
use mathlib.Core.Path.{◌≡◌, refl, sym, ap, ◌∙◌}
use mathlib.Core.Bool.{Bool, true, false, cond}
use mathlib.Core.List.{List, [], ◌∷◌, ◌++◌, append_assoc}
use Prim.Native.Nat.{ℕ, suc, ◌+◌, ◌≤◌, ◌<◌}
use native.Mathlib.Omega.{arith}
use native.Mathlib.Numerals.{add-one}
use borrow.Author.Tests.{ltb-true, eqb-true}
use lib.Dec.{ltb, eqb}
use lib.ListN.{length, take, drop}
use Rattle.std.proofs.lemmas.List.{nil_from_length}
use Rattle.std.proofs.lemmas.Bool.Decides.{nat_tests}
use Rattle.std.specs.Prelude.{Option, None, Some, option_map}
use Rattle.digits.specs.Texts.{given, ◌>>=◌, up_to, Cut, cut, digits_fit, hex_bytes}
use Rattle.digits.proofs.DigitLaws.{fit_size}
use Rattle.grammar.specs.Grammar.{HexLine, hex_line}
use Rattle.grammar.specs.Answers.{digits_line}
use Rattle.grammar.proofs.SizeLaws.{given_true, bound}

-- ---- a line of digits and its bytes

abbrev bytes_of : Cut → HexLine
bytes_of line = record { bytes = hex_bytes line.before; behind = line.behind }

pub hex_digits : (limit : ℕ) (s : List ℕ) → hex_line limit s ≡ option_map bytes_of (digits_line limit s)
unfolding hex_line digits_line
hex_digits limit s = by-cut (cut 10 s)
  where
    by-test : (t : Bool) (line : Cut) → given t (bytes_of line) ≡ option_map bytes_of (given t line)
    by-test true line = refl
    by-test false line = refl

    by-cut : (o : Option Cut)
        → (o >>= (λ line. given (digits_fit limit line.before) (bytes_of line))) ≡ option_map bytes_of (o >>= (λ line. given (digits_fit limit line.before) line))
    by-cut None = refl
    by-cut (Some line) = by-test (digits_fit limit line.before) line

-- ---- what stands before a line feed, and after it

pub record Ended (s : List ℕ) (line : Cut) : Type 0 where
  pub front : line.before ≡ take (up_to 10 s) s
  pub text : s ≡ line.before ++ (10 ∷ line.behind)
  pub whole : up_to 10 line.before ≡ length line.before

abbrev cut_there : List ℕ → Cut
cut_there s = record { before = take (up_to 10 s) s; behind = drop (up_to 10 s + 1) s }

ended : (s : List ℕ) → up_to 10 s < length s → Ended s (cut_there s)
unfolding up_to
ended [] h = absurd (omega arith)
ended (b ∷ s) h = by-test (eqb b 10) refl (ended s) h
  where
    by-test : (t : Bool) → eqb b 10 ≡ t → (up_to 10 s < length s → Ended s (cut_there s)) → cond t 0 (suc (up_to 10 s)) < suc (length s)
        → Ended (b ∷ s) (record { before = take (cond t 0 (suc (up_to 10 s))) (b ∷ s); behind = drop (cond t 0 (suc (up_to 10 s)) + 1) (b ∷ s) })
    by-test true e next h = record { front = rw e; text = ap (λ x. x ∷ s) (eqb-true b 10 e); whole = refl }
    by-test false e next h =
        let rest = next (omega arith) in
        record { front = rw e; text = rw add-one (ap (λ x. b ∷ x) (rw add-one at rest.text)); whole = rw e (ap suc rest.whole) }

pub cut_ended : (s : List ℕ) {line : Cut} → cut 10 s ≡ Some line → Ended s line
unfolding cut
cut_ended s e =
    let (inside, is) = given_true (ltb (up_to 10 s) (length s)) {a = cut_there s} e in
    rw (← is) (ended s (ltb-true (up_to 10 s) (length s) inside))

-- four lines in a row, and nothing after them
pub in_a_row : {s : List ℕ} {first key iv message : Cut} → Ended s first → Ended first.behind key → Ended key.behind iv → Ended iv.behind message
    → true ≡ eqb (length message.behind) 0
    → s ≡ take (up_to 10 s) s ++ (10 ∷ key.before) ++ (10 ∷ iv.before) ++ (10 ∷ message.before) ++ (10 ∷ [])
in_a_row f k i m e =
    rw (← f.front) (f.text ∙ rw (k.text, i.text, m.text, nil_from_length _ (eqb-true _ 0 (sym e))) (simp append_assoc))

-- What is known of a line of digits that was read.
pub record Digits (limit : ℕ) (s : List ℕ) (line : Cut) : Type 0 where
  pub ended : Ended s line
  pub fits : length line.before ≤ limit

pub digits_read : (limit : ℕ) (s : List ℕ) {line : Cut} → digits_line limit s ≡ Some line → Digits limit s line
unfolding digits_line
digits_read limit s e =
    bound (cut 10 s) e
    (λ line found e.
    let (fit, is) = given_true (digits_fit limit line.before) {a = line} e in
    rw (← is) (record { ended = cut_ended s found; fits = fit_size limit line.before fit }))

pub ruleset read = (hex_digits, nat_tests)
