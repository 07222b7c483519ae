-- The first line's words: a word of known length compared with a name letter by letter, and a decimal digit's value.
-- Assumes nothing.
use mathlib.Core.Path.{◌≡◌, refl, ap}
use mathlib.Core.Bool.{Bool, true, false, ◌&&◌}
use mathlib.Core.List.{List, [], ◌∷◌}
use Prim.Native.Nat.{ℕ, suc, ◌-◌, ◌≤◌}
use borrow.Author.Tests.{le-leb}
use lib.Dec.{eqb, leb}
use lib.ListN.{length, get_or}
use Rattle.std.proofs.lemmas.Bool.Decides.{nat_tests}
use Rattle.bits.proofs.Lists.{listed}
use Rattle.digits.specs.Texts.{is_decimal, between, value}
use Rattle.digits.proofs.ScanLaws.{all_here, all-on, all_end, count-on, count-end}
use Rattle.header.specs.Header.{same}

and_true : (a : Bool) → (a && true) ≡ a
and_true true = refl
and_true false = refl

and-false : (a : Bool) → (a && false) ≡ false
and-false true = refl
and-false false = refl

-- a word of another length is another word
pub same-other : (s t : List ℕ) → (length s ≡ length t → ⊥) → same s t ≡ false
unfolding same
same-other [] [] h = absurd (h refl)
same-other [] (b ∷ t) h = refl
same-other (a ∷ s) [] h = refl
same-other (a ∷ s) (b ∷ t) h = rw (same-other s t (λ e. h (ap suc e))) (and-false (eqb a b))

pub same_one : (w : List ℕ) (a : ℕ) → length w ≡ 1 → same w (a ∷ []) ≡ eqb (get_or w 0 0) a
unfolding same
same_one w a h = rw (← listed 0 1 w h) (and_true _)

pub same_three : (w : List ℕ) (a b c : ℕ) → length w ≡ 3
    → same w (a ∷ b ∷ c ∷ []) ≡ (eqb (get_or w 0 0) a && (eqb (get_or w 1 0) b && eqb (get_or w 2 0) c))
unfolding same
same_three w a b c h = rw (← listed 0 3 w h) (ap (λ (t : Bool). eqb (get_or w 0 0) a && (eqb (get_or w 1 0) b && t)) (and_true _))

-- What decides whether a word is a name.
pub ruleset spelled = (nat_tests, same-other, same_one, same_three)

pub decimal_test : (b : ℕ) → is_decimal b ≡ (leb 48 b && leb b 57)
unfolding is_decimal between
decimal_test b = refl

pub decimal_value : (b : ℕ) → 48 ≤ b → b ≤ 57 → value b ≡ b - 48
unfolding value between
decimal_value b low high = rw (le-leb 48 b low, le-leb b 57 high) refl

-- A word read digit by digit.
pub ruleset counted = (nat_tests, decimal_test, decimal_value, all_here, all-on, all_end, count-on, count-end)
