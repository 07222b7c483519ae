-- The lines that are due while a text is read, one by one. Assumes nothing.
use mathlib.Core.Path.{◌≡◌, refl}
use mathlib.Core.Bool.{Bool, true, cond}
use mathlib.Core.List.{List, ◌∷◌}
use Prim.Native.Nat.{ℕ, zero, suc, ◌+◌, ◌<◌}
use native.Mathlib.Omega.{arith}
use lib.Dec.{ltb}
use lib.ListN.{get_or, drop, length}
use Rattle.std.specs.Prelude.{None, Some}
use Rattle.digits.specs.Texts.{Cut, cut}
use Rattle.grammar.specs.declared.reading.Line.{Line}
use Rattle.grammar.specs.declared.reading.TheConstants.{LINES}
use Rattle.grammar.specs.Reading.{text_lines, ends_in}
use Rattle.grammar.specs.Answers.{form_of}

-- `d` is what a list gives past its end.
due : (i : ℕ) (d : Line) → i < 4 → drop i text_lines ≡ form_of (get_or LINES i d) ∷ drop (i + 1) text_lines
unfolding text_lines
due zero d h = refl
due (suc zero) d h = refl
due (suc (suc zero)) d h = refl
due (suc (suc (suc zero))) d h = refl
due (suc (suc (suc (suc i)))) d h = absurd (omega arith)

module _ (s : List ℕ) (i : ℕ) (d : Line) (more : i < 4) where
  pub open_line : {most : ℕ} → most ≡ (form_of (get_or LINES i d)).most → cut 10 s ≡ None → ends_in (drop i text_lines) s ≡ ltb most (length s)
  unfolding ends_in
  open_line size e = rw (due i d more, e, size)

  pub complete_line : {c : Cut} {good : Bool} → good ≡ (form_of (get_or LINES i d)).good c.before → cut 10 s ≡ Some c
      → ends_in (drop i text_lines) s ≡ cond good (ends_in (drop (i + 1) text_lines) c.behind) true
  unfolding ends_in
  complete_line form e = rw (due i d more, e, form)
