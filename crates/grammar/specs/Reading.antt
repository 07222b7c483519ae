-- Document 01, "The text program": "a line that isn't of this form ends the program's reading". Whether it has ended,
-- of the bytes read so far: at a line that is complete and not of its form, at one that is too long for it before it is
-- complete, and at a byte after the fourth line. An open line is asked for its length alone.
use Rattle.std.specs.Prelude.{ℕ, ◌≡◌, Bool, true, false, cond, not, List, [], ◌∷◌, Option, None, Some, is_some, ltb, length}
use Rattle.digits.specs.Texts.{Cut, cut, digits_fit}
use Rattle.header.specs.Header.{first_of}
use Rattle.grammar.specs.Grammar.{max_key_digits, max_data_digits, request}

-- A line, without its line feed: the most bytes that it has, and whether it is of its form.
pub record LineForm : Type 0 where
  pub most : ℕ
  pub good : List ℕ → Bool

abbrev pub first_form : LineForm
first_form = record { most = 9; good = λ line. is_some (first_of line) }

abbrev pub digits_form : ℕ → LineForm
digits_form limit = record { most = limit; good = digits_fit limit }

-- The first line, the key, the IV and the data.
unfoldable pub text_lines : List LineForm
text_lines = first_form ∷ digits_form max_key_digits ∷ digits_form max_key_digits ∷ digits_form max_data_digits ∷ []

-- What is said of the line that a text begins with: while it is open, and once it is complete.
abbrev pub by_cut : Option Cut → Bool → (Cut → Bool) → Bool
by_cut None still complete = still
by_cut (Some c) still complete = complete c

-- Has reading ended, where these lines are due?
unfoldable pub ends_in : List LineForm → List ℕ → Bool
ends_in [] s = ltb 0 (length s)
ends_in (line ∷ lines) s = by_cut (cut 10 s) (ltb line.most (length s)) (λ c. cond (line.good c.before) (ends_in lines c.behind) true)

unfoldable pub reading_ends : List ℕ → Bool
reading_ends front = ends_in text_lines front

-- Is one of these lines still without its line feed?
unfoldable pub open_in : List LineForm → List ℕ → Bool
open_in [] s = false
open_in (line ∷ lines) s = by_cut (cut 10 s) true (λ c. open_in lines c.behind)

-- Once the four lines are complete, reading has ended exactly where the text is not of the form.
unfoldable pub EndsExactly : Type 0
EndsExactly = (text : List ℕ) → open_in text_lines text ≡ false → reading_ends text ≡ not (is_some (request text))
