-- What the answers of the line parser stand for: `None` is the text that is not of the form.
use Rattle.std.specs.Prelude.{ℕ, ◌≤◌, ◌≡◌, List, [], ◌∷◌, ◌++◌, Option, length, take}
use Rattle.grammar.specs.declared.form.Request as form
use Rattle.grammar.specs.declared.reading.Line.{Line}
use Rattle.digits.specs.Texts.{given, ◌>>=◌, up_to, Cut, cut, digits_fit, hex_bytes}
use Rattle.grammar.specs.Grammar.{max_key_digits, max_data_digits, Request}
use Rattle.grammar.specs.Reading.{LineForm, first_form, digits_form}

-- The line of digits that a text begins with, and what follows the line.
unfoldable pub digits_line : ℕ → List ℕ → Option Cut
digits_line limit s = do
  line ← cut 10 s
  given (digits_fit limit line.before) line

-- ---- of the four lines

abbrev pub request_in : form.Request → Request
request_in r =
    record {
      mode = r.mode;
      n = r.n;
      direction = r.direction;
      key = hex_bytes r.key.now;
      iv = hex_bytes r.iv.now;
      message = hex_bytes r.data.now;
    }

pub record Fits (r : form.Request) : Type 0 where
  pub key : length r.key.now ≤ max_key_digits
  pub iv : length r.iv.now ≤ max_key_digits
  pub message : length r.data.now ≤ max_data_digits

-- Where the digits stand: each line begins after the line feed before it, and its digits end at its own.
pub record Placed (s : List ℕ) (r : form.Request) : Type 0 where
  pub text :
      s
      ≡ take (up_to 10 s) s
      ++ (10 ∷ r.key.now)
      ++ (10 ∷ r.iv.now)
      ++ (10 ∷ r.data.now)
      ++ (10 ∷ [])
  pub key : up_to 10 r.key.now ≡ length r.key.now
  pub iv : up_to 10 r.iv.now ≡ length r.iv.now
  pub message : up_to 10 r.data.now ≡ length r.data.now

-- ---- of a line that is read

abbrev pub form_of : Line → LineForm
form_of Line.First = first_form
form_of (Line.Digits limit) = digits_form limit
