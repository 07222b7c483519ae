-- Document 01, "The text program": the form of the four lines.
--
--     text   = first hex hex hex          nothing follows
--     first  = mode ' ' n ' ' way LF       (crates/header/specs)
--     hex    = an even count of digits 0 to 9, a to f, then LF; at most 128 (key), 128 (IV), 8,192 (data)
--
-- A line feed is byte 10. No line holds one, so each line ends at the first line feed.
use Rattle.std.specs.Prelude.{ℕ, List, Option, eqb, length}
use Rattle.rules.specs.declared.Mode.{Mode}
use Rattle.rules.specs.declared.Direction.{Direction}
use Rattle.digits.specs.Texts.{given, ◌>>=◌, cut, digits_fit, hex_bytes}
use Rattle.header.specs.declared.line.Header.{Header}
use Rattle.header.specs.Header.{first_of}

-- ---- the lines of digits

-- The most digits of a line: of the key's and the IV's, and of the data's.
abbrev pub max_key_digits : ℕ
max_key_digits = 128

abbrev pub max_data_digits : ℕ
max_data_digits = 8192

pub record HexLine : Type 0 where
  pub bytes : List ℕ
  pub behind : List ℕ

-- The line that a text begins with, as bytes, and what follows the line.
unfoldable pub hex_line : ℕ → List ℕ → Option HexLine
hex_line limit s = do
  line ← cut 10 s
  given (digits_fit limit line.before) (record { bytes = hex_bytes line.before; behind = line.behind })

-- ---- the whole text

pub record Request : Type 0 where
  pub mode : Mode
  pub n : ℕ
  pub direction : Direction
  pub key : List ℕ
  pub iv : List ℕ
  pub message : List ℕ

-- What follows the first line: key, IV, data, and nothing more.
unfoldable pub behind_first : Header → List ℕ → Option Request
behind_first first s = do
  key ← hex_line max_key_digits s
  iv ← hex_line max_key_digits key.behind
  message ← hex_line max_data_digits iv.behind
  given (eqb (length message.behind) 0)
      (record {
        mode = first.mode;
        n = first.n;
        direction = first.direction;
        key = key.bytes;
        iv = iv.bytes;
        message = message.bytes;
      })

unfoldable pub request : List ℕ → Option Request
request text = do
  line ← cut 10 text
  first ← first_of line.before
  behind_first first line.behind
