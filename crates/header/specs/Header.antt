-- Document 01, "The text program": the form of the first line.
--
--     first  = mode ' ' n ' ' way
--     mode   = 'ECB' | 'CBC' | 'CFB' | 'OFB' | 'CTR'
--     n      = one to three decimal digits
--     way    = 'E' | 'D'
--
-- A space is byte 32. No word holds one, so each word ends at the first space.
use Rattle.std.specs.Prelude.{ℕ, Bool, true, false, cond, ◌&&◌, List, [], ◌∷◌, Option, Some, None, leb, eqb, length}
use Rattle.rules.specs.declared.Mode.{Mode}
use Rattle.rules.specs.declared.Mode.TheVariants.{Ecb, Cbc, Cfb, Ofb, Ctr}
use Rattle.rules.specs.declared.Direction.{Direction}
use Rattle.rules.specs.declared.Direction.TheVariants.{Encrypt, Decrypt}
use Rattle.header.specs.declared.line.Header.{Header}
use Rattle.digits.specs.Texts.{given, ◌>>=◌, cut, all, is_decimal, count_on}

-- Are the texts equal?
unfoldable pub same : List ℕ → List ℕ → Bool
same [] [] = true
same [] (b ∷ t) = false
same (a ∷ s) [] = false
same (a ∷ s) (b ∷ t) = eqb a b && same s t

unfoldable pub mode_of : List ℕ → Option Mode
mode_of w =
    cond (same w (69 ∷ 67 ∷ 66 ∷ [])) (Some Ecb)
    (cond (same w (67 ∷ 66 ∷ 67 ∷ [])) (Some Cbc)
    (cond (same w (67 ∷ 70 ∷ 66 ∷ [])) (Some Cfb)
    (cond (same w (79 ∷ 70 ∷ 66 ∷ [])) (Some Ofb)
    (cond (same w (67 ∷ 84 ∷ 82 ∷ [])) (Some Ctr) None))))

unfoldable pub length_of : List ℕ → Option ℕ
length_of w = given (leb 1 (length w) && leb (length w) 3 && all is_decimal w) (count_on 0 w)

unfoldable pub direction_of : List ℕ → Option Direction
direction_of w = cond (same w (69 ∷ [])) (Some Encrypt) (cond (same w (68 ∷ [])) (Some Decrypt) None)

-- What follows the mode and its space.
unfoldable pub behind_mode : Mode → List ℕ → Option Header
behind_mode mode words = do
  number ← cut 32 words
  n ← length_of number.before
  direction ← direction_of number.behind
  Some (record { mode = mode; n = n; direction = direction })

unfoldable pub first_of : List ℕ → Option Header
first_of line = do
  name ← cut 32 line
  mode ← mode_of name.before
  behind_mode mode name.behind
