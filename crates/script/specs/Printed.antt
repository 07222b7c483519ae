-- How a list has bytes: two digits to a byte, and `-` where there are none.
use Rattle.std.specs.Prelude.{ℕ, List, [], ◌∷◌}
use Rattle.digits.specs.Texts.{hex_text}

abbrev pub bytes_text : List ℕ → List ℕ
bytes_text [] = 45 ∷ []
bytes_text (b ∷ s) = hex_text (b ∷ s)
