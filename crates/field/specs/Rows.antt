-- Four of a kind by their indices: a row of the state, a column, a word.
use Rattle.std.specs.Prelude.{ℕ, ◌+◌, ◌*◌, List, [], ◌∷◌, get_or}

unfoldable pub four : {A : Type 0} → (ℕ → A) → List A
four f = f 0 ∷ f 1 ∷ f 2 ∷ f 3 ∷ []

-- Word i of a list of bytes: its bytes 4i to 4i + 3.
unfoldable pub word_at : List ℕ → ℕ → List ℕ
word_at w i = four (λ j. get_or w (4 * i + j) 0)
