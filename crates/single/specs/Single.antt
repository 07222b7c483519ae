-- Document 01, "Padding, one block, comparison": the CBC neighbour and the CBC single block, for all arguments.
use Rattle.std.specs.Prelude.{ℕ, zero, suc, ◌*◌, ◌/◌, ◌%◌, ◌≡◌, Bool, cond, ◌&&◌, List, [], ◌∷◌, eqb, ltb, length, take, drop}
use Rattle.bits.specs.Xor.{xor_bytes}
use Rattle.bits.specs.Texts.{bits}
use Rattle.aes.specs.Calls.{decrypted}
use Rattle.rules.specs.declared.Mode.TheVariants.{Cbc}
use Rattle.questions.specs.Questions.{Question, ask, key_length, iv_length, room}
use Rattle.modes.specs.Sessions.{written}

-- Block j of a text, counted from 0.
unfoldable pub block_at : List ℕ → ℕ → List ℕ
block_at text j = take 16 (drop (j * 16) text)

-- Question 11: are this many ciphertext bytes a multiple of 16, with j below the number of blocks?
unfoldable pub block_ok : ℕ → ℕ → Bool
block_ok bytes j = eqb (bytes % 16) 0 && ltb j (bytes / 16)

abbrev pub block_there : ℕ → ℕ → Question
block_there bytes j = record { yes = block_ok bytes j; number = 11 }

-- ---- the neighbour

unfoldable pub neighbour_of : List ℕ → List ℕ → ℕ → List ℕ
neighbour_of iv text zero = iv
neighbour_of iv text (suc j) = block_at text j

unfoldable pub neighbour_questions : List ℕ → List ℕ → ℕ → List Question
neighbour_questions iv text j = iv_length Cbc iv ∷ block_there (length text) j ∷ []

-- A refusal hands back an empty part.
unfoldable pub neighbour_answer : List ℕ → List ℕ → ℕ → List ℕ
neighbour_answer iv text j = cond (eqb (ask (neighbour_questions iv text j)) 0) (neighbour_of iv text j) []

-- ---- the single block

-- Block j of the plaintext: the block decrypted, XOR its neighbour.
unfoldable pub plain_block : List ℕ → List ℕ → List ℕ → ℕ → List ℕ
plain_block key iv text j = xor_bytes (decrypted key (block_at text j)) (neighbour_of iv text j)

unfoldable pub single_questions : List ℕ → List ℕ → List ℕ → ℕ → ℕ → ℕ → List Question
single_questions key iv text j size place = key_length key ∷ iv_length Cbc iv ∷ block_there (length text) j ∷ room size place 16 ∷ []

unfoldable pub single_number : List ℕ → List ℕ → List ℕ → ℕ → ℕ → ℕ → ℕ
single_number key iv text j size place = ask (single_questions key iv text j size place)

pub record SingleBy (key iv text : List ℕ) (j : ℕ) (out : List ℕ) (place : ℕ) (number : ℕ) (after : List ℕ) : Type 0 where
  pub answer : number ≡ single_number key iv text j (length out) place
  pub output : after ≡ cond (eqb (single_number key iv text j (length out) place) 0) (written out place (bits (plain_block key iv text j))) out
