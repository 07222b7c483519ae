-- What the calls answer, for all arguments: the number, and every byte of the output (request 03).
use Rattle.std.specs.Prelude.{ℕ, ◌%◌, ◌≡◌, Bool, cond, ◌&&◌, List, [], ◌∷◌, eqb, ltb, length}
use Rattle.bits.specs.Texts.{bytes_for}
use Rattle.aes.specs.Calls.{encrypted, decrypted}
use Rattle.rules.specs.declared.Mode.TheVariants.{Cbc}
use Rattle.rules.specs.declared.Direction.{Direction}
use Rattle.questions.specs.Questions.{Question, ask, max_bits, key_length, iv_length, bits_there, room}
use Rattle.modes.specs.Sessions.{fed_text, written}
use Rattle.stolen.specs.Stealing.{stolen_text}

-- Question 13: is the message whole bytes, and longer than 16 of them?
unfoldable pub message_ok : ℕ → Bool
message_ok count = eqb (count % 8) 0 && ltb 128 count

abbrev pub message_length : ℕ → Question
message_length count = record { yes = message_ok count; number = 13 }

-- Of the message: input bytes, bits, output bytes, place.
unfoldable pub message_questions : ℕ → ℕ → ℕ → ℕ → List Question
message_questions bytes count size place = bits_there max_bits bytes count ∷ message_length count ∷ room size place (bytes_for count) ∷ []

unfoldable pub steal_questions : List ℕ → List ℕ → ℕ → ℕ → ℕ → ℕ → List Question
steal_questions key iv bytes count size place = key_length key ∷ iv_length Cbc iv ∷ message_questions bytes count size place

unfoldable pub steal_number : List ℕ → List ℕ → ℕ → ℕ → ℕ → ℕ → ℕ
steal_number key iv bytes count size place = ask (steal_questions key iv bytes count size place)

pub record StolenBy (dir : Direction) (key iv input : List ℕ) (count : ℕ) (out : List ℕ) (place number : ℕ) (after : List ℕ) : Type 0 where
  pub answer : number ≡ steal_number key iv (length input) count (length out) place
  pub output : after ≡ cond (eqb (steal_number key iv (length input) count (length out) place) 0) (written out place (stolen_text (encrypted key) (decrypted key) dir iv (fed_text input count))) out
