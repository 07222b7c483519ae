-- Request 06: what is answered for an IV, a counter block and m.
use Rattle.std.specs.Prelude.{ℕ, ◌+◌, ◌-◌, ◌/◌, ◌%◌, ◌^◌, ◌≡◌, Bool, cond, List, [], ◌∷◌, eqb, replicate, Result, Ok, Err}
use Rattle.bits.specs.Counter.{number, number_bytes}
use Rattle.rules.specs.declared.Mode.TheVariants.{Ctr}
use Rattle.questions.specs.Questions.{Question, ask, counter_length}
use Rattle.questions.specs.declared.refusal.Refusal.{Refusal}
use Rattle.questions.specs.Refusals.{number_of}

-- Question 16: are the bits above the lowest m the same in both blocks?
unfoldable pub upper_same : ℕ → List ℕ → List ℕ → Bool
upper_same m iv block = eqb (number iv / 2 ^ m) (number block / 2 ^ m)

abbrev pub of_message : ℕ → List ℕ → List ℕ → Question
of_message m iv block = record { yes = upper_same m iv block; number = 16 }

-- Question 14 is that of CTR: m is from 1 to 128.
unfoldable pub of_block_questions : List ℕ → List ℕ → ℕ → List Question
of_block_questions iv block m = counter_length Ctr m ∷ of_message m iv block ∷ []

unfoldable pub of_block_number : List ℕ → List ℕ → ℕ → ℕ
of_block_number iv block m = ask (of_block_questions iv block m)

-- From the IV up to the block, in their lowest m bits, modulo 2^m.
unfoldable pub increments_between : ℕ → List ℕ → List ℕ → ℕ
increments_between m iv block = (number block % 2 ^ m + (2 ^ m - number iv % 2 ^ m)) % 2 ^ m

-- An answer: its number, and how many increments there are, as 16 bytes, highest first; zero bytes where it is refused.
pub record Place : Type 0 where
  pub number : ℕ
  pub increments : List ℕ

abbrev pub answered : Result (List ℕ) Refusal → Place
answered (Ok bytes) = record { number = 0; increments = bytes }
answered (Err refusal) = record { number = number_of refusal; increments = replicate 16 0 }

pub record ToldBy (iv block : List ℕ) (m : ℕ) (r : Place) : Type 0 where
  pub answer : r.number ≡ of_block_number iv block m
  pub increments : r.increments ≡ cond (eqb (of_block_number iv block m) 0) (number_bytes 16 (increments_between m iv block)) (replicate 16 0)
