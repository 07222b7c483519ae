-- Request 01: what a forecast answers, from mode, n and a bit count.
use Rattle.std.specs.Prelude.{ℕ, ◌≡◌, cond, List, [], ◌∷◌, eqb, leb, Result, Ok, Err}
use Rattle.bits.specs.Texts.{bytes_for}
use Rattle.rules.specs.declared.Mode.{Mode}
use Rattle.rules.specs.Rules.{units_in}
use Rattle.questions.specs.Questions.{Question, ask, max_bits, unit_length, units_whole}
use Rattle.questions.specs.declared.refusal.Refusal.{Refusal}
use Rattle.questions.specs.Refusals.{number_of}
use Rattle.forecast.specs.declared.Cost.{Cost as Told}

-- Of question 6 the limit alone: there is no input yet.
abbrev pub within_limit : ℕ → Question
within_limit bits = record { yes = leb bits max_bits; number = 6 }

unfoldable pub forecast_questions : Mode → ℕ → ℕ → List Question
forecast_questions mode n bits =
    unit_length mode n ∷ within_limit bits ∷ units_whole mode n bits ∷ []

unfoldable pub forecast_number : Mode → ℕ → ℕ → ℕ
forecast_number mode n bits = ask (forecast_questions mode n bits)

-- An answer: its number, and what an accepted feed costs; zeros where it is refused.
pub record Cost : Type 0 where
  pub number : ℕ
  pub bytes : ℕ
  pub runs : ℕ

abbrev pub answered : Result Told Refusal → Cost
answered (Ok cost) = record { number = 0; bytes = cost.bytes; runs = cost.runs }
answered (Err refusal) = record { number = number_of refusal; bytes = 0; runs = 0 }

-- The bytes that the bits need, and a run of the block cipher for each unit, a short one included; zeros where it is
-- refused.
pub record ForecastBy (mode : Mode) (n bits : ℕ) (r : Cost) : Type 0 where
  pub answer : r.number ≡ forecast_number mode n bits
  pub bytes : r.bytes ≡ cond (eqb (forecast_number mode n bits) 0) (bytes_for bits) 0
  pub runs : r.runs ≡ cond (eqb (forecast_number mode n bits) 0) (units_in n bits) 0
