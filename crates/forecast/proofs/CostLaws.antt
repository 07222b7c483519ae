-- What a forecast gives, from the answers to its questions. Assumes nothing.
use Prim.Native.Nat.{ℕ, ◌≤◌}
use mathlib.Core.Path.{◌≡◌, ◌∙◌}
use mathlib.Core.Bool.{true}
use borrow.Author.Tests.{eq-eqb, ne_eqb, le-leb}
use Rattle.bits.specs.Texts.{bytes_for}
use Rattle.rules.specs.declared.Mode.{Mode}
use Rattle.rules.specs.Lengths.{unit_length_ok, whole_units}
use Rattle.rules.specs.Rules.{units_in}
use Rattle.questions.specs.Questions.{ask, max_bits}
use Rattle.forecast.specs.Costs.{Cost}
use Rattle.forecast.specs.Costs.{forecast_questions, forecast_number, ForecastBy}

-- Three times 'yes' is 0.
pub all_yes : (mode : Mode) (n bits : ℕ) → unit_length_ok mode n ≡ true → bits ≤ max_bits → whole_units mode n bits ≡ true → forecast_number mode n bits ≡ 0
unfolding forecast_number ask forecast_questions
all_yes mode n bits q3 q6 q7 = rw (q3, le-leb bits max_bits q6, q7)

-- Accepted, the bytes and the runs are those of the rules; refused, both are 0.
pub record Costs (n bits : ℕ) (cost : Cost) : Type 0 where
  pub number : cost.number ≡ 0
  pub bytes : cost.bytes ≡ bytes_for bits
  pub runs : cost.runs ≡ units_in n bits

module _ {mode : Mode} {n bits : ℕ} {cost : Cost} (f : ForecastBy mode n bits cost) where
  pub accepted : forecast_number mode n bits ≡ 0 → Costs n bits cost
  accepted e =
      let yes = eq-eqb (forecast_number mode n bits) 0 e in
      record { number = f.answer ∙ e; bytes = rw yes at f.bytes; runs = rw yes at f.runs }

  pub refused : (cost.number ≡ 0 → ⊥) → (cost.bytes ≡ 0) × (cost.runs ≡ 0)
  refused h =
      let nay = ne_eqb (forecast_number mode n bits) 0 (λ e. h (f.answer ∙ e)) in
      (rw nay at f.bytes, rw nay at f.runs)
