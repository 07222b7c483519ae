-- The answers that are structs of the boundary's own: what each says in the struct of the crate that answers.
use Rattle.std.specs.Prelude.{ℕ, ◌-◌, ◌*◌, min, ◌≡◌, cond, List, eqb, take, drop}
use Rattle.bits.specs.Texts.{bytes_for}
use Rattle.rules.specs.Numbers.{mode_of}
use Rattle.rules.specs.Rules.{units_in}
use Rattle.questions.specs.Questions.{ask}
use Rattle.forecast.specs.Costs.{forecast_number}
use Rattle.padding.specs.Padding.{Padded, Unpadded}
use Rattle.places.specs.Answers.{Place}
use Rattle.single.specs.Single.{neighbour_questions}
use Rattle.held.specs.Calls.{mode_first}
use Rattle.conguraha.specs.declared.counters.Forecast.{Forecast}
use Rattle.conguraha.specs.declared.counters.CounterPlace.{CounterPlace}
use Rattle.conguraha.specs.declared.messages.Length.{Length}
use Rattle.conguraha.specs.declared.messages.Neighbour.{Neighbour}

-- ---- the same fields in the crates' own structs

abbrev pub place_of : CounterPlace → Place
place_of r = record { number = r.number; increments = r.increments }

abbrev pub padded_of : Length → Padded
padded_of r = record { number = r.number; bits = r.bits }

abbrev pub unpadded_of : Length → Unpadded
unpadded_of r = record { number = r.number; bits = r.bits }

-- ---- forecasts, by the mode's number

module _ (mode n bits : ℕ) where
  unfoldable pub forecast_held_number : ℕ
  forecast_held_number = mode_first mode (forecast_number (mode_of mode) n bits)

  pub record HeldForecastBy (r : Forecast) : Type 0 where
    pub answer : r.number ≡ forecast_held_number
    pub bytes : r.bytes ≡ cond (eqb forecast_held_number 0) (bytes_for bits) 0
    pub runs : r.runs ≡ cond (eqb forecast_held_number 0) (units_in n bits) 0

-- ---- the neighbour, as a place in what was handed over

-- Where block j - 1 begins; 0 for the IV.
unfoldable pub offset_of : ℕ → ℕ
offset_of j = (j - 1) * 16

-- The source is 0 for the IV and 1 for the ciphertext.
pub record NeighbourAt (iv text : List ℕ) (j : ℕ) (r : Neighbour) : Type 0 where
  pub answer : r.number ≡ ask (neighbour_questions iv text j)
  pub offset : r.offset ≡ cond (eqb (ask (neighbour_questions iv text j)) 0) (offset_of j) 0
  pub length : r.length ≡ cond (eqb (ask (neighbour_questions iv text j)) 0) 16 0
  pub source : r.source ≡ cond (eqb (ask (neighbour_questions iv text j)) 0) (min j 1) 0

-- The part that an answer names.
unfoldable pub part_of : List ℕ → List ℕ → Neighbour → List ℕ
part_of iv text r = take r.length (drop r.offset (cond (eqb r.source 0) iv text))
