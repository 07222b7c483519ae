-- `conguraha::counters::conguraha1_forecast` meets its contract: the mode's number is read, then the forecast is
-- asked (`AnswerLaws`). Assumes nothing.
use mathlib.Core.Path.{refl, ◌∙◌}
use native.Mathlib.Omega.{arith}
use Rattle.conguraha.proofs.AnswerLaws.{not-forecast, forecast-held}
use Rattle.conguraha.proofs.counters.conguraha1_forecast.Goals as goal

pub returns-in_default : goal.returns-in_default
returns-in_default c = not-forecast _ _ _ (omega (arith, c.in_default.ensures)) refl refl refl

pub returns-in-Ok-forecast : goal.returns-in-Ok-forecast
returns-in-Ok-forecast c =
    forecast-held _ _ _ (omega (arith, c.in-Ok.ensures.0)) c.in-Ok.ensures.1 c.in-Ok-forecast.ensures refl refl refl

pub returns-in-Err : goal.returns-in-Err
returns-in-Err c =
    forecast-held _ _ _ (omega (arith, c.in-Ok.ensures.0)) c.in-Ok.ensures.1 c.in-Err.ensures (c.into.ensures ∙ c.from.ensures) refl refl
