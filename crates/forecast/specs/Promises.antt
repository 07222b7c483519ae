-- Request 01: what is promised of a forecast and of the feed after it, for all modes and every n together.
use Rattle.std.specs.Prelude.{ℕ, ◌+◌, ◌≤◌, ◌≡◌, true, List, ◌++◌, length, take, drop}
use Rattle.bits.specs.Texts.{pack}
use Rattle.bits.specs.Blocks.{Bytes}
use Rattle.rules.specs.declared.Mode.{Mode}
use Rattle.rules.specs.declared.Direction.{Direction}
use Rattle.rules.specs.Lengths.{unit_length_ok}
use Rattle.rules.specs.Rules.{units_in}
use Rattle.questions.specs.Questions.{max_bits}
use Rattle.modes.specs.declared.session.Session.{Session}
use Rattle.modes.specs.declared.session.Opened.{Opened}
use Rattle.modes.specs.declared.session.Fed.{Fed}
use Rattle.modes.specs.Sessions.{Arrays, OpenedBy, FedBy, fed_text, session_text}
use Rattle.feeds.specs.Lists.{Call, Feeds, all_fed, all_runs}
use Rattle.forecast.specs.Costs.{Cost}
use Rattle.forecast.specs.Costs.{ForecastBy}

-- ---- a forecast

-- Refused, it is zeros.
unfoldable pub RefusedForecast : Type 0
RefusedForecast =
    (mode : Mode) (n bits : ℕ) (cost : Cost) → ForecastBy mode n bits cost → (cost.number ≡ 0 → ⊥) → (cost.bytes ≡ 0) × (cost.runs ≡ 0)

-- 0 bits are accepted, and cost nothing.
pub record Free (cost : Cost) : Type 0 where
  pub accepted : cost.number ≡ 0
  pub no_bytes : cost.bytes ≡ 0
  pub no_runs : cost.runs ≡ 0

unfoldable pub NoBitsFree : Type 0
NoBitsFree = (mode : Mode) (n : ℕ) (cost : Cost) → unit_length_ok mode n ≡ true → ForecastBy mode n 0 cost → Free cost

-- ---- a feed after its forecast

-- Accepted: the runs are the units in the rules, and the runs and the bytes written are those of the forecast.
pub record AsForecast (s : Session) (input : List ℕ) (count : ℕ) (out : List ℕ) (place : ℕ) (r : Fed) (after : List ℕ) (cost : Cost) : Type 0 where
  pub forecast_accepted : cost.number ≡ 0
  pub units : r.runs ≡ units_in s.n count
  pub runs : r.runs ≡ cost.runs
  pub bytes : length (pack (session_text s (fed_text input count))) ≡ cost.bytes
  pub output : after ≡ take place out ++ pack (session_text s (fed_text input count)) ++ drop (place + cost.bytes) out

pub record Foreseen (s : Session) (input : List ℕ) (count : ℕ) (out : List ℕ) (place : ℕ) (r : Fed) (after : List ℕ) (cost : Cost) : Type 0 where
  pub accepted : r.number ≡ 0 → AsForecast s input count out place r after cost
  pub refused : (r.number ≡ 0 → ⊥) → r.runs ≡ 0
  pub forecast_refused : (cost.number ≡ 0 → ⊥) → r.number ≡ 0 → ⊥

unfoldable pub ForecastHolds : Type 0
ForecastHolds =
    (s : Session) (input : List ℕ) (count : ℕ) (out : List ℕ) (place : ℕ) (r : Fed) (after : List ℕ) (cost : Cost)
    → Arrays s → FedBy s input count out place r after → ForecastBy s.mode s.n count cost → Foreseen s input count out place r after cost

-- ---- a message in several feeds

-- Over any list of feeds from an accepted opening, the runs of all together are those forecast for the message as a
-- whole, however it was cut. It is at most as long as the largest feed, since a longer one has no forecast.
unfoldable pub MessageForecast : Type 0
MessageForecast =
    (mode : Mode) (dir : Direction) (n m : ℕ) (key iv : List ℕ) (r : Opened) (calls : List Call) (end : Session) (cost : Cost)
    → Bytes key → Bytes iv → OpenedBy mode dir n m key iv r → r.number ≡ 0 → Feeds r.session calls end
    → ForecastBy mode n (length (all_fed calls)) cost → length (all_fed calls) ≤ max_bits
    → (cost.number ≡ 0) × (all_runs calls ≡ cost.runs)
