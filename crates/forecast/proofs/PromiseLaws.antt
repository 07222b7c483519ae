-- The promises of request 01: each accepted feed was asked what its forecast asks. Assumes nothing.
use Prim.Native.Nat.{ℕ, ◌+◌, zero-le}
use mathlib.Core.Path.{◌≡◌, sym, ap, ◌∙◌}
use mathlib.Core.List.{List}
use native.Mathlib.Nat.{zero-add}
use lib.ListN.{length}
use Rattle.bits.specs.Texts.{bytes_for, pack}
use Rattle.bits.proofs.Texts.{length-pack}
use Rattle.rules.specs.Rules.{units_in}
use Rattle.rules.proofs.Counts.{units_none}
use Rattle.rules.proofs.Taken.{unit_bounds}
use Rattle.modes.specs.declared.session.Session.{Session}
use Rattle.modes.specs.declared.session.Fed.{Fed}
use Rattle.modes.specs.Sessions.{Arrays, FedBy, fed_text, opened_session, session_text, session_runs, written}
use Rattle.feeds.specs.Machine.{Opening}
use Rattle.feeds.specs.Lists.{all_fed, all_runs}
use Rattle.feeds.specs.Promises.{RunsAddUp}
use Rattle.modes.proofs.SessionLaws.{text-length, whole_none}
use Rattle.modes.proofs.FeedLaws.{asked, accepted-count, accepted-whole, accepted-ready, accepted-output, accepted-runs, refused_runs}
use Rattle.modes.proofs.OpeningLaws.{opened-session}
use Rattle.feeds.proofs.OpenedFeeds.{opened_feeds}
use Rattle.feeds.proofs.ListLaws.{runs_add_up}
use Rattle.forecast.specs.Costs.{Cost}
use Rattle.forecast.specs.Costs.{forecast_number, ForecastBy}
use Rattle.forecast.specs.Promises.{RefusedForecast, NoBitsFree, AsForecast, ForecastHolds, MessageForecast}
use Rattle.forecast.proofs.CostLaws.{all_yes, accepted, refused}

pub refused_forecast : RefusedForecast
unfolding RefusedForecast
refused_forecast mode n bits cost f = refused f

pub no_bits_free : NoBitsFree
unfolding NoBitsFree bytes_for
no_bits_free mode n cost unit f =
    let costs = accepted f (all_yes mode n 0 unit zero-le (whole_none mode n)) in
    record { accepted = costs.number; no_bytes = costs.bytes; no_runs = costs.runs ∙ units_none (unit_bounds mode n unit).0 }

-- ---- one feed

module _ {s : Session} {input : List ℕ} {count : ℕ} {out : List ℕ} {place : ℕ} {r : Fed} {after : List ℕ} (fed : FedBy s input count out place r after) where
  -- its forecast is accepted too
  number-zero : r.number ≡ 0 → forecast_number s.mode s.n count ≡ 0
  number-zero taken = let q = asked fed taken in all_yes s.mode s.n count q.unit q.small q.whole

  -- the bytes written
  text-bytes : Arrays s → r.number ≡ 0 → length (pack (session_text s (fed_text input count))) ≡ bytes_for count
  text-bytes arrays taken =
      length-pack (session_text s (fed_text input count))
      ∙ ap bytes_for (text-length (accepted-ready fed taken arrays) (fed_text input count) (accepted-whole fed taken) ∙ accepted-count fed taken)

  as-forecast : {cost : Cost} → Arrays s → ForecastBy s.mode s.n count cost → r.number ≡ 0 → AsForecast s input count out place r after cost
  unfolding session_runs written
  as-forecast arrays f taken =
      let costs = accepted f (number-zero taken) in
      let units : r.runs ≡ units_in s.n count = accepted-runs fed taken ∙ ap (units_in s.n) (accepted-count fed taken) in
      let bytes = text-bytes arrays taken ∙ sym costs.bytes in
      record {
        forecast_accepted = costs.number;
        units = units;
        runs = units ∙ sym costs.runs;
        bytes = bytes;
        output = rw (← bytes) (accepted-output fed taken);
      }

pub forecast_holds : ForecastHolds
unfolding ForecastHolds
forecast_holds s input count out place r after cost arrays fed f =
    record {
      accepted = as-forecast fed arrays f;
      refused = refused_runs fed;
      forecast_refused = λ no taken. no (f.answer ∙ number-zero fed taken);
    }

-- ---- a list of feeds

pub message_forecast : MessageForecast
unfolding MessageForecast RunsAddUp opened_session
message_forecast mode dir n m key iv r calls t cost key_bytes iv_bytes opening taken run f small =
    let o : Opening = record { mode = mode; n = n; m = m; key = key; iv = iv } in
    let q = opened_feeds o dir key_bytes iv_bytes opening taken run in
    let costs = accepted f (all_yes mode n (length (all_fed calls)) q.unit small q.whole) in
    let none : r.session.units ≡ 0 = ap (λ (s : Session). s.units) (opened-session opening taken) in
    let runs : t.units ≡ all_runs calls = runs_add_up r.session t calls run ∙ ap (λ k. k + all_runs calls) none ∙ zero-add (all_runs calls) in
    (costs.number, sym runs ∙ q.units ∙ sym costs.runs)
