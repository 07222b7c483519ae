-- Sessions of C's compared, and answers in structs of the boundary's own: forecasts, and the neighbour as a place in
-- what was handed over. Assumes nothing.
use Prim.Native.Nat.{ℕ, zero, suc, ◌*◌, ◌≤◌, ◌<◌, min}
use mathlib.Core.Path.{◌≡◌, refl, sym, ◌∙◌}
use mathlib.Core.Bool.{false, cond}
use mathlib.Core.List.{List, []}
use native.Mathlib.Omega.{arith}
use borrow.Author.Tests.{eq-eqb, ne_eqb, lt-ltb, le-ltb}
use lib.Dec.{eqb}
use lib.ListN.{length, take, drop}
use lib.Seq.{take_all}
use Rattle.rules.specs.declared.Mode.{Mode}
use Rattle.rules.specs.Numbers.{modes, mode_of}
use Rattle.modes.specs.declared.session.Session.{Session}
use Rattle.questions.specs.Questions.{ask}
use Rattle.questions.proofs.BoundLaws.{ask_below}
use Rattle.forecast.specs.Costs.{Cost, forecast_questions, forecast_number, ForecastBy}
use Rattle.single.specs.Single.{neighbour_questions, neighbour_answer, neighbour_of, block_at}
use Rattle.single.proofs.NumberLaws.{neighbour_taken, iv-length}
use Rattle.inspect.specs.Alike.{alike_to}
use Rattle.held.specs.declared.form.HeldSession.{HeldSession}
use Rattle.held.specs.Held.{session_of}
use Rattle.held.specs.Calls.{no_mode_number}
use Rattle.held.proofs.Laws.{of_mode, of_none, no_mode_exactly}
use Rattle.conguraha.specs.declared.counters.Forecast.{Forecast}
use Rattle.conguraha.specs.declared.messages.Neighbour.{Neighbour}
use Rattle.conguraha.specs.Sessions.{alike_held}
use Rattle.conguraha.specs.Answers.{forecast_held_number, HeldForecastBy, offset_of, NeighbourAt, part_of}
use Rattle.conguraha.specs.Promises.{NeighbourPart, cost_of, ForecastFromC, ForecastOfNoMode}

-- ---- comparison

pub alike-held : (a b : HeldSession) {s t : Session} → a.mode < modes → b.mode < modes → s ≡ session_of a → t ≡ session_of b → alike_to s t ≡ alike_held a b
unfolding alike_held
alike-held a b small small' same same' = rw (lt-ltb a.mode modes small, lt-ltb b.mode modes small', ← same, ← same') refl

pub not_alike : (a b : HeldSession) → a.mode < modes → modes ≤ b.mode → false ≡ alike_held a b
unfolding alike_held
not_alike a b small big = rw (lt-ltb a.mode modes small, le-ltb b.mode modes big) refl

-- ---- forecasts

module _ (mode n bits : ℕ) where
  pub not-forecast : {r : Forecast} → modes ≤ mode → r.number ≡ no_mode_number → r.bytes ≡ 0 → r.runs ≡ 0 → HeldForecastBy mode n bits r
  unfolding forecast_held_number
  not-forecast h a b k =
      let e = of_none mode (forecast_number (mode_of mode) n bits) h in
      record { answer = a ∙ sym e; bytes = rw e b; runs = rw e k }

  pub forecast-held : {own-mode : Mode} {own : Cost} {r : Forecast} → mode < modes → own-mode ≡ mode_of mode → ForecastBy own-mode n bits own
      → r.number ≡ own.number → r.bytes ≡ own.bytes → r.runs ≡ own.runs → HeldForecastBy mode n bits r
  unfolding forecast_held_number
  forecast-held h same f a b k =
      let e = of_mode mode (forecast_number (mode_of mode) n bits) h in
      record { answer = a ∙ rw (e, ← same) f.answer; bytes = b ∙ rw (e, ← same) f.bytes; runs = k ∙ rw (e, ← same) f.runs }

pub forecast_from_c : ForecastFromC
unfolding ForecastFromC cost_of forecast_held_number
forecast_from_c mode n bits r h f =
    let e = of_mode mode (forecast_number (mode_of mode) n bits) h in
    record { answer = rw e at f.answer; bytes = rw e at f.bytes; runs = rw e at f.runs }

pub forecast_of_no_mode : ForecastOfNoMode
unfolding ForecastOfNoMode forecast_held_number forecast_number forecast_questions
forecast_of_no_mode mode n bits r f =
    no_mode_exactly mode (forecast_number (mode_of mode) n bits) f.answer (ask_below 64 (omega arith) (forecast_questions (mode_of mode) n bits) refl)

-- ---- the neighbour

module _ (iv text : List ℕ) (j : ℕ) where
  abbrev asked : ℕ
  asked = ask (neighbour_questions iv text j)

  pub a-neighbour : {r : Neighbour} → r.number ≡ asked → r.number ≡ 0 → r.offset ≡ offset_of j → r.length ≡ 16 → r.source ≡ min j 1 → NeighbourAt iv text j r
  a-neighbour a taken o l s =
      let yea = eq-eqb asked 0 (sym a ∙ taken) in
      record { answer = a; offset = rw yea o; length = rw yea l; source = rw yea s }

-- The part that it names, where it is accepted: the IV whole, or 16 bytes of the text.
offset_first : offset_of 0 ≡ 0
unfolding offset_of
offset_first = refl

offset_later : (j : ℕ) → offset_of (suc j) ≡ j * 16
unfolding offset_of
offset_later j = omega arith

part_taken : (iv text : List ℕ) (j : ℕ) → length iv ≡ 16 → take 16 (drop (offset_of j) (cond (eqb (min j 1) 0) iv text)) ≡ neighbour_of iv text j
unfolding neighbour_of block_at
part_taken iv text zero long = rw offset_first (take_all 16 iv (omega arith))
part_taken iv text (suc j) long = let one : min (suc j) 1 ≡ 1 = omega arith in rw (offset_later j, one) refl

pub neighbour_part : NeighbourPart
unfolding NeighbourPart part_of neighbour_answer
neighbour_part iv text j r at = rw (at.offset, at.length, at.source) (by_number (ask (neighbour_questions iv text j)) refl)
  where
    by_number : (number : ℕ) → number ≡ ask (neighbour_questions iv text j)
        → take (cond (eqb number 0) 16 0) (drop (cond (eqb number 0) (offset_of j) 0) (cond (eqb (cond (eqb number 0) (min j 1) 0) 0) iv text)) ≡ cond (eqb number 0) (neighbour_of iv text j) []
    by_number zero e = part_taken iv text j (iv-length iv (neighbour_taken iv text j (sym e)).iv_yes)
    by_number (suc k) e = rw (ne_eqb (suc k) 0 (λ z. omega arith)) refl
