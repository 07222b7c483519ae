-- What is promised of calls from C: they are the crates' own, one by one and over lists.
use Rattle.std.specs.Prelude.{ℕ, ◌≤◌, ◌<◌, ◌≡◌, ◌↔◌, true, List, [], ◌∷◌}
use Rattle.bits.specs.Blocks.{Bytes}
use Rattle.calls.specs.Calls.{Calls}
use Rattle.rules.specs.Numbers.{modes, mode_of, direction_of}
use Rattle.feeds.specs.Lists.{Call, Feeds}
use Rattle.feeds.specs.Promises.{TextOf, Recovered}
use Rattle.forecast.specs.Costs.{Cost, ForecastBy}
use Rattle.carry.specs.declared.Session32.{Session32}
use Rattle.carry.specs.Older.{carried}
use Rattle.single.specs.Single.{neighbour_answer}
use Rattle.held.specs.declared.form.HeldSession.{HeldSession}
use Rattle.held.specs.declared.form.HeldSession32.{HeldSession32}
use Rattle.held.specs.declared.calls.HeldOpened.{HeldOpened}
use Rattle.held.specs.declared.calls.HeldFed.{HeldFed}
use Rattle.held.specs.Held.{is_set, session_of, carried_held}
use Rattle.held.specs.Calls.{no_mode_number, HeldOpenedBy, HeldFedBy}
use Rattle.held.specs.Promises.{fed_of}
use Rattle.conguraha.specs.declared.counters.Forecast.{Forecast}
use Rattle.conguraha.specs.declared.messages.Neighbour.{Neighbour}
use Rattle.conguraha.specs.Answers.{HeldForecastBy, NeighbourAt, part_of}

-- ---- one block

-- The part that the neighbour's answer names is the neighbour: the bytes of the part that the crate's own call hands
-- back.
unfoldable pub NeighbourPart : Type 0
NeighbourPart = (iv text : List ℕ) (j : ℕ) (r : Neighbour) → NeighbourAt iv text j r → part_of iv text r ≡ neighbour_answer iv text j

-- ---- a forecast

unfoldable pub cost_of : Forecast → Cost
cost_of r = record { number = r.number; bytes = r.bytes; runs = r.runs }

-- Where the number is a mode's it is the crate's own; and the number for a mode that is none is answered exactly there.
unfoldable pub ForecastFromC : Type 0
ForecastFromC = (mode n bits : ℕ) (r : Forecast) → mode < modes → HeldForecastBy mode n bits r → ForecastBy (mode_of mode) n bits (cost_of r)

unfoldable pub ForecastOfNoMode : Type 0
ForecastOfNoMode = (mode n bits : ℕ) (r : Forecast) → HeldForecastBy mode n bits r → (r.number ≡ no_mode_number) ↔ (modes ≤ mode)

-- ---- an older session carried over

-- The older session that a struct of C's stands for.
unfoldable pub session32_of : HeldSession32 → Session32
session32_of h =
    record {
      mode = mode_of h.mode;
      direction = direction_of (is_set h.decrypting);
      n = h.n;
      m = h.m;
      rounds = h.rounds;
      keys = h.keys;
      register = h.register;
      units = h.units;
      closed = is_set h.closed;
    }

-- What is carried over stands for what the crate's own call gives.
unfoldable pub HeldCarried : Type 0
HeldCarried = (h : HeldSession32) → session_of (carried_held h) ≡ carried (session32_of h)

-- ---- lists of feeds

-- One feed from C: what it was handed, what it returned, and the output afterwards.
pub record HeldCall : Type 0 where
  pub input : List ℕ
  pub count : ℕ
  pub out : List ℕ
  pub place : ℕ
  pub result : HeldFed
  pub after : List ℕ

pub data HeldFeed : HeldSession → HeldCall → HeldSession → Type 0 where
  held_fed : {h : HeldSession} {c : HeldCall} → HeldFedBy h c.input c.count c.out c.place c.result c.after → HeldFeed h c c.result.session

-- The feeds, one after the other, each on the session that the one before returned, take the session h to the session
-- `end`.
abbrev pub HeldFeeds : HeldSession → List HeldCall → HeldSession → Type 0
HeldFeeds = Calls HeldFeed

unfoldable pub call_of : HeldCall → Call
call_of c = record { input = c.input; count = c.count; out = c.out; place = c.place; result = fed_of c.result; after = c.after }

unfoldable pub calls_of : List HeldCall → List Call
calls_of [] = []
calls_of (c ∷ cs) = call_of c ∷ calls_of cs

-- A list of feeds from C is a list of feeds, of any session whose number is a mode's, made by hand or not. So all that
-- is promised of lists holds of it.
unfoldable pub FeedsFromC : Type 0
FeedsFromC =
    (h end : HeldSession) (calls : List HeldCall) → h.mode < modes → HeldFeeds h calls end → Feeds (session_of h) (calls_of calls) (session_of end)

-- Demands 2 and 3, from C: an accepted opening had a mode's number.
unfoldable pub DemandTwoFromC : Type 0
DemandTwoFromC =
    (mode decrypting n m : ℕ) (key iv : List ℕ) (r : HeldOpened) (calls : List HeldCall) (end : HeldSession)
    → Bytes key → Bytes iv → HeldOpenedBy mode decrypting n m key iv r → r.number ≡ 0 → HeldFeeds r.session calls end
    → TextOf (mode_of mode) (direction_of (is_set decrypting)) n m key iv (calls_of calls) (session_of end)

unfoldable pub DemandThreeFromC : Type 0
DemandThreeFromC =
    (mode decrypting decrypting' n m m' : ℕ) (key v w : List ℕ) (r q : HeldOpened) (calls others : List HeldCall) (end end' : HeldSession)
    → Bytes key → Bytes v → Bytes w → is_set decrypting ≡ true → is_set decrypting' ≡ true
    → HeldOpenedBy mode decrypting n m key v r → r.number ≡ 0 → HeldOpenedBy mode decrypting' n m' key w q → q.number ≡ 0
    → HeldFeeds r.session calls end → HeldFeeds q.session others end'
    → Recovered (mode_of mode) n m m' key v w (calls_of calls) (calls_of others)
