-- What is promised of carrying a session over.
use Rattle.std.specs.Prelude.{ℕ, ◌+◌, ◌≤◌, ◌<◌, ◌≡◌, ◌↔◌, cond, List, [], ◌∷◌, ◌++◌, eqb}
use Rattle.bits.specs.Blocks.{Bytes}
use Rattle.rules.specs.declared.Mode.{Mode}
use Rattle.rules.specs.declared.Mode.TheVariants.{Ctr}
use Rattle.rules.specs.declared.Direction.{Direction}
use Rattle.rules.specs.declared.Direction.TheVariants.{Decrypt}
use Rattle.rules.specs.Rules.{units_in}
use Rattle.questions.specs.Questions.{counters_ok, open_questions, feed_questions}
use Rattle.modes.specs.declared.session.Session.{Session}
use Rattle.modes.specs.declared.session.Fed.{Fed}
use Rattle.modes.specs.Sessions.{OpenedBy, FedWithin}
use Rattle.feeds.specs.Lists.{Call, Feeds}
use Rattle.feeds.specs.Promises.{TextOf, Recovered}
use Rattle.carry.specs.declared.Session32.{Session32}
use Rattle.carry.specs.OlderQuestions.{older_max_units, older_open_questions, older_questions}
use Rattle.carry.specs.Older.{Fits, carried, OpenedBy32, Call32, FedBy32, Feeds32}

-- ---- each part

pub record SameParts (older : Session32) (s : Session) : Type 0 where
  pub mode : s.mode ≡ older.mode
  pub direction : s.direction ≡ older.direction
  pub n : s.n ≡ older.n
  pub m : s.m ≡ older.m
  pub rounds : s.rounds ≡ older.rounds
  pub keys : s.keys ≡ older.keys
  pub register : s.register ≡ older.register
  pub units : s.units ≡ older.units
  pub closed : s.closed ≡ older.closed

-- Carrying over keeps each part, and nothing else does.
unfoldable pub PartsKept : Type 0
PartsKept = (older : Session32) (s : Session) → (s ≡ carried older) ↔ SameParts older s

-- ---- the older release beside today's

-- Its questions, written out, are today's with its limit: one by one, for all arguments.
pub record OlderAsks : Type 0 where
  pub opening : (mode : Mode) (n m : ℕ) (key iv : List ℕ) → older_open_questions mode n m key iv ≡ open_questions mode n m key iv
  pub feed : (s : Session32) (bytes count size place : ℕ) → older_questions s bytes count size place ≡ feed_questions older_max_units s.mode s.rounds s.n s.m s.closed s.units bytes count size place

-- What a feed of that release returned, its session carried over.
unfoldable pub carried_fed : Call32 → Fed
carried_fed c = record { number = c.number; session = carried c.session; runs = c.runs }

-- Its opening gave exactly what today's gives, and its feed exactly what today's gives with that limit.
pub record OlderGives : Type 0 where
  pub opening : (mode : Mode) (dir : Direction) (n m : ℕ) (key iv : List ℕ) (number : ℕ) (s : Session32) → OpenedBy32 mode dir n m key iv number s ↔ OpenedBy mode dir n m key iv (record { number = number; session = carried s })
  pub feed : (s : Session32) (c : Call32) → FedBy32 s c ↔ FedWithin older_max_units (carried s) c.input c.count c.out c.place (carried_fed c) c.after

-- ---- the older release's count

-- No feed of that release leads past a number of 32 bits: so its limit is no higher than that type allows.
unfoldable pub UnitsFit : Type 0
UnitsFit = (s last : Session32) (olds : List Call32) → Fits s → Feeds32 s olds last → Fits last

-- ---- the same feeds

pub record SameFeed (c : Call32) (d : Call) : Type 0 where
  pub input : d.input ≡ c.input
  pub count : d.count ≡ c.count
  pub out : d.out ≡ c.out
  pub place : d.place ≡ c.place

-- As many, and one by one the same.
unfoldable pub SameFeeds : List Call32 → List Call → Type 0
SameFeeds [] [] = Unit {0}
SameFeeds [] (d ∷ ds) = ⊥
SameFeeds (c ∷ cs) [] = ⊥
SameFeeds (c ∷ cs) (d ∷ ds) = SameFeed c d × SameFeeds cs ds

pub record SameAnswer (c : Call32) (d : Call) : Type 0 where
  pub number : d.result.number ≡ c.number
  pub output : d.after ≡ c.after
  pub session : d.result.session ≡ carried c.session
  pub runs : d.result.runs ≡ c.runs

-- The older session s answered 9: no question before that one says 'no', and of those after it 15 alone may.
pub record PastTheOlderLimit (s : Session32) (c : Call32) (d : Call) : Type 0 where
  pub exactly : d.result.number ≡ cond (counters_ok s.m s.units (units_in s.n c.count)) 0 15
  -- in every mode but CTR it is accepted, and with a counter from 33 bits on; with fewer than 32 it is not; with 32 it
  -- is exactly where the feed's last unit is the last that they count
  pub without_counter : (s.mode ≡ Ctr → ⊥) → d.result.number ≡ 0
  pub many_bits : 33 ≤ s.m → d.result.number ≡ 0
  pub few_bits : s.m < 32 → d.result.number ≡ 15
  pub with_32 : s.m ≡ 32 → (d.result.number ≡ 0) ↔ (s.units + units_in s.n c.count ≡ 4294967296)

-- From the older session s on: as long as the older answers are not 9, the answers are the same after each feed. Where
-- one is 9 and the carried session answers 15, both stay as they were, and the same holds from there on.
unfoldable pub SameWhileAllowed : Session32 → List Call32 → List Call → Type 0
SameWhileAllowed s [] ds = Unit {0}
SameWhileAllowed s (c ∷ cs) [] = Unit {0}
SameWhileAllowed s (c ∷ cs) (d ∷ ds) =
    record {
      allowed : (c.number ≡ 9 → ⊥) → SameAnswer c d × SameWhileAllowed c.session cs ds;
      past : c.number ≡ 9 → PastTheOlderLimit s c d;
      both-refused : c.number ≡ 9 → d.result.number ≡ 15 → (d.result.session ≡ carried c.session) × (d.after ≡ c.after) × SameWhileAllowed c.session cs ds;
    }

unfoldable pub NeverPast : List Call32 → Type 0
NeverPast [] = Unit {0}
NeverPast (c ∷ cs) = (c.number ≡ 9 → ⊥) × NeverPast cs

pub record GoesOn (s : Session32) (olds : List Call32) (last : Session32) (calls : List Call) (end : Session) : Type 0 where
  pub each : SameWhileAllowed s olds calls
  pub at_the_end : NeverPast olds → end ≡ carried last

-- For any older session and any list of feeds.
unfoldable pub CarriedGoesOn : Type 0
CarriedGoesOn =
    (s last : Session32) (end : Session) (olds : List Call32) (calls : List Call) → Fits s → Feeds32 s olds last → Feeds (carried s) calls end
    → SameFeeds olds calls → GoesOn s olds last calls end

-- ---- across the change of release

-- A feed of the older release in today's form, and those of a list that were accepted.
unfoldable pub todays : Call32 → Call
todays c = record { input = c.input; count = c.count; out = c.out; place = c.place; result = carried_fed c; after = c.after }

unfoldable pub accepted_feeds : List Call32 → List Call
accepted_feeds [] = []
accepted_feeds (c ∷ cs) = cond (eqb c.number 0) (todays c ∷ accepted_feeds cs) (accepted_feeds cs)

-- Feeds of the older release up to the change, and feeds on the carried session after it, are one list of today's
-- feeds. So all that is promised of lists holds across the change.
unfoldable pub AcrossTheChange : Type 0
AcrossTheChange =
    (s last : Session32) (end : Session) (olds : List Call32) (calls : List Call) → Feeds32 s olds last → Feeds (carried last) calls end
    → Feeds (carried s) (accepted_feeds olds ++ calls) end

-- Demands 2 and 3, for sessions that the older release's opening gave with the number 0. The change may come anywhere
-- in each list.
unfoldable pub DemandTwoAcross : Type 0
DemandTwoAcross =
    (mode : Mode) (dir : Direction) (n m : ℕ) (key iv : List ℕ) (s last : Session32) (end : Session) (olds : List Call32) (calls : List Call)
    → Bytes key → Bytes iv → OpenedBy32 mode dir n m key iv 0 s → Feeds32 s olds last → Feeds (carried last) calls end
    → TextOf mode dir n m key iv (accepted_feeds olds ++ calls) end

unfoldable pub DemandThreeAcross : Type 0
DemandThreeAcross =
    (mode : Mode) (n m m' : ℕ) (key v w : List ℕ) → Bytes key → Bytes v → Bytes w
    → (s last : Session32) (end : Session) (olds : List Call32) (calls : List Call) → OpenedBy32 mode Decrypt n m key v 0 s → Feeds32 s olds last → Feeds (carried last) calls end
    → (s' last' : Session32) (end' : Session) (olds' : List Call32) (others : List Call) → OpenedBy32 mode Decrypt n m' key w 0 s' → Feeds32 s' olds' last' → Feeds (carried last') others end'
    → Recovered mode n m m' key v w (accepted_feeds olds ++ calls) (accepted_feeds olds' ++ others)
