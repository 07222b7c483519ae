-- Demands 2 and 3 over lists of feeds, and what the runs of the block cipher add up to.
use Rattle.std.specs.Prelude.{ℕ, suc, ◌+◌, ◌≤◌, ◌<◌, ◌≡◌, ◌↔◌, Bool, List, [], ◌∷◌, ◌++◌, length, get_or}
use Rattle.std.proofs.Math.Option.{none, some}
use Rattle.bits.specs.Blocks.{Bytes}
use Rattle.aes.specs.Calls.{encrypted, decrypted}
use Rattle.calls.specs.Calls.{those}
use Rattle.rules.specs.declared.Mode.{Mode}
use Rattle.rules.specs.declared.Mode.TheVariants.{Ecb, Cbc, Cfb, Ctr}
use Rattle.rules.specs.declared.Direction.{Direction}
use Rattle.rules.specs.declared.Direction.TheVariants.{Decrypt}
use Rattle.rules.specs.Rules.{unit_at, units_in}
use Rattle.rules.specs.Standard.{standard}
use Rattle.rules.specs.Recovery.{recovery_units}
use Rattle.rules.specs.Promises.{other, CommonRun, Differ, OneUnitChanged, OneBlockChanged, OnlyBlockDamaged, OneBlockDamaged, OneSegmentDamaged}
use Rattle.questions.specs.Questions.{max_units}
use Rattle.modes.specs.declared.session.Session.{Session}
use Rattle.modes.specs.declared.session.Opened.{Opened}
use Rattle.modes.specs.Sessions.{OpenedBy, opened_session}
use Rattle.feeds.specs.Machine.{Opening, Machine, machine_start}
use Rattle.feeds.specs.Lists.{Call, Feeds, accepted, all_fed, all_written, written_bits, all_runs, registers_used, machine_answer, machine_fed, machine_after, registers}

-- ---- Demand 2

-- A list of feeds on an opened session, in either direction and whatever the cuts.
pub record TextOf (mode : Mode) (dir : Direction) (n m : ℕ) (key iv : List ℕ) (calls : List Call) (end : Session) : Type 0 where
  pub standard_text : all_written calls ≡ standard (encrypted key) (decrypted key) mode dir n m iv (all_fed calls)
  pub units : end.units ≡ units_in n (length (all_fed calls))

unfoldable pub DemandTwo : Type 0
DemandTwo =
    (mode : Mode) (dir : Direction) (n m : ℕ) (key iv : List ℕ) (r : Opened) (calls : List Call) (end : Session)
    → Bytes key → Bytes iv → OpenedBy mode dir n m key iv r → r.number ≡ 0 → Feeds r.session calls end
    → TextOf mode dir n m key iv calls end

-- Two sessions opened alike but for direction undo each other, each list cut in its own way.
unfoldable pub UndoneByTheOther : Type 0
UndoneByTheOther =
    (mode : Mode) (dir : Direction) (n m : ℕ) (key iv : List ℕ) (r q : Opened) (calls back : List Call) (end end' : Session)
    → Bytes key → Bytes iv → OpenedBy mode dir n m key iv r → r.number ≡ 0 → OpenedBy mode (other dir) n m key iv q → q.number ≡ 0
    → Feeds r.session calls end → Feeds q.session back end' → all_fed back ≡ all_written calls → all_written back ≡ all_fed calls

-- ---- refused feeds

-- They leave no trace: the accepted feeds of a list, alone, lead where the list leads.
unfoldable pub AcceptedAlone : Type 0
AcceptedAlone = (s end : Session) (calls : List Call) → Feeds s calls end → Feeds s (those accepted calls) end

-- ---- Request 01

-- Over any list of feeds, refused ones among them, the runs of the block cipher add up to the units done.
unfoldable pub RunsAddUp : Type 0
RunsAddUp = (s end : Session) (calls : List Call) → Feeds s calls end → end.units ≡ s.units + all_runs calls

-- ---- Request 07

-- No count above the limit arises: a session that has done no more units than it allows has done no more after any list
-- of feeds, refused ones among them.
unfoldable pub UnitsStayWithin : Type 0
UnitsStayWithin = (s end : Session) (calls : List Call) → s.units ≤ max_units → Feeds s calls end → end.units ≤ max_units

-- ---- Demand 3

-- After a feed: R, units and closing are the machine's, and so is the plaintext that was written up to there.
pub record Same (machine : Machine) (s : Session) (plaintext : List Bool) : Type 0 where
  pub register : s.register ≡ machine.register
  pub units : s.units ≡ machine.units
  pub closed : s.closed ≡ machine.closed
  pub text : plaintext ≡ machine.plaintext

-- That after each feed of a list, refused ones too, with the number that it answered; `before` is what was written
-- before them.
unfoldable pub AgreesThroughout : Machine → List Bool → List Call → Type 0
AgreesThroughout machine before [] = Unit {0}
AgreesThroughout machine before (c ∷ cs) =
    record {
      number : c.result.number ≡ machine_answer machine c;
      same : Same (machine_fed machine c) c.result.session (before ++ written_bits c);
      rest : AgreesThroughout (machine_fed machine c) (before ++ written_bits c) cs;
    }

-- One list beside its machine: equality after every feed, and what the machine took and gave are the bits that the
-- accepted feeds were fed and wrote. There is a register for each unit, and the one before the first.
pub record Followed (o : Opening) (calls : List Call) : Type 0 where
  pub agrees : AgreesThroughout (machine_start o) [] calls
  pub ciphertext : (machine_after (machine_start o) calls).ciphertext ≡ all_fed calls
  pub plaintext : (machine_after (machine_start o) calls).plaintext ≡ all_written calls
  pub counted : length (registers o calls) ≡ suc (machine_after (machine_start o) calls).units
  -- the last of them is the machine's R
  pub last : get_or (registers o calls) (machine_after (machine_start o) calls).units [] ≡ (machine_after (machine_start o) calls).register
  -- and they are request 05's, R before each unit of the list on the opened session, followed by that R
  pub used : registers o calls ≡ registers_used (opened_session o.mode Decrypt o.n o.m o.key o.iv) calls ++ (machine_after (machine_start o) calls).register ∷ []

-- The one claim over two lists of decrypting feeds with equal mode, key and n, each with its own m. x and y are their
-- ciphertexts, p and q their plaintexts.
module _ (mode : Mode) (n m m' : ℕ) (key v w : List ℕ) (calls others : List Call) where
  abbrev first : Opening
  first = record { mode = mode; n = n; m = m; key = key; iv = v }

  abbrev second : Opening
  second = record { mode = mode; n = n; m = m'; key = key; iv = w }

  abbrev x : List Bool
  x = all_fed calls

  abbrev y : List Bool
  y = all_fed others

  abbrev p : List Bool
  p = all_written calls

  abbrev q : List Bool
  q = all_written others

  pub record Recovered : Type 0 where
    -- equality with the plain machine
    pub machine : Followed first calls
    pub other-machine : Followed second others
    -- recovery after loss: for every common run, wherever it begins, plaintext units and the machines' registers
    pub run-plain : (needed : ℕ) → recovery_units mode n ≡ some needed → (i j k : ℕ) → CommonRun n x y i j k → (t : ℕ) → needed ≤ t → t < k → unit_at n p (i + t) ≡ unit_at n q (j + t)
    pub run-registers : (needed : ℕ) → recovery_units mode n ≡ some needed → (i j k : ℕ) → CommonRun n x y i j k → (t : ℕ) → needed ≤ t → t ≤ k → get_or (registers first calls) (i + t) [] ≡ get_or (registers second others) (j + t) []
    -- reach of damage: one changed block in ECB and in CBC, one changed segment in CFB; in OFB and CTR exactly the
    -- changed bits, in CTR where m is the same
    pub one-block-ecb : mode ≡ Ecb → (j : ℕ) → OneBlockChanged x y j → OnlyBlockDamaged p q j
    pub one_block : mode ≡ Cbc → v ≡ w → (j : ℕ) → OneBlockChanged x y j → OneBlockDamaged x y p q j
    pub one-segment : mode ≡ Cfb → v ≡ w → (j : ℕ) → OneUnitChanged n x y j → OneSegmentDamaged n x y p q j
    pub same_bits : recovery_units mode n ≡ none → v ≡ w → (mode ≡ Ctr → m ≡ m') → length x ≡ length y → (b : ℕ) → Differ p q b ↔ Differ x y b

unfoldable pub DemandThree : Type 0
DemandThree =
    (mode : Mode) (n m m' : ℕ) (key v w : List ℕ) (r q : Opened) (calls others : List Call) (end end' : Session)
    → Bytes key → Bytes v → Bytes w → OpenedBy mode Decrypt n m key v r → r.number ≡ 0 → OpenedBy mode Decrypt n m' key w q → q.number ≡ 0
    → Feeds r.session calls end → Feeds q.session others end' → Recovered mode n m m' key v w calls others
