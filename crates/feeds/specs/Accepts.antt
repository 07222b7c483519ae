-- Which openings and feeds are accepted, in plain numbers: document 01, "Questions before work". 14 and 15 are request
-- 05's, and the limit of 9 is request 07's.
use Rattle.std.specs.Prelude.{ℕ, ◌+◌, ◌-◌, ◌*◌, ◌%◌, ◌^◌, ◌≤◌, ◌≡◌, ◌↔◌, ◌⊎◌, false, List, length}
use Rattle.bits.specs.Texts.{bytes_for}
use Rattle.bits.specs.Blocks.{Bytes}
use Rattle.aes.specs.Promises.{KeyLength}
use Rattle.rules.specs.declared.Mode.{Mode}
use Rattle.rules.specs.declared.Mode.TheVariants.{Ecb, Cbc, Cfb, Ctr}
use Rattle.rules.specs.declared.Direction.{Direction}
use Rattle.rules.specs.Lengths.{LengthIn}
use Rattle.rules.specs.Rules.{units_in}
use Rattle.modes.specs.declared.session.Session.{Session}
use Rattle.modes.specs.declared.session.Opened.{Opened}
use Rattle.modes.specs.declared.session.Fed.{Fed}
use Rattle.modes.specs.Sessions.{OpenedBy, FedBy}

-- ---- open

pub record AcceptableOpening (mode : Mode) (n : ℕ) (key iv : List ℕ) : Type 0 where
  -- 1. The key is 16, 24 or 32 bytes long.
  pub key-length : KeyLength (length key)
  -- 2. The IV is 16 bytes long (0 bytes in ECB).
  pub iv_in_ecb : mode ≡ Ecb → length iv ≡ 0
  pub iv_elsewhere : (mode ≡ Ecb → ⊥) → length iv ≡ 16
  -- 3. n is from 1 to 128 in CFB, and 128 elsewhere.
  pub unit_length : LengthIn Cfb mode n

-- `open`, where m is 128: the number is 0 exactly where 1, 2 and 3 hold.
unfoldable pub OpenAccepts : Type 0
OpenAccepts =
    (mode : Mode) (dir : Direction) (n : ℕ) (key iv : List ℕ) (r : Opened) → OpenedBy mode dir n 128 key iv r
    → (r.number ≡ 0) ↔ AcceptableOpening mode n key iv

-- `open_counter` asks besides: 14. m is from 1 to 128 in CTR, and 128 elsewhere.
unfoldable pub OpenCounterAccepts : Type 0
OpenCounterAccepts =
    (mode : Mode) (dir : Direction) (n m : ℕ) (key iv : List ℕ) (r : Opened) → OpenedBy mode dir n m key iv r
    → (r.number ≡ 0) ↔ (AcceptableOpening mode n key iv × LengthIn Ctr mode m)

-- ---- feed

-- Of the session.
pub record AcceptableSession (s : Session) : Type 0 where
  -- 4. Its rounds are 10, 12 or 14, its n as in question 3 and its m as in question 14.
  pub rounds : (s.rounds ≡ 10) ⊎ (s.rounds ≡ 12) ⊎ (s.rounds ≡ 14)
  pub unit_length : LengthIn Cfb s.mode s.n
  pub counter-length : LengthIn Ctr s.mode s.m
  -- 5. It is not closed.
  pub not_closed : s.closed ≡ false

-- Of what is fed, and of the output.
pub record AcceptableText (mode : Mode) (n : ℕ) (input : List ℕ) (count : ℕ) (out : List ℕ) (place : ℕ) : Type 0 where
  -- 6. The bits are at most 8 × input bytes and 524,288.
  pub there : count ≤ 8 * length input
  pub at_most : count ≤ 524288
  -- 7. They are whole units in ECB, CBC and CFB.
  pub whole-units : (mode ≡ Ecb) ⊎ (mode ≡ Cbc) ⊎ (mode ≡ Cfb) → count % n ≡ 0
  -- 8. The output place is at most the output's length, with enough bytes from there for all that would be written.
  pub room : place + bytes_for count ≤ length out

pub record AcceptableFeed (s : Session) (input : List ℕ) (count : ℕ) (out : List ℕ) (place : ℕ) : Type 0 where
  pub session : AcceptableSession s
  pub text : AcceptableText s.mode s.n input count out place
  -- 9. Units done plus new units are at most 2^64 - 1.
  pub units : s.units + units_in s.n count ≤ 2 ^ 64 - 1
  -- 15. They are at most 2^m.
  pub counter_blocks : s.units + units_in s.n count ≤ 2 ^ s.m

-- `feed`, of any session, whoever made it.
unfoldable pub FeedAccepts : Type 0
FeedAccepts =
    (s : Session) (input : List ℕ) (count : ℕ) (out : List ℕ) (place : ℕ) (r : Fed) (after : List ℕ)
    → FedBy s input count out place r after → (r.number ≡ 0) ↔ AcceptableFeed s input count out place

-- The first feed after an accepted opening: 6, 7, 8 and 15 alone. Neither 'closed' nor 'limit reached' comes before any
-- unit (document 01's shams).
unfoldable pub FirstFeedAccepts : Type 0
FirstFeedAccepts =
    (mode : Mode) (dir : Direction) (n m : ℕ) (key iv : List ℕ) (o : Opened) → Bytes key → OpenedBy mode dir n m key iv o → o.number ≡ 0
    → (input : List ℕ) (count : ℕ) (out : List ℕ) (place : ℕ) (r : Fed) (after : List ℕ) → FedBy o.session input count out place r after
    → (r.number ≡ 0) ↔ (AcceptableText mode n input count out place × (units_in n count ≤ 2 ^ m))
