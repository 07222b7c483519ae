-- Demand 1 for the calls `open` and `feed`, one call at a time. Lists of feeds stand in the crate `feeds`.
use Rattle.std.specs.Prelude.{ℕ, ◌+◌, ◌*◌, ◌%◌, ◌≤◌, ◌<◌, ◌≡◌, ◌↔◌, true, false, List, [], ◌∷◌, ◌++◌, length, get_or, take, drop}
use Rattle.bits.specs.Texts.{bits, bytes_for}
use Rattle.rules.specs.declared.Mode.{Mode}
use Rattle.rules.specs.declared.Direction.{Direction}
use Rattle.rules.specs.Rules.{units_in}
use Rattle.questions.specs.Questions.{ask, max_units, feed_questions_to8}
use Rattle.modes.specs.declared.session.Session.{Session}
use Rattle.modes.specs.declared.session.Opened.{Opened}
use Rattle.modes.specs.declared.session.Fed.{Fed}
use Rattle.modes.specs.Sessions.{Arrays, OpenedBy, refused_session, feed_number, FedBy, session_text, fed_text}

-- ---- open

-- A refused opening gives the refused session.
unfoldable pub RefusedOpening : Type 0
RefusedOpening =
    (mode : Mode) (dir : Direction) (n m : ℕ) (key iv : List ℕ) (r : Opened) → OpenedBy mode dir n m key iv r → (r.number ≡ 0 → ⊥)
    → r.session ≡ refused_session

-- An accepted one gives a session that has done no unit and is not closed.
unfoldable pub OpenedFresh : Type 0
OpenedFresh =
    (mode : Mode) (dir : Direction) (n m : ℕ) (key iv : List ℕ) (r : Opened) → OpenedBy mode dir n m key iv r → r.number ≡ 0
    → (r.session.units ≡ 0) × (r.session.closed ≡ false)

-- ---- feed

-- Refused means unchanged.
unfoldable pub RefusedUnchanged : Type 0
RefusedUnchanged =
    (s : Session) (input : List ℕ) (count : ℕ) (out : List ℕ) (place : ℕ) (r : Fed) (after : List ℕ)
    → FedBy s input count out place r after → (r.number ≡ 0 → ⊥) → (r.session ≡ s) × (after ≡ out)

-- Accepted means exactly the named bytes: `bytes_for count` of them, from `place` on, with the text in their first bits
-- and 0 in the spare ones; every byte before and after keeps its value.
pub record ExactlyTheNamed (s : Session) (input : List ℕ) (count : ℕ) (out : List ℕ) (place : ℕ) (after : List ℕ) : Type 0 where
  pub same_size : length after ≡ length out
  pub before : take place after ≡ take place out
  pub behind : drop (place + bytes_for count) after ≡ drop (place + bytes_for count) out
  pub text : take count (bits (drop place after)) ≡ session_text s (fed_text input count)
  pub spare : (b : ℕ) → count ≤ b → b < bytes_for count * 8 → get_or (bits (drop place after)) b false ≡ false

unfoldable pub AcceptedExact : Type 0
AcceptedExact =
    (s : Session) (input : List ℕ) (count : ℕ) (out : List ℕ) (place : ℕ) (r : Fed) (after : List ℕ)
    → Arrays s → FedBy s input count out place r after → r.number ≡ 0 → ExactlyTheNamed s input count out place after

-- A feed of 0 bits changes nothing.
unfoldable pub NothingFed : Type 0
NothingFed =
    (s : Session) (input out : List ℕ) (place : ℕ) (r : Fed) (after : List ℕ) → FedBy s input 0 out place r after
    → (r.session ≡ s) × (after ≡ out)

-- An accepted feed closes the session exactly where it ends in a short unit.
unfoldable pub ClosesAfterShort : Type 0
ClosesAfterShort =
    (s : Session) (input : List ℕ) (count : ℕ) (out : List ℕ) (place : ℕ) (r : Fed) (after : List ℕ)
    → FedBy s input count out place r after → r.number ≡ 0 → (r.session.closed ≡ true) ↔ (count % s.n ≡ 0 → ⊥)

-- 9 in time: a feed that would lead past the limit is answered 9, or by a question before that one. Question 15 is not
-- reached.
unfoldable pub PastTheLimit : Type 0
PastTheLimit =
    (s : Session) (bytes count size place : ℕ) → max_units < s.units + units_in s.n count
    → feed_number s bytes count size place
    ≡ ask (feed_questions_to8 s.mode s.rounds s.n s.m s.closed bytes count size place ++ record { yes = false; number = 9 } ∷ [])
