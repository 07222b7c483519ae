-- What is promised of sessions as C holds them.
use Rattle.std.specs.Prelude.{ℕ, ◌≤◌, ◌<◌, ◌≡◌, ◌↔◌, Bool, List}
use Rattle.rules.specs.Numbers.{modes, mode_of, direction_of}
use Rattle.modes.specs.declared.session.Session.{Session}
use Rattle.modes.specs.declared.session.Opened.{Opened}
use Rattle.modes.specs.declared.session.Fed.{Fed}
use Rattle.modes.specs.Sessions.{OpenedBy, FedBy, fed_session}
use Rattle.held.specs.declared.form.HeldSession.{HeldSession}
use Rattle.held.specs.declared.calls.HeldOpened.{HeldOpened}
use Rattle.held.specs.declared.calls.HeldFed.{HeldFed}
use Rattle.held.specs.Held.{is_set, session_of, held_of, moved_held}
use Rattle.held.specs.Calls.{no_mode_number, HeldOpenedBy, HeldFedBy}

-- Nothing is lost on the way to C and back: what an opening gives stands for the session that was opened, and what an
-- accepted feed gives for the session that was moved.
unfoldable pub HeldAgain : Type 0
HeldAgain = (s : Session) → session_of (held_of s) ≡ s

unfoldable pub MovedAgain : Type 0
MovedAgain = (h : HeldSession) (x : List Bool) → session_of (moved_held h (fed_session (session_of h) x)) ≡ fed_session (session_of h) x

-- An opening from C, and a feed, as the crate modes has them.
unfoldable pub opened_of : HeldOpened → Opened
opened_of r = record { number = r.number; session = session_of r.session }

unfoldable pub fed_of : HeldFed → Fed
fed_of r = record { number = r.number; session = session_of r.session; runs = r.runs }

-- Where the number is a mode's, an opening from C is an opening, and a feed from C is a feed of the session that the
-- struct stands for, whoever made the struct. So all that is promised of these holds of them.
unfoldable pub OpenedFromC : Type 0
OpenedFromC =
    (mode decrypting n m : ℕ) (key iv : List ℕ) (r : HeldOpened) → mode < modes → HeldOpenedBy mode decrypting n m key iv r
    → OpenedBy (mode_of mode) (direction_of (is_set decrypting)) n m key iv (opened_of r)

unfoldable pub FedFromC : Type 0
FedFromC =
    (h : HeldSession) (input : List ℕ) (count : ℕ) (out : List ℕ) (place : ℕ) (r : HeldFed) (after : List ℕ) → h.mode < modes
    → HeldFedBy h input count out place r after → FedBy (session_of h) input count out place (fed_of r) after

-- An opening's mode is a mode's number, so no feed of its session is refused for that.
unfoldable pub HeldMode : Type 0
HeldMode = (s : Session) → (held_of s).mode < modes

-- The number for a mode that is none is above 28, the highest that is kept for questions, and openings and feeds answer
-- it exactly there.
pub record NoModeExactly : Type 0 where
  pub own : 28 < no_mode_number
  pub opening : (mode decrypting n m : ℕ) (key iv : List ℕ) (r : HeldOpened) → HeldOpenedBy mode decrypting n m key iv r → (r.number ≡ no_mode_number) ↔ (modes ≤ mode)
  pub feed : (h : HeldSession) (input : List ℕ) (count : ℕ) (out : List ℕ) (place : ℕ) (r : HeldFed) (after : List ℕ)
      → HeldFedBy h input count out place r after → (r.number ≡ no_mode_number) ↔ (modes ≤ h.mode)

-- A feed of 0 bits changes nothing, of any struct byte for byte, whether it is accepted or refused.
unfoldable pub HeldNothingFed : Type 0
HeldNothingFed =
    (h : HeldSession) (input out : List ℕ) (place : ℕ) (r : HeldFed) (after : List ℕ) → HeldFedBy h input 0 out place r after
    → (r.session ≡ h) × (after ≡ out)
