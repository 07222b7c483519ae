-- What open and feed answer and write, for any numbers and bytes: what the crate modes gives for the session that they
-- stand for.
use Rattle.std.specs.Prelude.{ℕ, ◌≡◌, cond, List, eqb, ltb, length}
use Rattle.rules.specs.Numbers.{modes, mode_of, direction_of}
use Rattle.modes.specs.Sessions.{open_number, opened_session, refused_session, feed_number, fed_text, session_text, fed_session, session_runs, written}
use Rattle.held.specs.declared.form.HeldSession.{HeldSession}
use Rattle.held.specs.declared.calls.HeldOpened.{HeldOpened}
use Rattle.held.specs.declared.calls.HeldFed.{HeldFed}
use Rattle.held.specs.Held.{is_set, session_of, held_of, moved_held}

-- Asked before every question: is the number a mode's? The numbers 1 to 28 are kept for questions, and this is none of
-- them (`NoModeExactly`).
abbrev pub no_mode_number : ℕ
no_mode_number = 64

unfoldable pub mode_first : ℕ → ℕ → ℕ
mode_first mode number = cond (ltb mode modes) number no_mode_number

-- ---- open

module _ (mode decrypting n m : ℕ) (key iv : List ℕ) where
  unfoldable pub open_held_number : ℕ
  open_held_number = mode_first mode (open_number (mode_of mode) n m key iv)

  pub record HeldOpenedBy (r : HeldOpened) : Type 0 where
    pub answer : r.number ≡ open_held_number
    pub opened : r.session ≡ held_of (cond (eqb open_held_number 0) (opened_session (mode_of mode) (direction_of (is_set decrypting)) n m key iv) refused_session)

-- ---- feed

module _ (h : HeldSession) (input : List ℕ) (count : ℕ) (out : List ℕ) (place : ℕ) where
  unfoldable pub feed_held_number : ℕ
  feed_held_number = mode_first h.mode (feed_number (session_of h) (length input) count (length out) place)

  -- A refused feed gives back what it was handed.
  pub record HeldFedBy (r : HeldFed) (after : List ℕ) : Type 0 where
    pub answer : r.number ≡ feed_held_number
    pub session : r.session ≡ cond (eqb feed_held_number 0) (moved_held h (fed_session (session_of h) (fed_text input count))) h
    pub output : after ≡ cond (eqb feed_held_number 0) (written out place (session_text (session_of h) (fed_text input count))) out
    pub runs : r.runs ≡ cond (eqb feed_held_number 0) (session_runs (session_of h) (fed_text input count)) 0
