-- The session that a struct stands for, and the number of a mode. Assumes nothing.
use Prim.Native.Nat.{ℕ, ◌≤◌, ◌<◌}
use mathlib.Core.Path.{◌≡◌, refl, sym, ap, ◌∙◌}
use mathlib.Core.Logic.{◌↔◌}
use mathlib.Core.Bool.{Bool, true, false}
use mathlib.Core.List.{List}
use native.Mathlib.Omega.{arith}
use borrow.Author.Tests.{lt-ltb, le-ltb, ltb-true, ltb-false}
use lib.Dec.{ltb}
use Rattle.rules.specs.Numbers.{modes, is_decrypt, direction_of}
use Rattle.rules.proofs.NumberLaws.{mode_again, direction_again, number_below}
use Rattle.modes.specs.declared.session.Session.{Session}
use Rattle.modes.specs.Sessions.{fed_session}
use Rattle.held.specs.declared.form.HeldSession.{HeldSession}
use Rattle.held.specs.Held.{is_set, flag_of, session_of, held_of, moved_held}
use Rattle.held.specs.Calls.{no_mode_number, mode_first}
use Rattle.held.specs.Promises.{HeldAgain, MovedAgain, HeldMode}

-- ---- the session that a held one stands for

flag_again : (b : Bool) → is_set (flag_of b) ≡ b
unfolding is_set flag_of
flag_again true = refl
flag_again false = refl

-- part by part, where a part changes its form
same_mode : (s : Session) → (session_of (held_of s)).mode ≡ s.mode
unfolding session_of held_of
same_mode s = mode_again s.mode

same_direction : (s : Session) → (session_of (held_of s)).direction ≡ s.direction
unfolding session_of held_of
same_direction s = ap direction_of (flag_again (is_decrypt s.direction)) ∙ direction_again s.direction

same_closing : (s : Session) → (session_of (held_of s)).closed ≡ s.closed
unfolding session_of held_of
same_closing s = flag_again s.closed

pub held_again : HeldAgain
unfolding HeldAgain session_of held_of
held_again s = rw (same_mode s, same_direction s, same_closing s) refl

pub held_mode : HeldMode
unfolding HeldMode held_of
held_mode s = number_below s.mode

moved_closing : (h : HeldSession) (x : List Bool) → (session_of (moved_held h (fed_session (session_of h) x))).closed ≡ (fed_session (session_of h) x).closed
unfolding session_of moved_held
moved_closing h x = flag_again (fed_session (session_of h) x).closed

pub moved_again : MovedAgain
unfolding MovedAgain session_of moved_held fed_session
moved_again h x = rw (moved_closing h x) refl

-- ---- a mode's number

pub of_mode : (mode k : ℕ) → mode < modes → mode_first mode k ≡ k
unfolding mode_first
of_mode mode k h = rw (lt-ltb mode modes h)

pub of_none : (mode k : ℕ) → modes ≤ mode → mode_first mode k ≡ no_mode_number
unfolding mode_first
of_none mode k h = rw (le-ltb mode modes h)

-- It is answered with the number of its own where no question has that.
pub no_mode_exactly : (mode k : ℕ) {number : ℕ} → number ≡ mode_first mode k → k < no_mode_number → (number ≡ no_mode_number) ↔ (modes ≤ mode)
no_mode_exactly mode k {number} answer below = (λ e. by-test (ltb mode modes) refl e, λ big. answer ∙ of_none mode k big)
  where
    by-test : (b : Bool) → ltb mode modes ≡ b → number ≡ no_mode_number → modes ≤ mode
    by-test true small e = absurd (omega (arith, sym e ∙ answer ∙ of_mode mode k (ltb-true mode modes small), below))
    by-test false big e = ltb-false mode modes big

-- A number of a mode, where the answer is 0.
pub mode_accepted : (mode k : ℕ) {number : ℕ} → number ≡ mode_first mode k → number ≡ 0 → mode < modes
mode_accepted mode k {number} answer accepted = by-test (ltb mode modes) refl
  where
    by-test : (b : Bool) → ltb mode modes ≡ b → mode < modes
    by-test true small = ltb-true mode modes small
    by-test false big = absurd (omega (arith, sym accepted ∙ answer ∙ of_none mode k (ltb-false mode modes big)))
