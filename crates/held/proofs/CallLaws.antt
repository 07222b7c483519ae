-- What open and feed give, from what those of the crate modes give, and back. Assumes nothing.
use Prim.Native.Nat.{ℕ, ◌≤◌, ◌<◌}
use mathlib.Core.Path.{◌≡◌, refl, sym, ap, ◌∙◌}
use mathlib.Core.Bool.{Bool, true, false, cond}
use mathlib.Core.List.{List}
use native.Mathlib.Omega.{arith}
use borrow.Author.Tests.{eqb-true, not-false}
use lib.Dec.{eqb}
use lib.ListN.{length}
use Rattle.rules.specs.declared.Mode.{Mode}
use Rattle.rules.specs.declared.Direction.{Direction}
use Rattle.rules.specs.Numbers.{modes, mode_of, direction_of}
use Rattle.questions.specs.Questions.{max_units, open_questions, feed_questions}
use Rattle.questions.proofs.BoundLaws.{ask_below}
use Rattle.modes.specs.declared.session.Session.{Session}
use Rattle.modes.specs.declared.session.Opened.{Opened}
use Rattle.modes.specs.declared.session.Fed.{Fed}
use Rattle.modes.specs.Sessions.{OpenedBy, FedBy, open_number, refused_session, feed_number_within, feed_number, fed_text, fed_session}
use Rattle.modes.specs.Promises.{NothingFed}
use Rattle.modes.proofs.FeedLaws.{nothing_fed, accepted-not-closed, accepted-session}
use Rattle.held.specs.declared.form.HeldSession.{HeldSession}
use Rattle.held.specs.declared.calls.HeldOpened.{HeldOpened}
use Rattle.held.specs.declared.calls.HeldFed.{HeldFed}
use Rattle.held.specs.Held.{is_set, flag_of, session_of, held_of, moved_held}
use Rattle.held.specs.Calls.{no_mode_number, open_held_number, HeldOpenedBy, feed_held_number, HeldFedBy}
use Rattle.held.specs.Promises.{HeldAgain, MovedAgain, opened_of, fed_of, OpenedFromC, FedFromC, NoModeExactly, HeldNothingFed}
use Rattle.held.proofs.Laws.{held_again, moved_again, of_mode, of_none, no_mode_exactly, mode_accepted}

-- ---- open

module _ (mode decrypting n m : ℕ) (key iv : List ℕ) where
  pub not_opened : {r : HeldOpened} → modes ≤ mode → r.number ≡ no_mode_number → r.session ≡ held_of refused_session → HeldOpenedBy mode decrypting n m key iv r
  unfolding open_held_number
  not_opened h a s =
      let e = of_none mode (open_number (mode_of mode) n m key iv) h in
      record { answer = a ∙ sym e; opened = rw e s }

  pub opened : {own : Mode} {dir : Direction} {o : Opened} {r : HeldOpened} → mode < modes → own ≡ mode_of mode → dir ≡ direction_of (is_set decrypting)
      → OpenedBy own dir n m key iv o → r.number ≡ o.number → r.session ≡ held_of o.session → HeldOpenedBy mode decrypting n m key iv r
  unfolding open_held_number
  opened h same d o a s =
      let e = of_mode mode (open_number (mode_of mode) n m key iv) h in
      record { answer = a ∙ rw (e, ← same) o.answer; opened = s ∙ rw (e, ← same, ← d) (ap held_of o.opened) }

pub opened_from_c : OpenedFromC
unfolding OpenedFromC opened_of open_held_number HeldAgain
opened_from_c mode decrypting n m key iv r h o =
    let e = of_mode mode (open_number (mode_of mode) n m key iv) h in
    record { answer = o.answer ∙ e; opened = rw e at (ap session_of o.opened ∙ held_again _) }

-- ---- feed

module _ (h : HeldSession) (input : List ℕ) (count : ℕ) (out : List ℕ) (place : ℕ) where
  pub not-fed : {r : HeldFed} → modes ≤ h.mode → r.number ≡ no_mode_number → r.session ≡ h → r.runs ≡ 0 → HeldFedBy h input count out place r out
  unfolding feed_held_number
  not-fed big a s k =
      let e = of_none h.mode (feed_number (session_of h) (length input) count (length out) place) big in
      record { answer = a ∙ sym e; session = rw e s; output = rw e; runs = rw e k }

  -- What is moved is moved once: where the feed was refused its session is not looked at.
  once : (b : Bool) (x y : Session) → cond b (moved_held h (cond b x y)) h ≡ cond b (moved_held h x) h
  once true x y = refl
  once false x y = refl

  pub fed : {s : Session} {f : Fed} {after : List ℕ} {r : HeldFed} → h.mode < modes → s ≡ session_of h → FedBy s input count out place f after
      → r.number ≡ f.number → r.session ≡ cond (eqb f.number 0) (moved_held h f.session) h → r.runs ≡ f.runs
      → HeldFedBy h input count out place r after
  unfolding feed_held_number
  fed {s = s} small same f a next k =
      let e = of_mode h.mode (feed_number (session_of h) (length input) count (length out) place) small in
      record {
        answer = a ∙ rw (e, ← same) f.answer;
        session = next ∙ rw (e, f.answer, f.session, ← same) (once (eqb (feed_number s (length input) count (length out) place) 0) (fed_session s (fed_text input count)) s);
        output = rw (e, ← same) f.output;
        runs = k ∙ rw (e, ← same) f.runs;
      }

-- A struct stands for the same session whether it is moved before or after the choice.
either : (b : Bool) (h : HeldSession) (x : List Bool) → session_of (cond b (moved_held h (fed_session (session_of h) x)) h) ≡ cond b (fed_session (session_of h) x) (session_of h)
unfolding MovedAgain
either true h x = moved_again h x
either false h x = refl

pub fed_from_c : FedFromC
unfolding FedFromC fed_of feed_held_number
fed_from_c h input count out place r after small f =
    let e = of_mode h.mode (feed_number (session_of h) (length input) count (length out) place) small in
    record {
      answer = f.answer ∙ e;
      session = rw e at (ap session_of f.session ∙ either (eqb (feed_held_number h input count out place) 0) h (fed_text input count));
      output = rw e at f.output;
      runs = rw e at f.runs;
    }

-- ---- the number for a mode that is none

own_number : 28 < no_mode_number
own_number = omega arith

pub no_mode : NoModeExactly
unfolding open_held_number feed_held_number open_number open_questions feed_number_within feed_questions
no_mode =
    record {
      own = own_number;
      opening = λ mode decrypting n m key iv r o. no_mode_exactly mode (open_number (mode_of mode) n m key iv) o.answer (ask_below 64 (omega arith) (open_questions (mode_of mode) n m key iv) refl);
      feed = λ h input count out place r after f.
          let s = session_of h in
          no_mode_exactly h.mode (feed_number s (length input) count (length out) place) f.answer
          (ask_below 64 (omega arith) (feed_questions max_units s.mode s.rounds s.n s.m s.closed s.units (length input) count (length out) place) refl);
    }

-- ---- a feed of 0 bits

flag_of_no : (byte : ℕ) → is_set byte ≡ false → flag_of (is_set byte) ≡ byte
unfolding is_set flag_of
flag_of_no byte clear = rw clear (sym (eqb-true byte 0 (not-false (eqb byte 0) clear)))

moved_not : (h : HeldSession) → is_set h.closed ≡ false → moved_held h (session_of h) ≡ h
unfolding moved_held session_of
moved_not h open-still = rw (flag_of_no h.closed open-still) refl

pub held_nothing_fed : HeldNothingFed
unfolding HeldNothingFed FedFromC NothingFed fed_of session_of feed_held_number
held_nothing_fed h input out place r after f = by_number (eqb (feed_held_number h input 0 out place) 0) refl
  where
    by_number : (b : Bool) → eqb (feed_held_number h input 0 out place) 0 ≡ b → (r.session ≡ h) × (after ≡ out)
    by_number false e = (rw e at f.session, rw e at f.output)
    by_number true e =
        let zero = f.answer ∙ eqb-true (feed_held_number h input 0 out place) 0 e in
        let own = fed_from_c h input 0 out place r after (mode_accepted h.mode (feed_number (session_of h) (length input) 0 (length out) place) f.answer zero) f in
        let (same, unchanged) = nothing_fed (session_of h) input out place (fed_of r) after own in
        let still = sym (accepted-session own zero) ∙ same in
        (rw e at f.session ∙ ap (moved_held h) still ∙ moved_not h (accepted-not-closed own zero), unchanged)
