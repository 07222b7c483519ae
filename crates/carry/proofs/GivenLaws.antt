-- What the older release's opening and feed gave, part by part: what today's give with its limit. Assumes nothing.
use Prim.Native.Nat.{ℕ}
use mathlib.Core.Path.{◌≡◌, refl, sym, ap, ◌∙◌}
use mathlib.Core.Logic.{◌↔◌}
use mathlib.Core.Bool.{Bool, true, false, cond}
use mathlib.Core.List.{List}
use lib.Dec.{eqb}
use lib.ListN.{length}
use borrow.Author.Tests.{eqb-true}
use Rattle.aes.specs.Calls.{key_rounds, key_bytes}
use Rattle.rules.specs.declared.Mode.{Mode}
use Rattle.rules.specs.declared.Direction.{Direction}
use Rattle.rules.specs.Rules.{units_in}
use Rattle.questions.specs.Questions.{ask}
use Rattle.questions.proofs.QuestionLaws.{opening_taken}
use Rattle.modes.specs.declared.session.Session.{Session}
use Rattle.modes.specs.Sessions.{OpenedBy, open_number, opened_session, refused_session, FedWithin, feed_number_within, fed_text, session_text, session_register, fed_session, session_runs}
use Rattle.carry.specs.declared.Session32.{Session32}
use Rattle.carry.specs.OlderQuestions.{older_max_units, older_units, older_open_questions}
use Rattle.carry.specs.Older.{carried, refused_session32, opened_session32, OpenedBy32, Call32, feed_number32, session_text32, session_register32, fed_session32, FedBy32}
use Rattle.carry.specs.Promises.{carried_fed, OlderGives}
use Rattle.carry.proofs.AskedLaws.{asked_open, asked_feed}

-- Sessions are the same exactly where they are the same carried over.
uncarried : Session → Session32
uncarried s =
    record { mode = s.mode; direction = s.direction; n = s.n; m = s.m; rounds = s.rounds; keys = s.keys; register = s.register; units = s.units; closed = s.closed }

both_ways : {s t : Session32} {u : Session} → carried t ≡ u → (s ≡ t) ↔ (carried s ≡ u)
unfolding carried uncarried
both_ways e = (λ same. ap carried same ∙ e, λ same. ap uncarried (same ∙ sym e))

carried_either : (b : Bool) (s t : Session32) → carried (cond b s t) ≡ cond b (carried s) (carried t)
carried_either true s t = refl
carried_either false s t = refl

-- ---- a feed

module _ (s : Session32) (c : Call32) where
  abbrev x : List Bool
  x = fed_text c.input c.count

  abbrev todays-number : ℕ
  todays-number = feed_number_within older_max_units (carried s) (length c.input) c.count (length c.out) c.place

  same_number : feed_number32 s c ≡ todays-number
  unfolding feed_number32 feed_number_within carried
  same_number = ap ask (asked_feed s (length c.input) c.count (length c.out) c.place)

  same-moved : carried (fed_session32 s x) ≡ fed_session (carried s) x
  unfolding carried fed_session32 fed_session session_register32 session_register older_units units_in
  same-moved = refl

  same_text : session_text32 s x ≡ session_text (carried s) x
  unfolding carried session_text32 session_text
  same_text = refl

  same_runs : older_units s.n (length x) ≡ session_runs (carried s) x
  unfolding carried session_runs older_units units_in
  same_runs = refl

  same-session : carried (cond (eqb (feed_number32 s c) 0) (fed_session32 s x) s) ≡ cond (eqb todays-number 0) (fed_session (carried s) x) (carried s)
  same-session = carried_either (eqb (feed_number32 s c) 0) (fed_session32 s x) s ∙ rw (same_number, same-moved)

  pub given-feed : FedBy32 s c ↔ FedWithin older_max_units (carried s) c.input c.count c.out c.place (carried_fed c) c.after
  unfolding carried_fed
  given-feed = (
    λ f. record { answer = f.answer ∙ same_number; session = (both_ways same-session).0 f.session; output = rw (same_number, same_text) at f.output; runs = rw (same_number, same_runs) at f.runs },
    λ f. record { answer = f.answer ∙ sym same_number; session = (both_ways same-session).1 f.session; output = rw (← same_number, ← same_text) at f.output; runs = rw (← same_number, ← same_runs) at f.runs },
  )

-- ---- an opening

module _ (mode : Mode) (dir : Direction) (n m : ℕ) (key iv : List ℕ) where
  same-open-number : ask (older_open_questions mode n m key iv) ≡ open_number mode n m key iv
  unfolding open_number
  same-open-number = ap ask (asked_open mode n m key iv)

  same-opened : carried (cond (eqb (ask (older_open_questions mode n m key iv)) 0) (opened_session32 mode dir n m key iv) refused_session32)
      ≡ cond (eqb (open_number mode n m key iv) 0) (opened_session mode dir n m key iv) refused_session
  unfolding carried opened_session32 opened_session refused_session32 refused_session key_rounds key_bytes open_number
  same-opened = rw same-open-number (by_number (eqb (open_number mode n m key iv) 0) refl)
    where
      by_number : (b : Bool) → eqb (open_number mode n m key iv) 0 ≡ b
          → carried (cond b (opened_session32 mode dir n m key iv) refused_session32) ≡ cond b (opened_session mode dir n m key iv) refused_session
      by_number true e = rw (opening_taken mode n m key iv (eqb-true (open_number mode n m key iv) 0 e)).key_size refl
      by_number false e = refl

  pub given-opening : (number : ℕ) (s : Session32) → OpenedBy32 mode dir n m key iv number s ↔ OpenedBy mode dir n m key iv (record { number = number; session = carried s })
  given-opening number s = (
    λ o. record { answer = o.answer ∙ same-open-number; opened = (both_ways same-opened).0 o.opened },
    λ o. record { answer = o.answer ∙ sym same-open-number; opened = (both_ways same-opened).1 o.opened },
  )

pub older_gives : OlderGives
older_gives = record { opening = given-opening; feed = given-feed }
