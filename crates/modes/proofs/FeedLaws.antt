-- Demand 1 for one feed: a refused one changes nothing, an accepted one exactly the named bytes; and the runs that it
-- made. Assumes nothing.
use Prim.Native.Nat.{ℕ, ◌+◌, ◌%◌, ◌≤◌}
use mathlib.Core.Path.{◌≡◌, refl, sym, ap, ◌∙◌}
use mathlib.Core.Bool.{Bool, true, false, cond, not}
use mathlib.Core.List.{List, [], append-nil}
use native.Mathlib.Omega.{arith}
use lib.Dec.{eqb}
use native.Mathlib.Nat.{add-zero}
use lib.ListN.{length, length-take, take-append-drop}
use borrow.Author.Tests.{eq-eqb, ne_eqb, eqb-true, eqb-false, lt-leb, not-true}
use Rattle.bits.specs.Texts.{pack, pack_to, bytes_for}
use Rattle.bits.proofs.Texts.{length-bits}
use Rattle.rules.specs.Lengths.{whole_units}
use Rattle.rules.specs.Rules.{units_in}
use Rattle.rules.proofs.Taken.{unit_bounds}
use Rattle.questions.specs.Questions.{ask, units_ok, max_units, feed_questions}
use Rattle.modes.specs.declared.session.Session.{Session}
use Rattle.modes.specs.declared.session.Fed.{Fed}
use Rattle.modes.specs.Sessions.{Arrays, FedWithin, FedBy, fed_text, fed_session, session_text, session_runs, feed_number_within, feed_number, written}
use Rattle.modes.specs.Promises.{RefusedUnchanged, ExactlyTheNamed, AcceptedExact, NothingFed, ClosesAfterShort, PastTheLimit}
use Rattle.questions.proofs.QuestionLaws.{FeedTaken, feed_taken}
use Rattle.modes.proofs.WrittenLaws.{written-before, written_behind, written-text, written-spare, written-size}
use Rattle.modes.proofs.SessionLaws.{Ready, text-length, text-none, fed-none}

-- A refused feed, whatever the limit of units.
pub refused_same : {limit : ℕ} {s : Session} {input : List ℕ} {count : ℕ} {out : List ℕ} {place : ℕ} {r : Fed} {after : List ℕ}
    → FedWithin limit s input count out place r after → (r.number ≡ 0 → ⊥) → (r.session ≡ s) × (after ≡ out)
refused_same {limit} {s} {input} {count} {out} {place} fed refused =
    let nay = ne_eqb (feed_number_within limit s (length input) count (length out) place) 0 (λ e. refused (fed.answer ∙ e)) in
    (rw nay at fed.session, rw nay at fed.output)

pub refused_unchanged : RefusedUnchanged
unfolding RefusedUnchanged
refused_unchanged s input count out place r after fed refused = refused_same fed refused

-- An accepted feed, whatever the limit of units.
module _ {limit : ℕ} {s : Session} {input : List ℕ} {count : ℕ} {out : List ℕ} {place : ℕ} {r : Fed} {after : List ℕ}
    (fed : FedWithin limit s input count out place r after) (accepted : r.number ≡ 0) where
  pub asked : FeedTaken limit s.mode s.rounds s.n s.m s.closed s.units (length input) count (length out) place
  unfolding feed_number_within
  asked = feed_taken limit s.mode s.rounds s.n s.m s.closed s.units (length input) count (length out) place (sym fed.answer ∙ accepted)

  pub accepted-not-closed : s.closed ≡ false
  accepted-not-closed = asked.not_closed

  pub accepted-count : length (fed_text input count) ≡ count
  unfolding fed_text
  accepted-count = simp (length-take, length-bits) (omega (arith, asked.there))

  pub accepted-whole : whole_units s.mode s.n (length (fed_text input count)) ≡ true
  accepted-whole = rw accepted-count asked.whole

  pub accepted-ready : Arrays s → Ready s
  accepted-ready arrays = record { arrays = arrays; rounds_good = asked.rounds_good; unit = asked.unit }

  number-zero : eqb (feed_number_within limit s (length input) count (length out) place) 0 ≡ true
  number-zero = eq-eqb (feed_number_within limit s (length input) count (length out) place) 0 (sym fed.answer ∙ accepted)

  pub accepted-session : r.session ≡ fed_session s (fed_text input count)
  accepted-session = rw number-zero at fed.session

  pub accepted-runs : r.runs ≡ session_runs s (fed_text input count)
  accepted-runs = rw number-zero at fed.runs

  pub accepted-output : after ≡ written out place (session_text s (fed_text input count))
  accepted-output = rw number-zero at fed.output

  pub accepted-named : Arrays s → ExactlyTheNamed s input count out place after
  accepted-named arrays =
      let x = session_text s (fed_text input count) in
      let size : length x ≡ count = text-length (accepted-ready arrays) (fed_text input count) accepted-whole ∙ accepted-count in
      rw accepted-output
      (record {
        same_size = written-size out place x asked.inside (rw size asked.room);
        before = written-before out place x asked.inside;
        behind = rw size at (written_behind out place x asked.inside);
        text = rw size at (written-text out place x asked.inside);
        spare = rw size at (written-spare out place x asked.inside);
      })

pub accepted_exact : AcceptedExact
unfolding AcceptedExact
accepted_exact s input count out place r after arrays fed accepted = accepted-named fed accepted arrays

-- ---- the runs

pub refused_runs : {s : Session} {input : List ℕ} {count : ℕ} {out : List ℕ} {place : ℕ} {r : Fed} {after : List ℕ}
    → FedBy s input count out place r after → (r.number ≡ 0 → ⊥) → r.runs ≡ 0
refused_runs {s} {input} {count} {out} {place} fed refused =
    rw (ne_eqb (feed_number s (length input) count (length out) place) 0 (λ e. refused (fed.answer ∙ e))) at fed.runs

-- Refused or accepted, as many units are done as runs were made.
pub runs_done : {s : Session} {input : List ℕ} {count : ℕ} {out : List ℕ} {place : ℕ} {r : Fed} {after : List ℕ}
    → FedBy s input count out place r after → r.session.units ≡ s.units + r.runs
unfolding fed_session session_runs
runs_done {s} {input} {count} {out} {place} fed =
    ap (λ (t : Session). t.units) fed.session
    ∙ by_answer (eqb (feed_number s (length input) count (length out) place) 0)
    ∙ ap (λ (k : ℕ). s.units + k) (sym fed.runs)
  where
    by_answer : (b : Bool) → (cond b (fed_session s (fed_text input count)) s).units ≡ s.units + cond b (session_runs s (fed_text input count)) 0
    by_answer true = refl
    by_answer false = sym (add-zero s.units)

-- ---- the limit of units

pub units_within : {limit : ℕ} {s : Session} {input : List ℕ} {count : ℕ} {out : List ℕ} {place : ℕ} {r : Fed} {after : List ℕ}
    → FedWithin limit s input count out place r after → s.units ≤ limit → r.session.units ≤ limit
unfolding fed_session
units_within {limit} {s} {r = r} fed before = by_number (eqb r.number 0) refl
  where
    by_number : (b : Bool) → eqb r.number 0 ≡ b → r.session.units ≤ limit
    by_number true e =
        let number = eqb-true r.number 0 e in
        rw (accepted-session fed number, accepted-count fed number) (asked fed number).counted
    by_number false e = rw (refused_same fed (eqb-false r.number 0 e)).0 before

pub past_the_limit : PastTheLimit
unfolding PastTheLimit feed_number_within feed_questions units_ok ask
past_the_limit s bytes count size place past = rw (lt-leb (s.units + units_in s.n count) max_units past)

-- ---- a feed of 0 bits, and closing

written_none : (out : List ℕ) (place : ℕ) → written out place [] ≡ out
unfolding written pack pack_to bytes_for
written_none out place = rw (add-zero, append-nil) (take-append-drop place out)

pub nothing_fed : NothingFed
unfolding NothingFed RefusedUnchanged fed_text
nothing_fed s input out place r after fed = by_number (eqb r.number 0) refl
  where
    by_number : (b : Bool) → eqb r.number 0 ≡ b → (r.session ≡ s) × (after ≡ out)
    by_number false e = refused_unchanged s input 0 out place r after fed (eqb-false r.number 0 e)
    by_number true e =
        let number = eqb-true r.number 0 e in
        let some = (unit_bounds s.mode s.n (asked fed number).unit).0 in (
          accepted-session fed number ∙ fed-none s some (asked fed number).not_closed,
          accepted-output fed number ∙ ap (written out place) (text-none s some) ∙ written_none out place,
        )

pub closes_after_short : ClosesAfterShort
unfolding ClosesAfterShort fed_session
closes_after_short s input count out place r after fed accepted =
    let closed : r.session.closed ≡ not (eqb (count % s.n) 0) = ap (λ (t : Session). t.closed) (accepted-session fed accepted) ∙ rw (accepted-count fed accepted) in
    (λ yes. eqb-false (count % s.n) 0 (not-true _ (sym closed ∙ yes)), λ short. closed ∙ rw (ne_eqb (count % s.n) 0 short))
