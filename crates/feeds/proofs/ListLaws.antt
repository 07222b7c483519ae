-- A list of feeds is as one feed of all the bits that were accepted: the text written and the session at the end are
-- that feed's. Assumes nothing.
use Prim.Native.Nat.{◌+◌, ◌%◌, ◌≤◌}
use mathlib.Core.Path.{◌≡◌, refl, sym, ap, ap₂, ◌∙◌}
use mathlib.Core.Bool.{Bool, true, false, true≢false}
use mathlib.Core.List.{List, [], ◌∷◌, ◌++◌, append-nil}
use native.Mathlib.Nat.{add-zero, add_assoc}
use lib.ListN.{length, take, drop}
use borrow.Author.Tests.{eqb-true, eqb-false}
use Rattle.bits.specs.Texts.{bits}
use Rattle.calls.specs.Calls.{empty, call}
use Rattle.calls.proofs.CallLaws.{kept, left_out}
use Rattle.rules.specs.Lengths.{whole_units}
use Rattle.questions.specs.Questions.{max_units}
use Rattle.modes.specs.declared.session.Session.{Session}
use Rattle.modes.specs.Sessions.{fed_text, fed_session, session_text}
use Rattle.feeds.specs.Lists.{Call, FedCall, Feed, fed, Feeds, accepted, fed_bits, written_bits, all_fed, all_written, all_runs}
use Rattle.modes.specs.Promises.{RefusedUnchanged}
use Rattle.feeds.specs.Promises.{AcceptedAlone, RunsAddUp, UnitsStayWithin}
use Rattle.modes.proofs.SessionLaws.{Ready, some_bits, fed-ready, text-none, fed-none, whole_none, whole_fed, text-append, fed-append, whole-units-append}
use Rattle.modes.proofs.FeedLaws.{refused_unchanged, accepted-not-closed, accepted-count, accepted-whole, accepted-session, accepted-named, runs_done, units_within}

-- ---- one call

-- It is refused and changes nothing, or the session is fed its bits and writes what it makes of them.
pub record Refused (s : Session) (c : Call) : Type 0 where
  pub none_fed : fed_bits c ≡ []
  pub none_written : written_bits c ≡ []
  pub session : c.result.session ≡ s

pub record Accepted (s : Session) (c : Call) : Type 0 where
  pub not_closed : s.closed ≡ false
  pub count : length (fed_bits c) ≡ c.count
  pub whole : whole_units s.mode s.n (length (fed_bits c)) ≡ true
  pub text : written_bits c ≡ session_text s (fed_bits c)
  pub session : c.result.session ≡ fed_session s (fed_bits c)

pub data Step (s : Session) (c : Call) : Type 0 where
  refused : accepted c ≡ false → Refused s c → Step s c
  taken : accepted c ≡ true → Accepted s c → Step s c

pub accepted_fed : (c : Call) → accepted c ≡ true → fed_bits c ≡ fed_text c.input c.count
unfolding fed_bits fed_text
accepted_fed c e = rw e

accepted-written : (c : Call) → accepted c ≡ true → written_bits c ≡ take c.count (bits (drop c.place c.after))
unfolding written_bits
accepted-written c e = rw e

pub step : {s : Session} {c : Call} → Ready s → FedCall s c → Step s c
unfolding accepted fed_bits written_bits RefusedUnchanged
step {s} {c} ready f = by_number (accepted c) refl
  where
    by_number : (b : Bool) → accepted c ≡ b → Step s c
    by_number true e =
        let number = eqb-true c.result.number 0 e in
        let bits-fed = accepted_fed c e in
        taken e
        (record {
          not_closed = accepted-not-closed f number;
          count = rw bits-fed (accepted-count f number);
          whole = rw bits-fed (accepted-whole f number);
          text = accepted-written c e ∙ (accepted-named f number ready.arrays).text ∙ ap (session_text s) (sym bits-fed);
          session = accepted-session f number ∙ ap (fed_session s) (sym bits-fed);
        })
    by_number false e =
        let (session, output) = refused_unchanged s c.input c.count c.out c.place c.result c.after f (eqb-false c.result.number 0 e) in
        refused e (record { none_fed = rw e; none_written = rw e; session = session })

pub step_ready : {s : Session} {c : Call} → Ready s → Step s c → Ready c.result.session
step_ready ready (refused e r) = rw r.session ready
step_ready {s} {c} ready (taken e r) = rw r.session (fed-ready ready (fed_bits c) r.whole)

-- ---- a list of calls

-- A closed session takes nothing more.
pub record Shut (s : Session) (calls : List Call) (end : Session) : Type 0 where
  pub none_fed : all_fed calls ≡ []
  pub none_written : all_written calls ≡ []
  pub session : end ≡ s

-- Any other goes as by one feed of the joined text.
pub record AsOne (s : Session) (calls : List Call) (end : Session) : Type 0 where
  pub whole : whole_units s.mode s.n (length (all_fed calls)) ≡ true
  pub text : all_written calls ≡ session_text s (all_fed calls)
  pub session : end ≡ fed_session s (all_fed calls)

pub record Ended (s : Session) (calls : List Call) (end : Session) : Type 0 where
  pub shut : s.closed ≡ true → Shut s calls end
  pub as_one : s.closed ≡ false → AsOne s calls end

module _ {s end : Session} {c : Call} {cs : List Call} where
  refused-shut : Refused s c → Shut s cs end → Shut s (c ∷ cs) end
  unfolding all_fed all_written
  refused-shut r q =
      record { none_fed = ap₂ ◌++◌ r.none_fed q.none_fed; none_written = ap₂ ◌++◌ r.none_written q.none_written; session = q.session }

  refused-one : Refused s c → AsOne s cs end → AsOne s (c ∷ cs) end
  unfolding all_fed all_written
  refused-one r q =
      record { whole = rw r.none_fed q.whole; text = rw (r.none_fed, r.none_written) q.text; session = rw r.none_fed q.session }

  -- after a short unit, and after whole ones
  short-one : Accepted s c → Shut (fed_session s (fed_bits c)) cs end → AsOne s (c ∷ cs) end
  unfolding all_fed all_written
  short-one r q =
      record {
        whole = rw (q.none_fed, append-nil) r.whole;
        text = rw (q.none_fed, q.none_written, append-nil (written_bits c), append-nil (fed_bits c)) r.text;
        session = rw (q.none_fed, append-nil) q.session;
      }

  whole-one : Ready s → Accepted s c → length (fed_bits c) % s.n ≡ 0 → AsOne (fed_session s (fed_bits c)) cs end → AsOne s (c ∷ cs) end
  unfolding all_fed all_written fed_session
  whole-one ready r units q =
      record {
        whole = whole-units-append ready (fed_bits c) (all_fed cs) units ∙ q.whole;
        text = ap₂ ◌++◌ r.text q.text ∙ sym (text-append ready (fed_bits c) (all_fed cs) units);
        session = q.session ∙ sym (fed-append ready (fed_bits c) (all_fed cs) units);
      }

  by-closing : Ready s → Accepted s c → Ended (fed_session s (fed_bits c)) cs end → (b : Bool) → (fed_session s (fed_bits c)).closed ≡ b → AsOne s (c ∷ cs) end
  by-closing ready r q true closed = short-one r (q.shut closed)
  by-closing ready r q false free = whole-one ready r (whole_fed s (fed_bits c) free) (q.as_one free)

  ended-step : Ready s → Step s c → (Ready c.result.session → Ended c.result.session cs end) → Ended s (c ∷ cs) end
  ended-step ready (refused e r) rest =
      let q = (rw r.session at rest) ready in
      record { shut = λ closed. refused-shut r (q.shut closed); as_one = λ free. refused-one r (q.as_one free) }
  ended-step ready (taken e r) rest =
      let q = (rw r.session at rest) (fed-ready ready (fed_bits c) r.whole) in
      record {
        shut = λ closed. absurd (true≢false (sym closed ∙ r.not_closed));
        as_one = λ free. by-closing ready r q (fed_session s (fed_bits c)).closed refl;
      }

pub ended : {s end : Session} {calls : List Call} → Feeds s calls end → Ready s → Ended s calls end
unfolding all_fed all_written
ended {s} empty ready =
    record {
      shut = λ closed. record { none_fed = refl; none_written = refl; session = refl };
      as_one = λ free. record { whole = whole_none s.mode s.n; text = sym (text-none s (some_bits ready)); session = sym (fed-none s (some_bits ready) free) };
    }
ended (call (fed f) feeds) ready = ended-step ready (step ready f) (ended feeds)

-- ---- the runs of a list

runs_added : {s end : Session} {calls : List Call} → Feeds s calls end → end.units ≡ s.units + all_runs calls
unfolding all_runs
runs_added {s} empty = sym (add-zero s.units)
runs_added {s} (call {c = c} {cs = cs} (fed f) rest) =
    runs_added rest ∙ ap (λ k. k + all_runs cs) (runs_done f) ∙ add_assoc s.units c.result.runs (all_runs cs)

-- ---- the limit of units

pub units_stay_within : UnitsStayWithin
unfolding UnitsStayWithin
units_stay_within s end calls before feeds = kept stay feeds before
  where
    stay : (s next : Session) (c : Call) → Feed s c next → s.units ≤ max_units → next.units ≤ max_units
    stay s next c (fed f) = units_within f

pub runs_add_up : RunsAddUp
unfolding RunsAddUp
runs_add_up s end calls feeds = runs_added feeds

-- ---- refused feeds

pub accepted_alone : AcceptedAlone
unfolding AcceptedAlone RefusedUnchanged accepted
accepted_alone s end calls = left_out unchanged
  where
    unchanged : (s next : Session) (c : Call) → Feed s c next → accepted c ≡ false → next ≡ s
    unchanged s next c (fed f) e = (refused_unchanged s c.input c.count c.out c.place c.result c.after f (eqb-false c.result.number 0 e)).0
