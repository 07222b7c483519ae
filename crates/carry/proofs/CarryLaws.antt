-- Each part is kept, and a feed whose older answer was not 9 answers the same on the carried session. Assumes nothing.
use Prim.Native.Nat.{ℕ, ◌≤◌}
use mathlib.Core.Path.{◌≡◌, refl, sym, ◌∙◌}
use mathlib.Core.List.{List}
use native.Mathlib.Omega.{arith}
use lib.ListN.{length}
use Rattle.questions.specs.Questions.{max_units}
use Rattle.modes.specs.declared.session.Session.{Session}
use Rattle.modes.specs.declared.session.Fed.{Fed}
use Rattle.modes.specs.Sessions.{FedWithin, FedBy, feed_number_within}
use Rattle.feeds.specs.Lists.{Call}
use Rattle.modes.proofs.FeedLaws.{refused_same, units_within}
use Rattle.carry.specs.declared.Session32.{Session32}
use Rattle.carry.specs.OlderQuestions.{older_max_units}
use Rattle.carry.specs.Older.{Fits, carried, Call32, FedBy32}
use Rattle.carry.specs.Promises.{SameParts, PartsKept, carried_fed, SameFeed, SameAnswer}
use Rattle.carry.proofs.GivenLaws.{given-feed}
use Rattle.carry.proofs.LimitLaws.{same-but-9}

pub parts_kept : PartsKept
unfolding PartsKept carried
parts_kept older s =
    (λ e. rw e (record { mode = refl; direction = refl; n = refl; m = refl; rounds = refl; keys = refl; register = refl; units = refl; closed = refl }), of_parts)
  where
    of_parts : SameParts older s → s ≡ carried older
    of_parts p =
        let e : ◌≡◌ {A = Session} (record { mode = s.mode; direction = s.direction; n = s.n; m = s.m; rounds = s.rounds; keys = s.keys; register = s.register; units = s.units; closed = s.closed }) (carried older) = rw (p.mode, p.direction, p.n, p.m, p.rounds, p.keys, p.register, p.units, p.closed) in
        e

-- ---- one feed

-- Under another limit a feed whose number stays the same gives what it gave.
raised : {lower higher : ℕ} {s : Session} {input : List ℕ} {count : ℕ} {out : List ℕ} {place : ℕ} {r : Fed} {after : List ℕ}
    → FedWithin lower s input count out place r after
    → feed_number_within higher s (length input) count (length out) place ≡ feed_number_within lower s (length input) count (length out) place
    → FedWithin higher s input count out place r after
raised f same =
    record { answer = rw same f.answer; session = rw same f.session; output = rw same f.output; runs = rw same f.runs }

-- The older answer of a feed that was not 9 is today's.
pub raised_32 : (s : Session32) (c : Call32) → FedBy32 s c → (c.number ≡ 9 → ⊥)
    → FedBy (carried s) c.input c.count c.out c.place (carried_fed c) c.after
unfolding carried_fed feed_number_within
raised_32 s c f not-9 =
    let within = (given-feed s c).0 f in
    raised within
    (same-but-9 (carried s).mode (carried s).rounds (carried s).n (carried s).m (carried s).closed (carried s).units (length c.input) c.count (length c.out) c.place older_max_units max_units (omega arith) (λ e. not-9 (within.answer ∙ e)))

-- An older session's units fit again after each feed.
pub fits_after : (s : Session32) (c : Call32) → FedBy32 s c → Fits s → Fits c.session
unfolding Fits carried_fed carried
fits_after s c f fits =
    let few : c.session.units ≤ older_max_units = units_within ((given-feed s c).0 f) (omega (arith, fits)) in
    omega (arith, few)

-- One feed on both.
module _ (s : Session32) (c : Call32) (d : Call) (same : SameFeed c d) (f : FedBy32 s c)
    (g : FedBy (carried s) d.input d.count d.out d.place d.result d.after) where
  pub same-fed : FedBy (carried s) c.input c.count c.out c.place d.result d.after
  same-fed = rw (← same.input, ← same.count, ← same.out, ← same.place) g

  -- refused by both, both stay as they were
  pub both-same : (c.number ≡ 0 → ⊥) → (d.result.number ≡ 0 → ⊥) → (d.result.session ≡ carried c.session) × (d.after ≡ c.after)
  unfolding carried_fed
  both-same refused refused' =
      let (session, output) = refused_same ((given-feed s c).0 f) refused in
      let (session', output') = refused_same same-fed refused' in
      (session' ∙ sym session, output' ∙ sym output)

  pub same_answer : (c.number ≡ 9 → ⊥) → SameAnswer c d
  unfolding carried_fed
  same_answer not-9 =
      let h = raised_32 s c f not-9 in
      record {
        number = same-fed.answer ∙ sym h.answer;
        output = same-fed.output ∙ sym h.output;
        session = same-fed.session ∙ sym h.session;
        runs = same-fed.runs ∙ sym h.runs;
      }
