-- Demand 3's registers are request 05's, and the last one: from the register before a feed on, its registers are those
-- before each of its units and the one after it. Assumes nothing.
use Prim.Native.Nat.{ℕ, zero, suc}
use mathlib.Core.Path.{◌≡◌, refl, sym, ap, ap₂, ◌∙◌}
use mathlib.Core.Bool.{Bool}
use mathlib.Core.List.{List, [], ◌∷◌, ◌++◌, append_assoc}
use lib.ListN.{length}
use Rattle.calls.specs.Calls.{empty, call}
use Rattle.rules.specs.Rules.{units_in, register_at}
use Rattle.rules.proofs.Counts.{units_none}
use Rattle.modes.specs.declared.session.Session.{Session}
use Rattle.modes.specs.Sessions.{session_register, fed_session}
use Rattle.feeds.specs.Machine.{Machine}
use Rattle.feeds.specs.Lists.{Call, FedCall, fed, Feeds, fed_bits, along, registers_used, machine_after, registers_after, machine_fed, call_registers}
use Rattle.modes.proofs.SessionLaws.{Ready, some_bits}
use Rattle.feeds.proofs.ListLaws.{Step, refused, taken, step, step_ready}
use Rattle.feeds.proofs.MachineLaws.{session_of}
use Rattle.feeds.proofs.AgreementLaws.{agree}
use Rattle.feeds.proofs.RegisterLaws.{session_registers, refused-registers, accepted-registers}

-- The first and the later ones are those before the last, and the last.
along_last : {A : Type 0} (k : ℕ) (f : ℕ → A) → f 0 ∷ along k (λ t. f (suc t)) ≡ along k f ++ f k ∷ []
unfolding along
along_last zero f = refl
along_last (suc k) f = ap (λ l. f 0 ∷ l) (along_last k (λ t. f (suc t)))

-- A session's registers on a text, from its own on.
registers-before : (s : Session) (x : List Bool) → s.register ∷ session_registers s x ≡ along (units_in s.n (length x)) (session_register s x) ++ (fed_session s x).register ∷ []
unfolding session_registers session_register register_at fed_session
registers-before s x = along_last (units_in s.n (length x)) (session_register s x)

-- One feed: R before each of its units.
abbrev feed_used : Session → Call → List (List ℕ)
feed_used s c = along (units_in s.n (length (fed_bits c))) (session_register s (fed_bits c))

module _ (machine : Machine) {c : Call} (f : FedCall (session_of machine) c) (ready : Ready (session_of machine)) where
  moved : (p : Step (session_of machine) c) {s : Session} → c.result.session ≡ s → s.register ≡ (machine_fed machine c).register
  unfolding session_of
  moved p same = ap (λ (s : Session). s.register) (sym same ∙ (agree machine c f ready p).session)

  feed-used : Step (session_of machine) c → machine.register ∷ call_registers machine c ≡ feed_used (session_of machine) c ++ (machine_fed machine c).register ∷ []
  unfolding session_of along fed_session
  feed-used (refused e r) =
      rw (r.none_fed, units_none (some_bits ready)) (ap₂ ◌∷◌ (moved (refused e r) r.session) (refused-registers machine c f e))
  feed-used (taken e r) =
      ap (λ l. machine.register ∷ l) (accepted-registers machine c f e r)
      ∙ registers-before (session_of machine) (fed_bits c)
      ∙ ap (λ b. feed_used (session_of machine) c ++ b ∷ []) (moved (taken e r) r.session)

pub list_used : {s end : Session} {calls : List Call} → Feeds s calls end → (machine : Machine) → s ≡ session_of machine → Ready s
    → machine.register ∷ registers_after machine calls ≡ registers_used s calls ++ (machine_after machine calls).register ∷ []
unfolding registers_after registers_used machine_after
list_used empty machine same ready = refl
list_used {s} (call {c = c} {cs = cs} (fed f) feeds) machine same ready =
    let g = rw same at f in
    let here = rw same at ready in
    let a = agree machine c g here (step here g) in
    let rest = list_used feeds (machine_fed machine c) a.session (step_ready ready (step ready f)) in
    rw same
    (ap (λ l. l ++ registers_after (machine_fed machine c) cs) (feed-used machine g here (step here g))
    ∙ append_assoc (feed_used (session_of machine) c) ((machine_fed machine c).register ∷ []) (registers_after (machine_fed machine c) cs)
    ∙ ap (λ l. feed_used (session_of machine) c ++ l) rest
    ∙ sym (append_assoc (feed_used (session_of machine) c) (registers_used c.result.session cs) ((machine_after (machine_fed machine c) cs).register ∷ [])))
