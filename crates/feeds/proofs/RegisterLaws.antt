-- The registers that the machine goes through along a list of feeds are those of the unit rules on the joined
-- ciphertext. Assumes nothing.
use Prim.Native.Nat.{ℕ, zero, suc, ◌+◌, ◌%◌, ◌<◌}
use mathlib.Core.Path.{◌≡◌, refl, sym, ap, ap₂, ◌∙◌}
use mathlib.Core.Bool.{Bool, true, false}
use mathlib.Core.List.{List, [], ◌∷◌, ◌++◌, append-nil}
use native.Mathlib.Nat.{suc-add, add-suc, zero-add}
use native.Mathlib.Omega.{arith}
use lib.ListN.{length, get_or}
use Rattle.aes.specs.Calls.{encrypted, decrypted}
use Rattle.calls.specs.Calls.{empty, call}
use Rattle.rules.specs.Rules.{units_in}
use Rattle.rules.proofs.Counts.{units_none}
use Rattle.rules.proofs.Append.{register-first, register-second, units-append}
use Rattle.modes.specs.declared.session.Session.{Session}
use Rattle.modes.specs.Sessions.{session_register, fed_session, fed_text}
use Rattle.feeds.specs.Machine.{Machine, machine_unit, machine_units, unit_registers, feed_registers}
use Rattle.feeds.specs.Lists.{Call, FedCall, fed, Feeds, accepted, fed_bits, all_fed, along, registers_after, call_registers, machine_fed}
use Rattle.modes.proofs.SessionLaws.{Ready, some_bits, bits-of-units, enc_by, dec_by, whole_fed}
use Rattle.feeds.proofs.ListLaws.{Accepted, Step, refused, taken, accepted_fed, step, step_ready, ended}
use Rattle.feeds.proofs.MachineLaws.{session_of, units-register}
use Rattle.feeds.proofs.AgreementLaws.{same_number, agree}

-- ---- f 0, f 1, .. f (k - 1)

module _ {A : Type 0} where
  pub along-length : (k : ℕ) (f : ℕ → A) → length (along k f) ≡ k
  unfolding along
  along-length zero f = refl
  along-length (suc k) f = ap suc (along-length k (λ t. f (suc t)))

  pub along-at : (k : ℕ) (f : ℕ → A) (d : A) (t : ℕ) → t < k → get_or (along k f) t d ≡ f t
  unfolding along
  along-at zero f d t h = absurd (omega arith)
  along-at (suc k) f d zero h = refl
  along-at (suc k) f d (suc t) h = along-at k (λ t. f (suc t)) d t (omega arith)

  pub along-same : (k : ℕ) {f g : ℕ → A} → ((t : ℕ) → t < k → f t ≡ g t) → along k f ≡ along k g
  unfolding along
  along-same zero same = refl
  along-same (suc k) same = ap₂ ◌∷◌ (same 0 (omega arith)) (along-same k (λ t h. same (suc t) (omega arith)))

  pub along-add : (a b : ℕ) (f : ℕ → A) → along (a + b) f ≡ along a f ++ along b (λ t. f (a + t))
  unfolding along
  along-add zero b f = simp zero-add
  along-add (suc a) b f = simp suc-add (ap (λ l. f 0 ∷ l) (along-add a b (λ t. f (suc t))))

-- ---- the registers of a session on a text

unfoldable pub session_registers : Session → List Bool → List (List ℕ)
session_registers s x = along (units_in s.n (length x)) (λ t. session_register s x (suc t))

module _ {s : Session} (ready : Ready s) where
  registers-none : session_registers s [] ≡ []
  unfolding session_registers along
  registers-none = rw (units_none (some_bits ready))

  registers-append : (x y : List Bool) → length x % s.n ≡ 0 → session_registers s (x ++ y) ≡ session_registers s x ++ session_registers (fed_session s x) y
  unfolding session_registers fed_session session_register
  registers-append x y units =
      let k = units_in s.n (length x) in
      let whole = bits-of-units ready x y units in
      rw (units-append (enc_by s) (dec_by s) s.mode s.direction s.n s.m s.register x y k whole (some_bits ready), along-add)
      (ap₂ ◌++◌
      (along-same k (λ t h. register-first (enc_by s) (dec_by s) s.mode s.direction s.n s.m s.register x y k whole (suc t) (omega arith)))
      (along-same (units_in s.n (length y)) (λ t h. rw (← add-suc) (register-second (enc_by s) (dec_by s) s.mode s.direction s.n s.m s.register x y k whole (suc t)))))

-- ---- the machine's registers

unit-registers : (k : ℕ) (machine : Machine) (x : List Bool) → unit_registers k machine x ≡ along k (λ t. (machine_units (suc t) machine x).register)
unfolding unit_registers along machine_units
unit-registers zero machine x = refl
unit-registers (suc k) machine x = ap₂ ◌∷◌ refl (unit-registers k (machine_unit machine _) _)

text_registers : (machine : Machine) (x : List Bool) → unit_registers (units_in machine.opening.n (length x)) machine x ≡ session_registers (session_of machine) x
unfolding session_registers session_of session_register encrypted decrypted
text_registers machine x = unit-registers (units_in machine.opening.n (length x)) machine x ∙ along-same (units_in machine.opening.n (length x)) (λ t h. units-register machine x (suc t))

module _ (machine : Machine) (c : Call) (f : FedCall (session_of machine) c) where
  pub refused-registers : accepted c ≡ false → call_registers machine c ≡ []
  unfolding feed_registers accepted
  refused-registers e = rw (← (same_number machine c f), e)

  pub accepted-registers : accepted c ≡ true → Accepted (session_of machine) c → call_registers machine c ≡ session_registers (session_of machine) (fed_bits c)
  unfolding feed_registers accepted fed_text
  accepted-registers e r =
      taken-all ∙ ap₂ (λ k x. unit_registers (units_in machine.opening.n k) machine x) (sym r.count) (sym (accepted_fed c e)) ∙ text_registers machine (fed_bits c)
    where
      taken-all : call_registers machine c ≡ unit_registers (units_in machine.opening.n c.count) machine (fed_text c.input c.count)
      taken-all = rw (← (same_number machine c f), e)

-- ---- a list of feeds

module _ (machine : Machine) {c : Call} {cs : List Call} {end : Session} (f : FedCall (session_of machine) c)
    (ready : Ready (session_of machine)) (feeds : Feeds c.result.session cs end)
    (rest : registers_after (machine_fed machine c) cs ≡ session_registers c.result.session (all_fed cs)) where
  by-closing : (e : accepted c ≡ true) (r : Accepted (session_of machine) c) (b : Bool) → (fed_session (session_of machine) (fed_bits c)).closed ≡ b
      → call_registers machine c ++ registers_after (machine_fed machine c) cs ≡ session_registers (session_of machine) (fed_bits c ++ all_fed cs)
  by-closing e r true closed =
      let next = step_ready ready (taken e r) in
      let none : all_fed cs ≡ [] = ((ended feeds next).shut (ap (λ (s : Session). s.closed) r.session ∙ closed)).none_fed in
      ap₂ ◌++◌ (accepted-registers machine c f e r) (rest ∙ ap (session_registers c.result.session) none ∙ registers-none next)
      ∙ append-nil (session_registers (session_of machine) (fed_bits c)) ∙ ap (session_registers (session_of machine)) (sym (ap (λ y. fed_bits c ++ y) none ∙ append-nil (fed_bits c)))
  by-closing e r false free =
      ap₂ ◌++◌ (accepted-registers machine c f e r) (rest ∙ ap (λ s. session_registers s (all_fed cs)) r.session)
      ∙ sym (registers-append ready (fed_bits c) (all_fed cs) (whole_fed (session_of machine) (fed_bits c) free))

  by-step : Step (session_of machine) c → call_registers machine c ++ registers_after (machine_fed machine c) cs ≡ session_registers (session_of machine) (fed_bits c ++ all_fed cs)
  by-step (refused e r) =
      ap₂ ◌++◌ (refused-registers machine c f e) (rest ∙ ap (λ s. session_registers s (all_fed cs)) r.session)
      ∙ ap (λ x. session_registers (session_of machine) (x ++ all_fed cs)) (sym r.none_fed)
  by-step (taken e r) = by-closing e r (fed_session (session_of machine) (fed_bits c)).closed refl

pub list_registers : {s end : Session} {calls : List Call} → Feeds s calls end → (machine : Machine) → s ≡ session_of machine → Ready s → registers_after machine calls ≡ session_registers s (all_fed calls)
unfolding registers_after all_fed
list_registers empty machine same ready = sym (registers-none ready)
list_registers (call {c = c} (fed f) feeds) machine same ready =
    let g = rw same at f in
    let here = rw same at ready in
    let a = agree machine c g here (step here g) in
    rw same (by-step machine g here feeds (list_registers feeds (machine_fed machine c) a.session (step_ready ready (step ready f))) (step here g))
