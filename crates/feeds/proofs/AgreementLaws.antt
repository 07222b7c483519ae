-- A list of feeds on a decrypting session and the plain machine side by side: the same number, register, units, closing
-- and plaintext after each feed, and the machine's ciphertext is what was fed. Assumes nothing.
use mathlib.Core.Path.{◌≡◌, sym, ap, subst, ◌∙◌}
use mathlib.Core.Bool.{Bool, true, false, cond}
use mathlib.Core.List.{List, ◌∷◌, ◌++◌, append_assoc, append-nil}
use lib.ListN.{length}
use Rattle.calls.specs.Calls.{empty, call}
use Rattle.rules.specs.Rules.{units_in}
use Rattle.modes.specs.declared.session.Session.{Session}
use Rattle.modes.specs.Sessions.{feed_number_within, fed_text}
use Rattle.feeds.specs.Machine.{Machine, machine_units, machine_number, machine_feed}
use Rattle.feeds.specs.Lists.{Call, FedCall, fed, Feeds, accepted, fed_bits, written_bits, all_fed, all_written, machine_after, machine_fed}
use Rattle.feeds.specs.Promises.{AgreesThroughout}
use Rattle.modes.proofs.SessionLaws.{Ready, some_bits}
use Rattle.feeds.proofs.ListLaws.{Refused, Accepted, Step, refused, taken, accepted_fed, step, step_ready}
use Rattle.feeds.proofs.MachineLaws.{session_of, session-after, ciphertext-after, plaintext-after}

-- ---- one feed

-- What the call and the machine's feed have in common.
pub record Agree (machine : Machine) (c : Call) : Type 0 where
  pub session : c.result.session ≡ session_of (machine_fed machine c)
  pub ciphertext : (machine_fed machine c).ciphertext ≡ machine.ciphertext ++ fed_bits c
  pub plaintext : (machine_fed machine c).plaintext ≡ machine.plaintext ++ written_bits c

module _ (machine : Machine) (c : Call) (f : FedCall (session_of machine) c) where
  pub same_number : c.result.number ≡ machine_number machine (length c.input) c.count (length c.out) c.place
  unfolding session_of feed_number_within machine_number
  same_number = f.answer

  machine-fed : machine_fed machine c ≡ cond (accepted c) (machine_units (units_in machine.opening.n c.count) machine (fed_text c.input c.count)) machine
  unfolding machine_feed accepted fed_text
  machine-fed = rw (← same_number)

  refused-agree : accepted c ≡ false → Refused (session_of machine) c → Agree machine c
  refused-agree e r =
      let same : machine_fed machine c ≡ machine = machine-fed ∙ rw e in
      record {
        session = r.session ∙ ap session_of (sym same);
        ciphertext = rw (same, r.none_fed, append-nil);
        plaintext = rw (same, r.none_written, append-nil);
      }

  accepted-agree : Ready (session_of machine) → accepted c ≡ true → Accepted (session_of machine) c → Agree machine c
  unfolding session_of
  accepted-agree ready e r =
      let same : machine_fed machine c ≡ machine_units (units_in machine.opening.n (length (fed_bits c))) machine (fed_bits c) =
      machine-fed ∙ rw (r.count, accepted_fed c e, e)
      in
      record {
        session = r.session ∙ sym (session-after machine (fed_bits c) (some_bits ready) r.not_closed) ∙ ap session_of (sym same);
        ciphertext = rw same (ciphertext-after machine (fed_bits c) (some_bits ready));
        plaintext = rw (same, r.text) (plaintext-after machine (fed_bits c) (some_bits ready));
      }

  pub agree : Ready (session_of machine) → Step (session_of machine) c → Agree machine c
  agree ready (refused e r) = refused-agree e r
  agree ready (taken e r) = accepted-agree ready e r

-- ---- a list of feeds

pub record Beside (machine : Machine) (calls : List Call) (end : Session) : Type 0 where
  pub agrees : AgreesThroughout machine machine.plaintext calls
  pub ciphertext : (machine_after machine calls).ciphertext ≡ machine.ciphertext ++ all_fed calls
  pub plaintext : (machine_after machine calls).plaintext ≡ machine.plaintext ++ all_written calls
  pub session : end ≡ session_of (machine_after machine calls)

beside_step : (machine : Machine) (c : Call) {cs : List Call} {end : Session} → c.result.number ≡ machine_number machine (length c.input) c.count (length c.out) c.place
    → Agree machine c → Beside (machine_fed machine c) cs end → Beside machine (c ∷ cs) end
unfolding AgreesThroughout all_fed all_written machine_after session_of
beside_step machine c {cs} number a q =
    record {
      agrees = record {
        number = number;
        same = record {
          register = ap (λ (s : Session). s.register) a.session;
          units = ap (λ (s : Session). s.units) a.session;
          closed = ap (λ (s : Session). s.closed) a.session;
          text = sym a.plaintext;
        };
        rest = subst (λ (w : List Bool). AgreesThroughout (machine_fed machine c) w cs) a.plaintext q.agrees;
      };
      ciphertext = q.ciphertext ∙ rw (a.ciphertext, append_assoc);
      plaintext = q.plaintext ∙ rw (a.plaintext, append_assoc);
      session = q.session;
    }

pub beside : {s end : Session} {calls : List Call} → Feeds s calls end → (machine : Machine) → s ≡ session_of machine → Ready s → Beside machine calls end
unfolding AgreesThroughout all_fed all_written machine_after
beside empty machine same ready = record { agrees = tt; ciphertext = sym (append-nil machine.ciphertext); plaintext = sym (append-nil machine.plaintext); session = same }
beside (call {c = c} (fed f) feeds) machine same ready =
    let g = rw same at f in
    let here = rw same at ready in
    let a = agree machine c g here (step here g) in
    beside_step machine c (same_number machine c g) a (beside feeds (machine_fed machine c) a.session (step_ready ready (step ready f)))
