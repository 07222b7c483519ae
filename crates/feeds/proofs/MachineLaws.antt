-- The plain machine, unit by unit: after k units it holds the register, the count and the texts that the unit rules
-- give for the whole text, and it is closed by a short unit. Assumes nothing.
use Prim.Native.Nat.{ℕ, zero, suc, ◌+◌, ◌*◌, ◌%◌, ◌≤◌, ◌<◌}
use mathlib.Core.Path.{◌≡◌, refl, sym, ap, ◌∙◌}
use mathlib.Core.Logic.{◌≢◌}
use mathlib.Core.Bool.{Bool, true, false, not}
use mathlib.Core.List.{List, ◌++◌, append_assoc, append-nil}
use native.Mathlib.Nat.{zero-mul, one-mul, add-zero, le_refl, mul-mod_left, zero-mod}
use native.Mathlib.Numerals.{one-add}
use native.Mathlib.Omega.{arith}
use lib.Dec.{eqb}
use lib.ListN.{length, take, drop}
use lib.Seq.{take_all}
use borrow.Author.Tests.{lt-ltb, le-ltb, eqb-false}
use Rattle.aes.specs.Calls.{key_rounds, key_bytes, encrypted, decrypted}
use Rattle.rules.specs.declared.Direction.TheVariants.{Decrypt}
use Rattle.rules.specs.Rules.{out_of, next_of, unit_at, units_in, joined, register_at, out_at, worked}
use Rattle.rules.proofs.Counts.{units_cover}
use Rattle.rules.proofs.Joined.{unit_from, unit_length, joined_units}
use Rattle.rules.proofs.Taken.{whole_unit}
use Rattle.modes.specs.declared.session.Session.{Session}
use Rattle.modes.specs.Sessions.{session_text, session_register, fed_session}
use Rattle.feeds.specs.Machine.{Machine, machine_unit, machine_units}

-- ---- the first unit of a text

unit_front : (n : ℕ) (x : List Bool) → take n x ≡ unit_at n x 0
unfolding unit_at
unit_front n x = rw zero-mul

unit_behind : (n : ℕ) (x : List Bool) (k : ℕ) → unit_at n (drop n x) k ≡ unit_at n x (suc k)
unit_behind n x k = rw (one-mul, one-add) at (unit_from n x 1 k)

-- A text that is not whole units ends in a short one.
last_short : (n : ℕ) (x : List Bool) (k : ℕ) → 0 < n → (length x % n ≡ 0 → ⊥) → units_in n (length x) ≡ suc k → length (unit_at n x k) < n
last_short n x k some rest count =
    let cover : length x ≤ suc k * n = rw count at (units_cover (length x) some) in
    let short : length x ≢ suc k * n = λ e. rest (rw e (mul-mod_left (suc k) n)) in
    rw unit_length (omega arith)

-- ---- the machine after k units

-- One unit more is the last one taken.
unit_more : (k : ℕ) (machine : Machine) (x : List Bool) → machine_units (suc k) machine x ≡ machine_unit (machine_units k machine x) (unit_at machine.opening.n x k)
unfolding machine_units machine_unit
unit_more zero machine x = ap (machine_unit machine) (unit_front machine.opening.n x)
unit_more (suc k) machine x =
    unit_more k (machine_unit machine (take machine.opening.n x)) (drop machine.opening.n x)
    ∙ ap (machine_unit (machine_units (suc k) machine x)) (unit_behind machine.opening.n x k)

module _ (machine : Machine) (x : List Bool) where
  units-opening : (k : ℕ) → (machine_units k machine x).opening ≡ machine.opening
  unfolding machine_units machine_unit
  units-opening zero = refl
  units-opening (suc k) = rw unit_more (units-opening k)

  units-done : (k : ℕ) → (machine_units k machine x).units ≡ machine.units + k
  unfolding machine_units machine_unit
  units-done zero = sym (add-zero machine.units)
  units-done (suc k) = rw unit_more (omega (arith, units-done k))

  pub units-register : (k : ℕ)
      → (machine_units k machine x).register ≡ register_at (encrypted machine.opening.key) (decrypted machine.opening.key) machine.opening.mode Decrypt machine.opening.n machine.opening.m machine.register x k
  unfolding machine_units machine_unit register_at next_of
  units-register zero = refl
  units-register (suc k) = rw (unit_more, units-opening k, units-register k)

  units-ciphertext : (k : ℕ) → (machine_units k machine x).ciphertext ≡ machine.ciphertext ++ joined k (unit_at machine.opening.n x)
  unfolding machine_units machine_unit joined
  units-ciphertext zero = sym (append-nil machine.ciphertext)
  units-ciphertext (suc k) = rw (unit_more, units-ciphertext k, append_assoc)

  units-plaintext : (k : ℕ)
      → (machine_units k machine x).plaintext ≡ machine.plaintext ++ joined k (out_at (encrypted machine.opening.key) (decrypted machine.opening.key) machine.opening.mode Decrypt machine.opening.n machine.opening.m machine.register x)
  unfolding machine_units machine_unit joined out_at out_of
  units-plaintext zero = sym (append-nil machine.plaintext)
  units-plaintext (suc k) = rw (unit_more, units-opening k, units-register k, units-plaintext k, append_assoc)

  -- Full units leave it as it was.
  units-kept : (k : ℕ) → ((t : ℕ) → t < k → length (unit_at machine.opening.n x t) ≡ machine.opening.n) → (machine_units k machine x).closed ≡ machine.closed
  unfolding machine_units machine_unit
  units-kept zero full = refl
  units-kept (suc k) full =
      rw (unit_more, units-opening k, full k (omega arith), le-ltb machine.opening.n machine.opening.n (le_refl machine.opening.n))
      (units-kept k (λ t h. full t (omega arith)))

  -- All units of a text, of a machine that is not closed.
  units-closed : 0 < machine.opening.n → machine.closed ≡ false → (machine_units (units_in machine.opening.n (length x)) machine x).closed ≡ not (eqb (length x % machine.opening.n) 0)
  unfolding machine_units machine_unit
  units-closed some free = by-rest (eqb (length x % machine.opening.n) 0) refl
    where
      by_count : (length x % machine.opening.n ≡ 0 → ⊥) → (k : ℕ) → units_in machine.opening.n (length x) ≡ k → (machine_units k machine x).closed ≡ true
      by_count rest zero count =
          let none : length x ≡ 0 = omega (arith, rw count at (units_cover (length x) some)) in
          absurd (rest (rw none (zero-mod machine.opening.n)))
      by_count rest (suc k) count = rw (unit_more, units-opening k, lt-ltb (length (unit_at machine.opening.n x k)) machine.opening.n (last_short machine.opening.n x k some rest count))

      by-rest : (b : Bool) → eqb (length x % machine.opening.n) 0 ≡ b → (machine_units (units_in machine.opening.n (length x)) machine x).closed ≡ not b
      by-rest true e = units-kept (units_in machine.opening.n (length x)) (whole_unit machine.opening.n x some e) ∙ free
      by-rest false e = by_count (eqb-false (length x % machine.opening.n) 0 e) (units_in machine.opening.n (length x)) refl

-- ---- the machine and a session

-- The decrypting session that holds what the machine holds.
unfoldable pub session_of : Machine → Session
session_of machine =
    record {
      mode = machine.opening.mode;
      direction = Decrypt;
      n = machine.opening.n;
      m = machine.opening.m;
      rounds = key_rounds machine.opening.key;
      keys = key_bytes machine.opening.key;
      register = machine.register;
      units = machine.units;
      closed = machine.closed;
    }

-- The machine after all units of a text, where it is not closed.
module _ (machine : Machine) (x : List Bool) (some : 0 < machine.opening.n) where
  pub session-after : machine.closed ≡ false → session_of (machine_units (units_in machine.opening.n (length x)) machine x) ≡ fed_session (session_of machine) x
  unfolding session_of fed_session session_register encrypted decrypted
  session-after free =
      let k = units_in machine.opening.n (length x) in
      rw (units-opening machine x k, units-register machine x k, units-done machine x k, units-closed machine x some free)

  pub ciphertext-after : (machine_units (units_in machine.opening.n (length x)) machine x).ciphertext ≡ machine.ciphertext ++ x
  ciphertext-after =
      units-ciphertext machine x (units_in machine.opening.n (length x))
      ∙ rw (joined_units, take_all (units_in machine.opening.n (length x) * machine.opening.n) x (units_cover (length x) some))

  pub plaintext-after : (machine_units (units_in machine.opening.n (length x)) machine x).plaintext ≡ machine.plaintext ++ session_text (session_of machine) x
  unfolding session_of session_text worked encrypted decrypted
  plaintext-after = units-plaintext machine x (units_in machine.opening.n (length x))
