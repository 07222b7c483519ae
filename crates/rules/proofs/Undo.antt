-- Whole texts: the result is as long as the text, its units are what the text's units became, and the other direction
-- from the same register goes through the same registers and gives the text back. Assumes nothing.
use Prim.Native.Nat.{ℕ, zero, suc, ◌*◌, ◌≤◌, ◌<◌, min}
use mathlib.Core.Path.{◌≡◌, refl, ap, ◌∙◌}
use mathlib.Core.Bool.{Bool}
use mathlib.Core.List.{List}
use native.Mathlib.Nat.{le_of_lt}
use native.Mathlib.Omega.{arith}
use lib.ListN.{length, length-take}
use lib.Seq.{take_all}
use Rattle.bits.specs.Blocks.{Block, BlockCipher}
use Rattle.rules.specs.declared.Mode.{Mode}
use Rattle.rules.specs.declared.Direction.{Direction}
use Rattle.rules.specs.Rules.{unit_at, units_in, joined, register_at, out_at, worked}
use Rattle.rules.specs.Promises.{other}
use Rattle.rules.proofs.Counts.{unit_there, units_cover}
use Rattle.rules.proofs.Joined.{unit_short, unit_full, joined_same, joined-same-length, joined_units, unit_joined}
use Rattle.rules.proofs.Units.{out-length, out-undo, next-undo}
use Rattle.rules.proofs.Register.{register_at-block}
use Rattle.rules.proofs.Taken.{Taken}

-- What a text becomes, from what its units become.
pub worked_by : (enc dec : List ℕ → List ℕ) (mode : Mode) (dir : Direction) (n m : ℕ) (r : List ℕ) (x : List Bool) (k : ℕ) (f : ℕ → List Bool)
    → units_in n (length x) ≡ k → ((t : ℕ) → t < k → out_at enc dec mode dir n m r x t ≡ f t) → worked enc dec mode dir n m r x ≡ joined k f
unfolding worked
worked_by enc dec mode dir n m r x k f units same = rw units (joined_same k same)

module _ {enc dec : List ℕ → List ℕ} (ciphers : BlockCipher enc dec) (m : ℕ) {mode : Mode} (dir : Direction) {n : ℕ} {r : List ℕ} (block : Block r) {x : List Bool} (text : Taken mode n x) where
  pub registers-block : (t : ℕ) → t ≤ units_in n (length x) → Block (register_at enc dec mode dir n m r x t)
  registers-block t h = register_at-block ciphers m mode dir n block x t (λ s i. text.unit s (omega arith))

  pub out-at-length : (t : ℕ) → t < units_in n (length x) → length (out_at enc dec mode dir n m r x t) ≡ length (unit_at n x t)
  unfolding out_at
  out-at-length t h = out-length ciphers (registers-block t (omega arith)) mode dir (unit_at n x t) (text.unit t h)

  -- The units of a text, joined, are the text.
  units-joined : joined (units_in n (length x)) (unit_at n x) ≡ x
  units-joined = joined_units n x (units_in n (length x)) ∙ take_all (units_in n (length x) * n) x (units_cover (length x) text.some)

  -- What the first t units become.
  pub part_length : (t : ℕ) → t ≤ units_in n (length x) → length (joined t (out_at enc dec mode dir n m r x)) ≡ min (t * n) (length x)
  part_length t h =
      joined-same-length t (out_at enc dec mode dir n m r x) (unit_at n x) (λ s i. out-at-length s (omega arith))
      ∙ ap length (joined_units n x t)
      ∙ length-take (t * n) x

  pub worked-length : length (worked enc dec mode dir n m r x) ≡ length x
  unfolding worked
  worked-length = joined-same-length (units_in n (length x)) (out_at enc dec mode dir n m r x) (unit_at n x) out-at-length ∙ ap length units-joined

  pub worked-unit : (t : ℕ) → t < units_in n (length x) → unit_at n (worked enc dec mode dir n m r x) t ≡ out_at enc dec mode dir n m r x t
  unfolding worked
  worked-unit = unit_joined (units_in n (length x)) (out_at enc dec mode dir n m r x) short full
    where
      short : (t : ℕ) → t < units_in n (length x) → length (out_at enc dec mode dir n m r x t) ≤ n
      short t h = rw (out-at-length t h) (unit_short n x t)

      full : (t : ℕ) → suc t < units_in n (length x) → length (out_at enc dec mode dir n m r x t) ≡ n
      full t h = out-at-length t (omega arith) ∙ unit_full x t (le_of_lt ((unit_there (length x) (suc t) text.some).0 h))

  pub same-registers : (t : ℕ) → t ≤ units_in n (length x)
      → register_at enc dec mode (other dir) n m r (worked enc dec mode dir n m r x) t ≡ register_at enc dec mode dir n m r x t
  unfolding register_at out_at
  same-registers zero h = refl
  same-registers (suc t) h =
      rw (same-registers t (omega arith), worked-unit t h)
      (next-undo ciphers (registers-block t (omega arith)) mode dir m (unit_at n x t) (text.unit t h))

  out-at-undo : (t : ℕ) → t < units_in n (length x) → out_at enc dec mode (other dir) n m r (worked enc dec mode dir n m r x) t ≡ unit_at n x t
  unfolding out_at
  out-at-undo t h =
      rw (same-registers t (omega arith), worked-unit t h) (out-undo ciphers (registers-block t (omega arith)) mode dir (unit_at n x t) (text.unit t h))

  pub worked-undo : worked enc dec mode (other dir) n m r (worked enc dec mode dir n m r x) ≡ x
  worked-undo =
      worked_by enc dec mode (other dir) n m r (worked enc dec mode dir n m r x) (units_in n (length x)) (unit_at n x) (ap (units_in n) worked-length)
      out-at-undo
      ∙ units-joined
