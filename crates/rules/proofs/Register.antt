-- What is in the register: a block; and in CFB, after t segments, the last 128 bits of what it held and the segments,
-- so that from 128 bits on nothing of what it held is left. Assumes nothing.
use Prim.Native.Nat.{ℕ, zero, suc, ◌+◌, ◌-◌, ◌*◌, ◌≤◌, ◌<◌}
use mathlib.Core.Path.{◌≡◌, sym, ap, ◌∙◌}
use mathlib.Core.Bool.{Bool}
use mathlib.Core.List.{List, ◌++◌, append-nil, append_assoc}
use native.Mathlib.Nat.{zero-mul, suc-mul}
use native.Mathlib.Omega.{arith}
use lib.ListN.{length, take, drop, length-append, length-take}
use lib.Seq.{drop-drop, drop-append-le, drop-append-add, take-add}
use Rattle.bits.specs.Texts.{bits}
use Rattle.bits.specs.Blocks.{Block, BlockCipher}
use Rattle.bits.proofs.Texts.{bits-block}
use Rattle.rules.specs.declared.Mode.{Mode}
use Rattle.rules.specs.declared.Mode.TheVariants.{Cfb}
use Rattle.rules.specs.declared.Direction.{Direction}
use Rattle.rules.specs.declared.Direction.TheVariants.{Decrypt}
use Rattle.rules.specs.Rules.{next_of, unit_at, register_at}
use Rattle.rules.proofs.Joined.{unit_short, unit_full}
use Rattle.rules.proofs.Formulas.{cfb-next}
use Rattle.rules.proofs.Units.{UnitLength, register-block}

-- A register that was a block is one after t units of the lengths that the mode takes.
pub register_at-block : {enc dec : List ℕ → List ℕ} → BlockCipher enc dec → (m : ℕ) (mode : Mode) (dir : Direction) (n : ℕ) {r : List ℕ} → Block r → (x : List Bool) (t : ℕ)
    → ((s : ℕ) → s < t → UnitLength mode (length (unit_at n x s))) → Block (register_at enc dec mode dir n m r x t)
unfolding register_at
register_at-block ciphers m mode dir n block x zero units = block
register_at-block ciphers m mode dir n block x (suc t) units =
    register-block ciphers (register_at-block ciphers m mode dir n block x t (λ s h. units s (omega arith))) mode dir m (unit_at n x t) (units t (omega arith))

-- ---- CFB

-- The next n bits of x, shifted in after the first k.
shifted_on : (r x : List Bool) (k n : ℕ) → n ≤ length r → k ≤ length x
    → drop n (drop k (r ++ take k x)) ++ take n (drop k x) ≡ drop (k + n) (r ++ take (k + n) x)
shifted_on r x k n h g =
    rw (drop-drop, take-add, ← append_assoc, drop-append-le (k + n) (r ++ take k x) (take n (drop k x)) (simp (length-append, length-take) (omega arith)))

module _ {enc dec : List ℕ → List ℕ} (ciphers : BlockCipher enc dec) (m : ℕ) {r : List ℕ} (block : Block r) (n : ℕ) (short : n ≤ 128) (x : List Bool) where
  pub cfb-block : (t : ℕ) → Block (register_at enc dec Cfb Decrypt n m r x t)
  unfolding UnitLength
  cfb-block t = register_at-block ciphers m Cfb Decrypt n block x t (λ s h. omega (arith, unit_short n x s))

  -- After t segments of n bits of the ciphertext x. (In encryption the register is the same: `same-registers` of Undo.)
  pub cfb-register : (t : ℕ) → t * n ≤ length x → bits (register_at enc dec Cfb Decrypt n m r x t) ≡ drop (t * n) (bits r ++ take (t * n) x)
  unfolding register_at next_of unit_at
  cfb-register zero h = rw zero-mul (sym (append-nil (bits r)))
  cfb-register (suc t) h =
      cfb-next enc dec (cfb-block t) n m (unit_at n x t) (unit_full x t h) short
      ∙ rw (suc-mul, cfb-register t (omega arith)) (shifted_on (bits r) x (t * n) n (omega (arith, bits-block block)) (omega arith))

  -- From 128 bits on, nothing of r.
  pub cfb-register-new : (t : ℕ) → t * n ≤ length x → 128 ≤ t * n
      → bits (register_at enc dec Cfb Decrypt n m r x t) ≡ drop (t * n - 128) (take (t * n) x)
  cfb-register-new t h new =
      let from : length (bits r) + (t * n - 128) ≡ t * n = omega (arith, bits-block block) in
      cfb-register t h ∙ ap (λ (k : ℕ). drop k (bits r ++ take (t * n) x)) (sym from) ∙ drop-append-add (bits r) (take (t * n) x) (t * n - 128)
