-- Demand 3 for two ciphertexts: `RecoveryHolds`. Assumes nothing.
pub mod Runs
pub mod Differ
pub mod Stream
pub mod OneUnit
pub mod Damage
use Prim.Native.Nat.{ℕ, ◌+◌}
use mathlib.Core.Path.{◌≡◌, refl, ap, ◌∙◌}
use mathlib.Core.Bool.{Bool, true, false}
use mathlib.Core.List.{List}
use mathlib.Core.Option.{none, some}
use native.Mathlib.Omega.{arith}
use borrow.Author.Tests.{eqb-true}
use lib.ListN.{length}
use Rattle.bits.specs.Blocks.{Block, BlockCipher}
use Rattle.rules.specs.declared.Mode.{Mode}
use Rattle.rules.specs.declared.Mode.TheVariants.{Ecb, Cbc, Cfb, Ctr}
use Rattle.rules.specs.declared.Direction.TheVariants.{Decrypt}
use Rattle.rules.specs.Lengths.{unit_length_ok, whole_units}
use Rattle.rules.specs.Rules.{start, register_at, worked}
use Rattle.rules.specs.Recovery.{recovery_units}
use Rattle.rules.specs.Promises.{RecoveryAndDamage, RecoveryHolds}
use Rattle.rules.proofs.Taken.{taken, block_unit}
use Rattle.rules.proofs.AnyCounter.{register-any, worked-any}
use Rattle.rules.proofs.Recovering.Runs.{run-register, run-unit}
use Rattle.rules.proofs.Recovering.Damage.{only-block-damaged, one-block-damaged, one-segment-damaged}
use Rattle.rules.proofs.Recovering.Stream.{stream-damage}

stream_not_cfb : (mode : Mode) (n : ℕ) → recovery_units mode n ≡ none → mode ≡ Cfb → ⊥
unfolding recovery_units
stream_not_cfb mode n free cfb = let z : ◌≡◌ {A = ℕ} 0 1 = cc in omega arith

-- ---- with one m

module _ (enc dec : List ℕ → List ℕ) (mode : Mode) (n m : ℕ) (v w : List ℕ) (x y : List Bool) (ciphers : BlockCipher enc dec) (ok : unit_length_ok mode n ≡ true) (wx : whole_units mode n (length x) ≡ true) (wy : whole_units mode n (length y) ≡ true) (bv : Block (start mode v)) (bw : Block (start mode w)) where
  one-counter : RecoveryAndDamage enc dec mode n m m v w x y
  unfolding start unit_length_ok
  one-counter =
      let tx = taken mode n x ok wx in
      let ty = taken mode n y ok wy in
      record {
        run-plain = λ c rec i j k run t. run-unit ciphers m n v w x y i j k run mode ok tx ty bv bw rec t;
        run-registers = λ c rec i j k run t. run-register ciphers m n v w x y i j k run mode ok bv bw rec t;
        one-block-ecb = λ ecb j change.
            let block : n ≡ 128 = eqb-true n 128 (rw ecb at ok) in
            rw (ecb, block) (only-block-damaged ciphers m v (rw ecb at bv) x y (rw (ecb, block) at tx) (rw (ecb, block) at ty) j change);
        one_block = λ cbc same j change.
            let block : n ≡ 128 = eqb-true n 128 (rw cbc at ok) in
            rw (cbc, block, ← same) (one-block-damaged ciphers m v (rw cbc at bv) x y (rw (cbc, block) at tx) (rw (cbc, block) at ty) j change);
        one-segment = λ cfb same j change.
            rw (cfb, ← same) (one-segment-damaged ciphers m v (rw cfb at bv) x y (rw cfb at tx) (rw cfb at ty) j change (rw cfb at ok));
        same_bits = λ free same counters long b.
            let block = block_unit mode n ok (stream_not_cfb mode n free) in
            rw (block, ← same) (stream-damage ciphers m mode (rw block at free) bv x y (rw block at tx) (rw block at ty) long b);
      }

-- ---- with two: a mode that recovers does not look at m

not_counted : (mode : Mode) (n : ℕ) {c : ℕ} → recovery_units mode n ≡ some c → {m m' : ℕ} → mode ≡ Ctr → m ≡ m'
unfolding recovery_units
not_counted mode n rec ctr = let z : ◌≡◌ {A = ℕ} 0 1 = cc in omega arith

pub recovery_holds : RecoveryHolds
unfolding RecoveryHolds recovery_units
recovery_holds enc dec mode n m m' v w x y ciphers ok wx wy bv bw =
    record {
      run-plain = λ c rec i j k run t from upto. rw (← text (not_counted mode n rec)) (one.run-plain c rec i j k run t from upto);
      run-registers = λ c rec i j k run t from upto.
          rw (← register (not_counted mode n rec) (j + t)) (one.run-registers c rec i j k run t from upto);
      one-block-ecb = λ ecb j change. rw (← text (other-mode Ecb ecb refl)) (one.one-block-ecb ecb j change);
      one_block = λ cbc same j change. rw (← text (other-mode Cbc cbc refl)) (one.one_block cbc same j change);
      one-segment = λ cfb same j change. rw (← text (other-mode Cfb cfb refl)) (one.one-segment cfb same j change);
      same_bits = λ free same counters long b. rw (← text counters) (one.same_bits free same (λ ctr. refl) long b);
    }
  where
    one : RecoveryAndDamage enc dec mode n m m v w x y
    one = one-counter enc dec mode n m v w x y ciphers ok wx wy bv bw

    text : (mode ≡ Ctr → m ≡ m') → worked enc dec mode Decrypt n m (start mode w) y ≡ worked enc dec mode Decrypt n m' (start mode w) y
    text counters = worked-any enc dec mode counters Decrypt n (start mode w) y

    register : (mode ≡ Ctr → m ≡ m') → (t : ℕ) → register_at enc dec mode Decrypt n m (start mode w) y t ≡ register_at enc dec mode Decrypt n m' (start mode w) y t
    register counters t = register-any enc dec mode counters Decrypt n (start mode w) y t

    other-mode : (named : Mode) → mode ≡ named → {c : ℕ} → recovery_units named n ≡ some c → mode ≡ Ctr → m ≡ m'
    other-mode named e rec = not_counted mode n (ap (λ (l : Mode). recovery_units l n) e ∙ rec)
