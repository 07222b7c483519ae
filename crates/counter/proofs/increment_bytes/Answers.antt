-- `counter::increment_bytes` meets its contract. The loop's invariant: the bytes from i on are done, and the number
-- before them still takes 1 in its lowest m - 8 (16 - i) bits. Assumes nothing.
use mathlib.Core.Path.{◌≡◌}
use Prim.Native.Nat.{suc, ◌-◌, ◌+◌, ◌*◌, ◌%◌}
use native.Mathlib.Omega.{arith}
use Rattle.bits.proofs.Owned.{arrays}
use Rattle.counter.proofs.Overflows.{start, over, last, stop, overflow}
use Rattle.counter.proofs.increment_bytes.Goals as goal

pub loop-i-init : goal.loop-i-init
loop-i-init c = (omega arith, start {m = c.args.m} (search arrays) (omega arith))

pub returns-then-out-i : goal.returns-then-out-i
returns-then-out-i c =
    let i = c.loop-i.i - 1 in
    let place : i + suc (16 - c.loop-i.i) ≡ 16 = omega arith in
    stop i place c.loop-i.invariant.1 (omega arith) (omega arith)

pub loop-i-preserved : goal.loop-i-preserved
loop-i-preserved c =
    let m = c.args.m in
    let i = c.loop-i.i in
    let place : i - 1 + suc (16 - i) ≡ 16 = omega arith in
    let e : 16 - (i - 1) ≡ suc (16 - i) = omega arith in
    let fewer : m - 8 * suc (16 - i) ≡ m - 8 * (16 - i) - 8 = omega arith in
    (omega arith, rw (e, fewer) (overflow (i - 1) place c.loop-i.invariant.1 (omega arith) c.if-out-i.false))

-- after the loop the bits that are left are those of no whole byte
pub returns-then-end-gt0 : goal.returns-then-end-gt0
returns-then-end-gt0 c =
    let m = c.args.m in
    let i : c.loop-i.i ≡ c.saturating_sub-end.result = omega arith in
    let left : m - 8 * (16 - c.saturating_sub-end.result) ≡ m % 8 = omega arith in
    last _ (omega arith) (rw (i, left) at c.loop-i.invariant.1) (omega arith) c.plus_one.ensures

pub returns-else-end-gt0 : goal.returns-else-end-gt0
returns-else-end-gt0 c =
    let none : c.loop-i.i ≡ 0 = omega arith in
    over _ _ _ _ (rw none at c.loop-i.invariant.1)
