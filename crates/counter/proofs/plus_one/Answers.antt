-- `counter::plus_one` meets its contract: the code is the definition, and each step fits a byte. Assumes nothing.
use mathlib.Core.Path.{◌≡◌}
use Prim.Native.Nat.{◌*◌, ◌%◌, ◌^◌, ◌≤◌}
use native.Mathlib.Omega.{arith}
use lib.Pow.{pow_mono}
use Rattle.bits.specs.Counter.{plus_one}
use Rattle.bits.proofs.Counting.{plus_one_lt}
use Rattle.counter.proofs.plus_one.Goals as goal

small : (c : goal.Start) → 2 ^ c.args.k ≤ 128
small c = pow_mono {j = 7} (omega arith)

-- the shift is a power
span : (c : goal.Start) → 1 * 2 ^ c.args.k % 256 ≡ 2 ^ c.args.k
span c = omega (arith, small c)

pub overflow_add-result-2 : goal.overflow_add-result-2
unfolding plus_one
overflow_add-result-2 c = rw (span c) (omega (arith, plus_one_lt 8 c.args.k {x = c.args.byte} (omega arith) (omega arith)))

pub returns : goal.returns
unfolding plus_one
returns c = rw (span c)
