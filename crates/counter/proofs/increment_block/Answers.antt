-- `counter::increment_block` meets its contract: the last byte takes the 1 (`stop`, with no byte after it), or
-- `increment_bytes` does all. Assumes nothing.
use mathlib.Core.Path.{refl}
use native.Mathlib.Omega.{arith}
use Rattle.bits.specs.Blocks.{Block}
use Rattle.bits.proofs.Owned.{arrays}
use Rattle.counter.proofs.Overflows.{start, stop}
use Rattle.counter.proofs.increment_block.Goals as goal

pub returns-then-out : goal.returns-then-out
returns-then-out c =
    let whole : Block c.args.block = search arrays in
    stop 15 refl (start whole refl) (omega arith) (omega arith)
