-- The zeros after the key are what is left of 240 (`Filled`). Assumes nothing.
use Rattle.std.proofs.Common.{ap₂, ◌++◌, length}
use Rattle.expansion.proofs.Filled.{drop-replicate}
use Rattle.expansion.proofs.with_key.Goals as goal

pub returns : goal.returns
returns c = ap₂ (λ x y. x ++ y) c.copy_from_slice.ensures.after (drop-replicate 0 (length c.args.key.now) 240)
