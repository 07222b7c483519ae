-- The word of the direction, by its lowest byte. Assumes nothing.
use mathlib.Core.Path.{ap}
use lib.Dec.{ltb}
use Rattle.columns.specs.Inner.Rounds.{decrypts_by}
use Rattle.columns.proofs.ByteLaws.{bottom}
use Rattle.columns.proofs.block.decrypts.Goals as goal

pub returns : goal.returns
unfolding decrypts_by
returns c = ap (ltb 0) (bottom _)
