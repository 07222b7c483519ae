-- The word of the rounds, by its lowest byte. Assumes nothing.
use Rattle.columns.specs.Inner.Rounds.{rounds_in}
use Rattle.columns.proofs.ByteLaws.{bottom}
use Rattle.columns.proofs.block.rounds_of.Goals as goal

pub returns : goal.returns
unfolding rounds_in
returns c = bottom _
