-- The unit goes through the block function as a block. Assumes nothing.
use Rattle.bits.proofs.Owned.{arrays}
use Rattle.units.proofs.TurnLaws as Law
use Rattle.units.proofs.unit.Rule.ecb.Goals as goal

pub returns : goal.returns
returns c = Law.ecb-turned _ (search arrays) (search arrays) (search arrays) _ _ c.run-runs.ensures
