-- R goes through the block function, and its first bits are added. Assumes nothing.
use Rattle.bits.proofs.Owned.{arrays}
use Rattle.units.proofs.TurnLaws as Law
use Rattle.units.proofs.unit.Rule.ofb.Goals as goal

pub returns : goal.returns
returns c = Law.ofb-turned _ (search arrays) (search arrays) (search arrays) _ _ c.run-runs.ensures c.xor_block-out.ensures
