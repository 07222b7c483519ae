-- OFB's unit, and the register counts up. Assumes nothing.
use Rattle.units.proofs.TurnLaws as Law
use Rattle.units.proofs.unit.Rule.ctr.Goals as goal

pub returns : goal.returns
returns c size le = Law.ctr-turned _ (c.ofb-runs.ensures size le) c.increment_block-register.ensures
