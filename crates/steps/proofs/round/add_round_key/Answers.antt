-- Row by row (`StepLaws`). Assumes nothing.
use Rattle.steps.specs.State.{at}
use Rattle.steps.proofs.StepLaws.{add_rows}
use Rattle.steps.proofs.round.add_round_key.Goals as goal

pub returns : goal.returns
unfolding at
returns c = add_rows _ _ _ c.key_row.ensures c.key_row-2.ensures
    c.key_row-3.ensures c.key_row-4.ensures
