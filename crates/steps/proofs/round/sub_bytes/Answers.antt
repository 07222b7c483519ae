-- Row by row, each call's entries. Assumes nothing.
use Rattle.field.specs.Rows.{four}
use Rattle.steps.specs.State.{at, state}
use Rattle.steps.specs.Steps.{bytewise}
use Rattle.steps.proofs.round.sub_bytes.Goals as goal

pub returns : goal.returns
unfolding four at state bytewise
returns c = cc
