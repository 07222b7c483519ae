-- The code is the definition. Assumes nothing.
use mathlib.Core.Path.{refl}
use Rattle.field.specs.Rows.{four}
use Rattle.steps.specs.State.{state, from_block}
use Rattle.steps.proofs.state.load.Goals as goal

pub returns : goal.returns
unfolding four state from_block
returns c = refl
