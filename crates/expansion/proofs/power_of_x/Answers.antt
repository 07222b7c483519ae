-- After so many turns the value is that power of x. Assumes nothing.
use Rattle.std.proofs.Common.{refl, ap, ◌∙◌, add-one}
use Rattle.field.specs.Field.{double}
use Rattle.expansion.specs.KeyExpansion.{power}
use Rattle.expansion.proofs.power_of_x.Goals as goal

pub loop-init : goal.loop-init
unfolding power
loop-init c = refl

pub loop-preserved : goal.loop-preserved
unfolding power
loop-preserved c = rw add-one (c.double-value.ensures ∙ ap double c.loop.invariant)
