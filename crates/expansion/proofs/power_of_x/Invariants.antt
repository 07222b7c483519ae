-- After so many turns the value is that power of x. Assumes nothing.
use Rattle.std.proofs.Common.{◌≡◌}
use Rattle.expansion.specs.KeyExpansion.{power}
use Rattle.expansion.proofs.power_of_x.Given as goal

abbrev pub invariant-loop : goal.invariant-loop
invariant-loop l = l.value ≡ power l.counter
