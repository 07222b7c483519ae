-- `padding::append::put_padded`: the loop's invariant: i bytes of the input stand at the front. Assumes nothing.
use mathlib.Core.Path.{◌≡◌}
use Rattle.bits.proofs.Fills.{filled}
use Rattle.padding.proofs.append.put_padded.Given as goal

abbrev pub invariant-loop-i : goal.invariant-loop-i
invariant-loop-i l = l.out ≡ filled l.initial.out l.input l.i
