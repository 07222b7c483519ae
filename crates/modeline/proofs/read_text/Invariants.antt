-- `modeline::read_text` meets its contract: each turn reads at least a byte, into the room that is left. Assumes
-- nothing.
use Rattle.std.proofs.Common.{◌-◌, ◌≤◌, length}
use Rattle.modeline.proofs.read_text.Given as goal

abbrev pub invariant-loop-done : goal.invariant-loop-done
invariant-loop-done l = l.done ≤ length l.input

abbrev pub decreases-loop-done : goal.decreases-loop-done
decreases-loop-done l = length l.input - l.done
