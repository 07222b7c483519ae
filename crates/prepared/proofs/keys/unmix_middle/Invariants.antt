-- The invariant: the words of the middle are unmixed as far as the loop is, and the others are as they were
-- (`FillLaws`). Assumes nothing.
use mathlib.Core.Path.{◌≡◌}
use lib.ListN.{length}
use Rattle.prepared.specs.Inner.Parts.{Unmixed}
use Rattle.prepared.proofs.keys.unmix_middle.Given as goal

abbrev pub invariant-loop-i : goal.invariant-loop-i
invariant-loop-i l = (length l.words ≡ 60) × Unmixed l.i l.initial.words l.words
