-- The invariant: the words so far are there, and the others as they were (`FillLaws`). Assumes nothing.
use Rattle.prepared.specs.Inner.Parts.{Placed}
use Rattle.prepared.proofs.fill.fill.Given as goal

abbrev pub invariant-loop-i : goal.invariant-loop-i
invariant-loop-i g l = Placed l.start l.i (goal.F-post g l.word) l.initial.prepared l.prepared
