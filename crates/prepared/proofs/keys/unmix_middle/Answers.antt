-- Word by word (`FillLaws`). Assumes nothing.
use native.Mathlib.Omega.{arith}
use borrow.Author.Rules.{rules}
use lib.ListN.{length-set}
use Rattle.prepared.proofs.FillLaws.{unmixed_none, unmixed-next, unmixed-all}
use Rattle.prepared.proofs.keys.unmix_middle.Goals as goal

pub loop-i-init : goal.loop-i-init
loop-i-init c = (search rules, unmixed_none _)

pub loop-i-preserved : goal.loop-i-preserved
loop-i-preserved c =
    let l = c.loop-i in
    (simp length-set l.invariant.0, unmixed-next l.words l.i _ (omega arith) _ (search rules) l.invariant.1 c.unmix.ensures)

pub returns : goal.returns
returns c = unmixed-all (omega arith) c.loop-i.invariant.1
