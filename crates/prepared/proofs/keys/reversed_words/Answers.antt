-- Zero at first, and then word by word (`FillLaws`). Assumes nothing.
use mathlib.Core.Path.{refl}
use native.Mathlib.Omega.{arith}
use lib.ListN.{length-set}
use Rattle.prepared.specs.Inner.Parts.{reversed_rule}
use Rattle.prepared.proofs.FillLaws.{zero_bytes, zero-next}
use Rattle.prepared.proofs.keys.reversed_words.Goals as goal

pub loop-i-init : goal.loop-i-init
loop-i-init c = (refl, zero_bytes 60 _)

pub loop-i-preserved : goal.loop-i-preserved
unfolding reversed_rule
loop-i-preserved c = let l = c.loop-i in (simp length-set l.invariant.0, zero-next l.reversed l.i _ (omega arith) 60 _ l.invariant.1 c.key_word.ensures)
