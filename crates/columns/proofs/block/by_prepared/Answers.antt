-- By cases on the rounds (`RunLaws`). Assumes nothing.
use mathlib.Core.Path.{sym, ◌∙◌}
use Rattle.columns.proofs.RunLaws.{run-rounds, run-refused}
use Rattle.columns.proofs.block.by_prepared.Goals as goal

pub returns-then-rounds_ok : goal.returns-then-rounds_ok
returns-then-rounds_ok c =
    let k = c in
    let n = k in
    let a = n.args in
    c.by_rounds.ensures ∙ sym (run-rounds a.prepared.now a.block n.rounds_of-rounds.ensures (sym k.rounds_ok.ensures ∙ c.if-rounds_ok.true))

pub returns-else-rounds_ok : goal.returns-else-rounds_ok
returns-else-rounds_ok c =
    let k = c in
    let n = k in
    let a = n.args in
    sym (run-refused a.prepared.now a.block n.rounds_of-rounds.ensures (sym k.rounds_ok.ensures ∙ c.if-rounds_ok.false))
