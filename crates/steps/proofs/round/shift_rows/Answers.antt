-- Row by row, each call's turn. Assumes nothing.
use Prim.Native.Nat.{◌+◌, ◌%◌}
use Rattle.field.specs.Rows.{four}
use Rattle.steps.specs.State.{at}
use Rattle.steps.specs.Steps.{shift_rows}
use Rattle.steps.proofs.StateLaws.{rows}
use Rattle.steps.proofs.round.shift_rows.Goals as goal

pub returns : goal.returns
unfolding four at shift_rows
returns c =
    let s = c.args.s in
    rows
    (λ r i. at s r ((i + r) % 4))
    c.turned.ensures
    c.turned-2.ensures
    c.turned-3.ensures
    c.turned-4.ensures
