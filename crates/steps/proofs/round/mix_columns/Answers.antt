-- Row by row (`MixRows`). Assumes nothing.
use mathlib.Core.Path.{◌∙◌}
use Rattle.steps.specs.State.{at}
use Rattle.steps.proofs.StateLaws.{rows}
use Rattle.steps.proofs.MixRows.{mixed, mixed_at, mixed_rows}
use Rattle.steps.proofs.round.mix_columns.Goals as goal

pub returns : goal.returns
unfolding at mixed mixed_at
returns c =
    let s = c.args.s in
    rows (mixed_at s) c.mix_row.ensures c.mix_row-2.ensures c.mix_row-3.ensures c.mix_row-4.ensures
    ∙ mixed_rows s
