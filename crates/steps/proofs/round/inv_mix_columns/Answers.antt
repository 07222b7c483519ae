-- Row by row (`MixRows`), then MixColumns. Assumes nothing.
use mathlib.Core.Path.{ap, ◌∙◌}
use Rattle.steps.specs.State.{at}
use Rattle.steps.specs.Steps.{mix_columns}
use Rattle.steps.proofs.StateLaws.{rows}
use Rattle.steps.proofs.MixRows.{prepared, prepared_at, prepared_rows}
use Rattle.steps.proofs.round.inv_mix_columns.Goals as goal

pub returns : goal.returns
unfolding at prepared prepared_at
returns c =
    let s = c.args.s in
    c.mix_columns.ensures
    ∙ ap mix_columns
    (rows (λ r i. prepared_at (λ k. at s k i) r) c.unmix_row.ensures c.unmix_row-2.ensures
    c.unmix_row-3.ensures c.unmix_row-4.ensures)
    ∙ prepared_rows s
