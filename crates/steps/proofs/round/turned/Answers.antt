-- The code is the definition, byte by byte. Assumes nothing.
use Rattle.std.proofs.Common.{rules, get_or, ◌+◌, ◌%◌}
use Rattle.field.specs.Rows.{four}
use Rattle.boxes.proofs.ArrayLaws.{made}
use Rattle.steps.proofs.round.turned.Goals as goal

pub returns : goal.returns
unfolding four
returns c = made _ (λ i. get_or c.args.row ((c.args.by + i) % 4) 0) _ (λ i y f' k. search rules) 0 c.from_fn.ensures.items
