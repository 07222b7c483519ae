-- The code is the definition, byte by byte. Assumes nothing.
use Rattle.std.proofs.Common.{rules, ◌/◌, ◌%◌}
use Rattle.field.specs.Rows.{four}
use Rattle.boxes.proofs.ArrayLaws.{made}
use Rattle.steps.specs.State.{at, column, to_block}
use Rattle.steps.proofs.state.store.Goals as goal

pub returns : goal.returns
unfolding four at column to_block
returns c = made _ (λ i. at c.args.s (i % 4) (i / 4)) _ (λ i y f' k. search rules) 0 c.from_fn.ensures.items
