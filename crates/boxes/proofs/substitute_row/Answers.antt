-- The entries of the table, one by one. Assumes nothing.
use Rattle.std.proofs.Common.{rules, get_or}
use Rattle.field.specs.Rows.{four}
use Rattle.boxes.proofs.ArrayLaws.{mapped}
use Rattle.boxes.proofs.substitute_row.Goals as goal

pub returns : goal.returns
unfolding four
returns c = mapped _ (λ b. get_or c.args.table.now b 0) _ (λ x y f' k. search rules) 0 0 c.map.ensures.items
