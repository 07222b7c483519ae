-- The four bytes, each by its worth, are the number that they write (`RowLaws`). Assumes nothing.
use mathlib.Core.Path.{◌∙◌}
use lib.ListN.{get_or}
use Rattle.field.proofs.RowLaws.{join_four}
use Rattle.field.proofs.rows.join_row.Goals as goal

pub returns : goal.returns
returns c = c.from_be_bytes.ensures ∙ join_four (λ i. get_or c.args.row i 0)
