-- The four bytes, highest first, are the number's digits (`RowLaws`). Assumes nothing.
use mathlib.Core.Path.{sym, ◌∙◌}
use Rattle.field.proofs.RowLaws.{split_four}
use Rattle.field.proofs.rows.split_row.Goals as goal

pub returns : goal.returns
returns c = c.to_be_bytes.ensures ∙ sym (split_four c.args.x)
