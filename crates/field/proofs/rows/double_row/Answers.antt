-- The number's operations work on each of its four bytes (`RowLaws`). Assumes nothing.
use Rattle.bits.specs.Xor.{xor}
use Rattle.field.proofs.RowLaws.{doubled, doubled_row, tops_fit}
use Rattle.field.proofs.rows.double_row.Goals as goal

pub overflow_mul-result : goal.overflow_mul-result
overflow_mul-result c = record { fits = tops_fit c.args.x c.ranges.x.fits }

pub returns : goal.returns
unfolding xor doubled
returns c = doubled_row c.args.x c.ranges.x.fits
