-- By cases on the direction (`ColumnLaws`). Assumes nothing.
use Rattle.columns.proofs.ColumnLaws.{arranged_back, arranged-same}
use Rattle.columns.proofs.block.arrange.Goals as goal

pub returns-then-decrypting : goal.returns-then-decrypting
returns-then-decrypting c = arranged_back c.args.s c.if-decrypting.true

pub returns-else-decrypting : goal.returns-else-decrypting
returns-else-decrypting c = arranged-same _ c.if-decrypting.false
