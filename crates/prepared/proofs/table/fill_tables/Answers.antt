-- By cases on the direction. Assumes nothing.
use Rattle.prepared.proofs.TableLaws.{substituted_back, substituted_forward}
use Rattle.prepared.proofs.table.fill_tables.Goals as goal

pub fill_both-requires : goal.fill_both-requires
fill_both-requires c = substituted_back c.if-decrypting.true c.inv_sbox.ensures

pub fill_both-requires-else-decrypting : goal.fill_both-requires-else-decrypting
fill_both-requires-else-decrypting c = substituted_forward c.if-decrypting.false c.sbox.ensures
