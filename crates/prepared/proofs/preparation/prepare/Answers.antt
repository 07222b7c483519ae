-- The parts, one after the other (`PartLaws`), and what they are for (`PreparedLaws`). Assumes nothing.
use Rattle.prepared.proofs.PartLaws.{all_held}
use Rattle.prepared.proofs.PreparedLaws.{prepared_by}
use Rattle.prepared.proofs.preparation.prepare.Goals as goal

pub returns : goal.returns
returns c =
    let words = c in
    let tables = words in
    let a = tables.args in
    prepared_by a.decrypting a.rounds a.keys.now
    (all_held a.decrypting a.rounds a.keys.now tables.fill_tables.ensures words.fill_words.ensures c.fill_ends.ensures)
