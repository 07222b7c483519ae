-- The invariant: the entries so far follow their rule (`FillLaws`, `TableLaws`). Assumes nothing.
use Rattle.prepared.specs.Inner.Parts.{Holds, entry_rule}
use Rattle.prepared.proofs.table.fill_table.Given as goal

abbrev pub invariant-loop-i : goal.invariant-loop-i
invariant-loop-i l = Holds l.i (entry_rule l.fn.decrypting l.fn.last) l.prepared
