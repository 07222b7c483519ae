-- The entries add up byte by byte (`ColumnLaws`). Assumes nothing.
use Rattle.bits.specs.Xor.{xor}
use Rattle.columns.proofs.ColumnLaws.{round-column}
use Rattle.columns.proofs.rounds.round_word.Goals as goal

pub returns : goal.returns
unfolding xor
returns c = round-column c.args.prepared.now c.args.x
