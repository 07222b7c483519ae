-- Two stores, one after the other (`PartLaws`). Assumes nothing.
use borrow.Author.Rules.{rules}
use Rattle.prepared.proofs.PartLaws.{ends_filled}
use Rattle.prepared.proofs.preparation.fill_ends.Goals as goal

pub returns : goal.returns
returns c =
    let a = c.args in
    ends_filled a.decrypting a.rounds a.prepared.now (search rules) c.rounds_word.ensures (search rules)
