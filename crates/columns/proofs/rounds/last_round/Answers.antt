-- Column by column (`ColumnLaws`). Assumes nothing.
use mathlib.Core.Path.{◌≡◌}
use borrow.Author.Rules.{rules}
use Rattle.field.specs.Rows.{four}
use Rattle.columns.specs.Inner.Words.{word_bytes, of_words}
use Rattle.columns.specs.Inner.Rounds.{drawn, last_column}
use Rattle.columns.proofs.ColumnLaws.{last_rounded}
use Rattle.bits.proofs.Made.{made_each}
use Rattle.columns.proofs.rounds.last_round.Goals as goal

pub returns : goal.returns
returns c =
    let a = c.args in
    last_rounded a.prepared.now a.s _
    (made_each 0 (λ k y. word_bytes y ≡ last_column a.prepared.now (four (drawn (of_words a.s) k))) c.from_fn.ensures.items (λ k h y q call. search rules))
