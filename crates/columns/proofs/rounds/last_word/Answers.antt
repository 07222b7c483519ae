-- Byte by byte (`ColumnLaws`). Assumes nothing.
use mathlib.Core.Path.{◌≡◌, ap, ◌∙◌}
use Prim.Native.Nat.{◌+◌, ◌%◌}
use borrow.Author.Rules.{rules}
use lib.ListN.{get_or}
use Rattle.bits.proofs.Owned.{arrays}
use Rattle.columns.specs.Inner.Words.{word_bytes}
use Rattle.columns.proofs.ColumnLaws.{last-column}
use Rattle.bits.proofs.Made.{made_each}
use Rattle.columns.proofs.rounds.last_word.Goals as goal

pub returns : goal.returns
returns c =
    let a = c.args in
    ap word_bytes c.from_le_bytes.ensures
    ∙ last-column a.prepared.now a.x _ (search arrays)
    (made_each 0 (λ k y. y ≡ get_or a.prepared.now (1024 + get_or a.x k 0) 0 % 256) c.from_fn.ensures.items (λ k h y q call. search rules))
