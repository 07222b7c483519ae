-- By the direction (`KeyLaws`). Assumes nothing.
use mathlib.Core.Path.{◌≡◌}
use Prim.Native.Nat.{◌-◌}
use borrow.Author.Rules.{rules}
use lib.ListN.{get_or}
use Rattle.field.specs.Rows.{word_at}
use Rattle.columns.specs.Inner.Words.{word_bytes}
use Rattle.prepared.proofs.FillLaws.{placed_as}
use Rattle.prepared.proofs.KeyLaws.{filled-backward, filled-forward}
use Rattle.prepared.proofs.keys.fill_words.Goals as goal

pub returns-then-decrypting : goal.returns-then-decrypting
returns-then-decrypting c =
    let words = c.backward_words-words in
    filled-backward _ _ c.if-decrypting.true words.ensures
    (placed_as (λ i w. w ≡ get_or words.result (i - 1280) 0) c.fill.ensures (λ i l u w h. search rules))

pub returns-else-decrypting : goal.returns-else-decrypting
returns-else-decrypting c =
    filled-forward _ _ c.if-decrypting.false
    (placed_as (λ i w. word_bytes w ≡ word_at c.args.keys.now (i - 1280)) c.fill-else-decrypting.ensures (λ i l u w h. search rules))
