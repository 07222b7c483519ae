-- The entries of the first part, and each later one turned (`FillLaws`, `TableLaws`). Assumes nothing.
use mathlib.Core.Path.{◌≡◌, ap, ◌∙◌}
use Prim.Native.Nat.{◌-◌}
use native.Mathlib.Omega.{arith}
use borrow.Author.Rules.{rules}
use Rattle.columns.specs.Inner.Words.{word_bytes}
use Rattle.columns.proofs.ByteLaws.{turned-one}
use Rattle.prepared.specs.Inner.Parts.{entry_rule}
use Rattle.prepared.proofs.FillLaws.{placed_as, placed_held, held_next}
use Rattle.prepared.proofs.TableLaws.{entry_first, entry-turned}
use Rattle.prepared.proofs.table.fill_table.Goals as goal

pub loop-i-init : goal.loop-i-init
loop-i-init c =
    let a = c.args in
    placed_held
    (placed_as (λ i w. word_bytes w ≡ entry_rule a.decrypting a.last.now i) c.fill.ensures
    (λ i l u w h. entry_first a.decrypting a.last.now i u (search rules)))

pub loop-i-preserved : goal.loop-i-preserved
loop-i-preserved c =
    let l = c.loop-i in
    let one-part-back = l.invariant.word (l.i - 256) (omega arith) in
    held_next l.prepared l.i _ (search rules) _ l.invariant
    (entry-turned _ _ l.i _ (search rules) one-part-back (ap word_bytes c.rotate_left.ensures ∙ turned-one _ (search rules)))
