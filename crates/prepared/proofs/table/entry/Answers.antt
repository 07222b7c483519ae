-- By doublings (`DoublingLaws`), and by cases on the direction. Assumes nothing.
use mathlib.Core.Path.{ap, sym, ◌∙◌}
use Rattle.bits.specs.Xor.{xor}
use Rattle.columns.specs.Inner.Words.{word_bytes}
use Rattle.columns.proofs.ByteLaws.{bytes_joined}
use borrow.Author.Rules.{rules}
use Rattle.prepared.specs.Inner.Parts.{column_times}
use Rattle.prepared.proofs.DoublingLaws.{sum_byte, forward_entry, backward_entry}
use Rattle.prepared.proofs.table.entry.Goals as goal

pub returns-then-decrypting : goal.returns-then-decrypting
unfolding xor
returns-then-decrypting c =
    let a = c.args in
    backward_entry a.b c.double-twice.ensures c.double-fourfold.ensures c.double-eightfold.ensures
    (ap word_bytes c.from_le_bytes.ensures ∙ bytes_joined (search (sum_byte, rules)) (search (sum_byte, rules)) (search (sum_byte, rules)) (search (sum_byte, rules)))
    ∙ ap (λ d. column_times d 0 a.b) (sym c.if-decrypting.true)

pub returns-else-decrypting : goal.returns-else-decrypting
unfolding xor
returns-else-decrypting c =
    let a = c.args in
    forward_entry a.b c.double-twice.ensures
    (ap word_bytes c.from_le_bytes-else-decrypting.ensures ∙ bytes_joined (search (sum_byte, rules)) (search (sum_byte, rules)) (search (sum_byte, rules)) (search (sum_byte, rules)))
    ∙ ap (λ d. column_times d 0 a.b) (sym c.if-decrypting.false)
