-- The cases of `temp` (`WordLaws`); the table holds SubBytes at every byte of the word. Assumes nothing.
use Rattle.std.proofs.Common.{sym, ap, ap₂, ◌∙◌, [], ◌∷◌, arith}
use Rattle.bits.specs.Xor.{xor_bytes}
use Rattle.bits.specs.Blocks.{Bytes}
use Rattle.bits.proofs.Arrays.{array_bytes}
use Rattle.field.specs.Rows.{four}
use Rattle.expansion.specs.KeyExpansion.{rot_word, rcon}
use Rattle.expansion.proofs.WordLaws.{table_word, rot_word_bytes, temp-first, temp-middle, temp-other, temp-short}
use Rattle.expansion.proofs.temp_word.Goals as goal

pub returns-in-0 : goal.returns-in-0
unfolding rot_word rcon four
returns-in-0 c =
    let a = c.args in
    let h : Bytes a.t = search array_bytes in
    c.xor_word.ensures
    ∙ ap₂ xor_bytes (c.substitute_row.ensures ∙ table_word c.sbox-table.ensures (rot_word_bytes h))
    (ap (λ p. p ∷ 0 ∷ 0 ∷ 0 ∷ []) c.power_of_x.ensures)
    ∙ sym (temp-first a.nk a.i a.t c.in-0.is)

pub returns-in-4 : goal.returns-in-4
returns-in-4 c =
    let a = c.args in
    let h : Bytes a.t = search array_bytes in
    c.substitute_row-in-4.ensures ∙ table_word c.sbox-table.ensures h
    ∙ sym (temp-middle a.nk a.i a.t c.if-nk-gt6.true c.in-4.is)

pub returns-in_default : goal.returns-in_default
returns-in_default c = let a = c.args in sym (temp-short a.nk a.i a.t c.if-nk-gt6.false (λ e. omega arith))

pub returns-in_default-2 : goal.returns-in_default-2
returns-in_default-2 c = let a = c.args in sym (temp-other a.nk a.i a.t (λ e. omega arith) (λ e. omega arith))
