-- The rows are joined, added and split again (`MixRows`). Assumes nothing.
use mathlib.Core.Path.{◌∙◌}
use lib.ListN.{get_or}
use Rattle.bits.specs.Xor.{xor}
use Rattle.bits.specs.Blocks.{Bytes}
use Rattle.bits.proofs.Arrays.{array_bytes}
use Rattle.steps.proofs.MixRows.{mixed, mixed-row}
use Rattle.steps.proofs.round.mix_row.Goals as goal

pub returns : goal.returns
unfolding xor mixed
returns c =
    let a = c.args in
    let ha : Bytes a.a = search array_bytes in
    let hb : Bytes a.b = search array_bytes in
    let hc : Bytes a.c = search array_bytes in
    let hd : Bytes a.d = search array_bytes in
    c.split_row.ensures
    ∙ rw (c.double_row-doubled.ensures, c.join_row-second.ensures, c.join_row.ensures, c.join_row-2.ensures, c.join_row-3.ensures)
    (mixed-row (λ i. get_or a.a i 0) (λ i. get_or a.b i 0) (λ i. get_or a.c i 0) (λ i. get_or a.d i 0) ha.byte hb.byte hc.byte hd.byte)
