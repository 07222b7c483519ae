-- The rows are joined, added and split again (`MixRows`). Assumes nothing.
use lib.ListN.{get_or}
use Rattle.bits.specs.Xor.{xor}
use Rattle.bits.specs.Blocks.{Bytes}
use Rattle.bits.proofs.Arrays.{array_bytes}
use Rattle.steps.proofs.MixRows.{prepared, prepared-row}
use Rattle.steps.proofs.round.unmix_row.Goals as goal

pub returns : goal.returns
unfolding xor prepared
returns c =
    let a = c.args in
    let ha : Bytes a.a = search array_bytes in
    let hc : Bytes a.c = search array_bytes in
    cc (prepared-row (λ i. get_or a.a i 0) (λ i. get_or a.a i 0) (λ i. get_or a.c i 0) (λ i. get_or a.a i 0) ha.byte ha.byte hc.byte ha.byte)
