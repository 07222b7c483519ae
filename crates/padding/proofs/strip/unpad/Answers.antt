-- `padding::strip::unpad` meets its contract: where it is accepted, there is a last block. Assumes nothing.
use mathlib.Core.Path.{sym}
use native.Mathlib.Omega.{arith}
use Rattle.padding.proofs.OneLaws.{bits_left}
use Rattle.padding.proofs.AnswerLaws.{unpad_taken, unpad-accepted}
use Rattle.padding.proofs.strip.unpad.Goals as goal

pub overflow_sub-bits : goal.overflow_sub-bits
overflow_sub-bits c = (unpad_taken _ _ (sym c.in_ok-ask_unpad.ensures)).some

pub overflow_sub-result : goal.overflow_sub-result
overflow_sub-result c = omega (arith, c.padding_bits.ensures, (unpad_taken _ _ (sym c.in_ok-ask_unpad.ensures)).some)

pub returns : goal.returns
returns c =
    let a = c.args in
    let zero = sym c.in_ok-ask_unpad.ensures in
    let taken = unpad_taken _ _ zero in
    unpad-accepted a.input.now a.bits zero (bits_left a.input.now a.bits taken.there taken.some c.window-block.ensures c.padding_bits.ensures)
