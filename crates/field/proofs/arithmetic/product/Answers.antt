-- The invariant: what is added already, and what is left to add, are the product. Assumes nothing.
use Prim.Native.Nat.{◌+◌, ◌*◌, ◌%◌, ◌/◌, ◌-◌}
use mathlib.Core.Path.{◌≡◌, ◌∙◌, sym, ap}
use native.Mathlib.Omega.{arith}
use borrow.Author.Rules.{rules}
use Rattle.bits.specs.Xor.{xor}
use Rattle.bits.proofs.Xor as Xor
use Rattle.field.specs.Field as Field
use Rattle.field.proofs.FieldLaws.{shift_add_step, shift_add_none, digit_byte, double_byte}
use Rattle.field.proofs.arithmetic.product.Goals as goal

pub loop-init : goal.loop-init
unfolding Field.product
loop-init c = (Xor.zero_left _, search rules)

pub overflow_mul-sum : goal.overflow_mul-sum
overflow_mul-sum c = record { fits = digit_byte _ _ c.loop.invariant.1 }

pub loop-preserved : goal.loop-preserved
unfolding xor
loop-preserved c =
    let l = c.loop in
    let fewer : 8 - (l.counter + 1) ≡ 8 - l.counter - 1 = omega arith in (
      rw fewer
          (ap (λ t. xor (xor l.sum (l.digits % 2 * l.term)) (Field.shift_add (8 - l.counter - 1) (l.digits / 2) t)) c.double-term.ensures
          ∙ shift_add_step (8 - l.counter) l.sum l.digits l.term (omega arith) ∙ l.invariant.0),
      rw c.double-term.ensures (double_byte l.term),
    )

pub returns : goal.returns
unfolding xor
returns c =
    let l = c.loop in
    sym (shift_add_none (8 - l.counter) l.sum l.digits l.term (omega arith)) ∙ l.invariant.0
