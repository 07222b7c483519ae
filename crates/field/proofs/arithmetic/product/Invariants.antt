-- The invariant: what is added already, and what is left to add, are the product. Assumes nothing.
use Prim.Native.Nat.{◌-◌, ◌<◌}
use mathlib.Core.Path.{◌≡◌}
use Rattle.bits.specs.Xor.{xor}
use Rattle.field.specs.Field as Field
use Rattle.field.proofs.arithmetic.product.Given as goal

abbrev pub invariant-loop : goal.invariant-loop
invariant-loop l = (xor l.sum (Field.shift_add (8 - l.counter) l.digits l.term) ≡ Field.product l.c l.b) × (l.term < 256)
