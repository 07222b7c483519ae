-- `digits::hex::pair` meets its contract: a digit's value is less than 16, so two of them fit a byte. Assumes nothing.
use Prim.Native.Nat.{◌+◌}
use native.Mathlib.Omega.{arith}
use lib.ListN.{get_or}
use Rattle.digits.proofs.RangeLaws.{value_below}
use Rattle.digits.proofs.hex.pair.Goals as goal

pub overflow_mul-result : goal.overflow_mul-result
overflow_mul-result c =
    let a = c.args in
    omega (arith, c.unwrap_or.ensures, c.value.ensures.value, value_below (get_or a.s.now a.i 0))

pub overflow_add-result : goal.overflow_add-result
overflow_add-result c =
    let a = c.args in
    omega (arith, value_below (get_or a.s.now a.i 0), value_below (get_or a.s.now (a.i + 1) 0))
