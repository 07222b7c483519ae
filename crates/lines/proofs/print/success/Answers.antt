-- `lines::print::success` meets its contract: 0, a space, the digits and a line feed. Assumes nothing.
use native.Mathlib.Omega.{arith}
use Rattle.lines.proofs.WrittenLines.{zero_number}
use Rattle.lines.proofs.print.success.Goals as goal

pub returns : goal.returns
returns c = let a = c.args in
    zero_number a.bytes.now a.out.now (omega arith) (rw c.copy_from_slice.ensures.after at c.encode.ensures)
