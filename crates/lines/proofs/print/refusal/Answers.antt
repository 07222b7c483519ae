-- `lines::print::refusal` meets its contract: one digit or two, and a line feed. Assumes nothing.
use mathlib.Core.List.{[]}
use mathlib.Core.Path.{refl}
use native.Mathlib.Omega.{arith}
use Rattle.lines.proofs.WrittenLines.{small_line, large_line}
use Rattle.lines.proofs.print.refusal.Goals as goal

pub returns-then-number-le9 : goal.returns-then-number-le9
returns-then-number-le9 c =
    rw (small_line c.args.number [] (omega arith) (omega arith), c.copy_from_slice.ensures.after) (record { count = refl; bytes = refl })

pub returns : goal.returns
returns c =
    rw (large_line c.args.number [] (omega arith) (omega arith), c.copy_from_slice-2.ensures.after) (record { count = refl; bytes = refl })
