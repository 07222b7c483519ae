-- `bits::register::shift_in` meets its contract. The loop's invariant: i bytes of the shifted register are there.
-- Assumes nothing.
use mathlib.Core.Path.{◌≡◌}
use Prim.Native.Nat.{◌*◌}
use lib.ListN.{take, drop}
use Rattle.bits.specs.Texts.{bits, pack_to}
use Rattle.bits.proofs.register.shift_in.Given as goal

abbrev pub invariant-loop-i : goal.invariant-loop-i
invariant-loop-i l = l.out ≡ pack_to 16 (take (l.i * 8) (drop l.n (bits l.both)))
