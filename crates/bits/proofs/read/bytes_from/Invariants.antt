-- `bits::read::bytes_from` meets its contract. The loop's invariant: i bytes are there, and `high` is the byte that the
-- next one starts in. Assumes nothing.
use mathlib.Core.Path.{◌≡◌}
use Prim.Native.Nat.{◌+◌, ◌*◌, ◌/◌}
use lib.ListN.{get_or, take, drop}
use Rattle.bits.specs.Texts.{bits, pack_to}
use Rattle.bits.proofs.read.bytes_from.Given as goal

abbrev pub invariant-loop-i : goal.invariant-loop-i
invariant-loop-i l = (l.high ≡ get_or l.s (l.offset / 8 + l.i) 0) × (l.out ≡ pack_to 16 (take (l.i * 8) (drop l.offset (bits l.s))))
