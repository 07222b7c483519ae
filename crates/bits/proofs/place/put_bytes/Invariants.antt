-- `bits::place::put_bytes` meets its contract. The loop's invariant: i bytes are written, and `high` holds the bits of
-- the next one that come from the byte before it. Assumes nothing.
use mathlib.Core.Path.{◌≡◌}
use mathlib.Core.List.{◌∷◌, ◌++◌}
use Prim.Native.Nat.{◌-◌, ◌/◌, ◌^◌}
use lib.ListN.{get_or, take, drop}
use lib.Seq.{paste}
use Rattle.bits.specs.Texts.{bits, pack_to}
use Rattle.bits.proofs.place.put_bytes.Given as goal

abbrev pub invariant-loop-i : goal.invariant-loop-i
invariant-loop-i l = (l.high ≡ get_or (get_or l.initial.out l.first 0 / 2 ^ (8 - l.r) ∷ l.fn.segment) l.i 0) × (l.out ≡ paste l.initial.out l.first (pack_to l.count (take l.r (bits (drop l.first l.initial.out)) ++ bits l.fn.segment)) l.i)
