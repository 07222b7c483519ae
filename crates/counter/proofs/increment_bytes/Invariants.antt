-- `counter::increment_bytes` meets its contract. The loop's invariant: the bytes from i on are done, and the number
-- before them still takes 1 in its lowest m - 8 (16 - i) bits. Assumes nothing.
use Prim.Native.Nat.{◌≤◌, ◌-◌, ◌*◌}
use Rattle.counter.proofs.Overflows.{Overflowing}
use Rattle.counter.proofs.increment_bytes.Given as goal

abbrev pub invariant-loop-i : goal.invariant-loop-i
invariant-loop-i l = (l.end ≤ l.i) × Overflowing l.m l.initial.out l.out (l.m - 8 * (16 - l.i)) (16 - l.i)
