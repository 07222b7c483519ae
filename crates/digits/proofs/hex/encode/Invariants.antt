-- `digits::hex::encode` meets its contract. The loop's invariant: the digits of i bytes are written, and no other byte
-- is changed. Assumes nothing.
use mathlib.Core.Path.{◌≡◌}
use Prim.Native.Nat.{◌*◌}
use lib.Seq.{paste}
use Rattle.digits.specs.Texts.{hex_text}
use Rattle.digits.proofs.hex.encode.Given as goal

abbrev pub invariant-loop-i : goal.invariant-loop-i
invariant-loop-i l = l.out ≡ paste l.initial.out l.at (hex_text l.bytes) (l.i * 2)
