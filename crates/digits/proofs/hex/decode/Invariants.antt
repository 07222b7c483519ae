-- `digits::hex::decode` meets its contract. The loop's invariant: i bytes are written, and the rest of the output is as
-- it was. Assumes nothing.
use mathlib.Core.Path.{◌≡◌}
use Rattle.bits.proofs.Fills.{filled}
use Rattle.digits.specs.Texts.{hex_bytes}
use Rattle.digits.proofs.hex.decode.Given as goal

abbrev pub invariant-loop-i : goal.invariant-loop-i
invariant-loop-i l = l.out ≡ filled l.initial.out (hex_bytes l.s) l.i
