-- `padding::strip::padding_bits`: the loop's invariant: the bytes passed are 0. Assumes nothing.
use mathlib.Core.Path.{◌≡◌}
use Prim.Native.Nat.{◌-◌, ◌*◌}
use Rattle.bits.specs.Texts.{bits}
use Rattle.padding.specs.Padding.{up_to_last_one}
use Rattle.padding.proofs.strip.padding_bits.Given as goal

abbrev pub invariant-loop-n : goal.invariant-loop-n
invariant-loop-n l = up_to_last_one (bits l.block) 128 ≡ up_to_last_one (bits l.block) ((16 - l.n) * 8)
