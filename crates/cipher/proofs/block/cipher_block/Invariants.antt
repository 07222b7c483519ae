-- The state is that of `rounds` before each round (`RoundLaws`). Assumes nothing.
use Rattle.std.proofs.Common.{◌≡◌, ◌-◌}
use Rattle.steps.specs.State.{from_block}
use Rattle.cipher.specs.Cipher.{rounds}
use Rattle.steps.proofs.StateLaws.{StateBytes}
use Rattle.cipher.proofs.block.cipher_block.Given as goal

abbrev pub invariant-loop-round : goal.invariant-loop-round
invariant-loop-round l = StateBytes l.s × (l.s ≡ rounds l.keys (l.round - 1) (from_block l.fn.block))
