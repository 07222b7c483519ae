-- What is left to do on the state stays the same (`RoundLaws`). Assumes nothing.
use Rattle.std.proofs.Common.{◌≡◌, ◌-◌}
use Rattle.cipher.specs.Cipher.{inv_rounds}
use Rattle.steps.proofs.StateLaws.{StateBytes}
use Rattle.cipher.proofs.block.inv_cipher_block.Given as goal

abbrev pub invariant-loop-round : goal.invariant-loop-round
invariant-loop-round l = StateBytes l.s × (inv_rounds l.keys (l.round - 1) l.s ≡ inv_rounds l.keys (l.rounds - 1) l.initial.s)
