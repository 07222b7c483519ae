-- The words are the columns of the state of `rounds_by` before each round. Assumes nothing.
use mathlib.Core.Path.{◌≡◌}
use Prim.Native.Nat.{◌-◌}
use Rattle.steps.specs.State.{from_block}
use Rattle.columns.specs.Inner.Words.{of_words}
use Rattle.columns.specs.Inner.Rounds.{rounds_by, arranged}
use Rattle.columns.proofs.block.by_rounds.Given as goal

abbrev pub invariant-loop-round : goal.invariant-loop-round
invariant-loop-round l = of_words l.s ≡ rounds_by l.prepared (l.round - 1) (arranged l.decrypting (from_block l.fn.block))
