-- By cases on the rounds. Assumes nothing.
use mathlib.Core.Path.{◌≡◌, sym, ◌∙◌}
use mathlib.Core.Bool.{true}
use native.Mathlib.Omega.{arith}
use Rattle.cipher.specs.Cipher.{rounds_ok}
use Rattle.cipher.proofs.RoundLaws.{rounds_bounds}
use Rattle.prepared.proofs.preparation.rounds_word.Goals as goal

ok : (c : goal.Then-rounds_ok) → rounds_ok c.args.rounds ≡ true
ok c = sym c.rounds_ok.ensures ∙ c.if-rounds_ok.true

pub overflow_cast-result : goal.overflow_cast-result
overflow_cast-result c = let b = rounds_bounds c.args.rounds (ok c) in omega arith
