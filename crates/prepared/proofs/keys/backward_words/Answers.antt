-- By cases on the rounds (`KeyLaws`). Assumes nothing.
use mathlib.Core.Path.{sym, ◌∙◌}
use native.Mathlib.Omega.{arith}
use Rattle.cipher.proofs.RoundLaws.{rounds_bounds}
use Rattle.prepared.proofs.KeyLaws.{scheduled-backward, scheduled-refused}
use Rattle.prepared.proofs.keys.backward_words.Goals as goal

pub reversed_words-requires : goal.reversed_words-requires
reversed_words-requires c = let b = rounds_bounds c.args.rounds (sym c.rounds_ok.ensures ∙ c.if-rounds_ok.true) in omega arith

pub unmix_middle-requires : goal.unmix_middle-requires
unmix_middle-requires c = let b = rounds_bounds c.args.rounds (sym c.rounds_ok.ensures ∙ c.if-rounds_ok.true) in (omega arith, omega arith)

pub returns-then-rounds_ok : goal.returns-then-rounds_ok
returns-then-rounds_ok c = scheduled-backward _ _ (sym c.rounds_ok.ensures ∙ c.if-rounds_ok.true) c.reversed_words.ensures c.unmix_middle.ensures

pub returns-else-rounds_ok : goal.returns-else-rounds_ok
returns-else-rounds_ok c = scheduled-refused _ _ (sym c.rounds_ok.ensures ∙ c.if-rounds_ok.false)
