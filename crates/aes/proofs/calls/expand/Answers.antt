-- By cases on question 1 (`CallLaws`). Assumes nothing.
use mathlib.Core.Path.{sym, ◌∙◌}
use Rattle.aes.proofs.CallLaws.{key-accepted, key_refused}
use Rattle.aes.proofs.calls.expand.Goals as goal

pub returns-then-not-key_ok : goal.returns-then-not-key_ok
returns-then-not-key_ok c = key_refused _ (sym c.key_ok.ensures ∙ c.if-not-key_ok.true)

pub returns : goal.returns
returns c = key-accepted _ (sym c.key_ok.ensures ∙ c.if-not-key_ok.false) c.round_keys.ensures
