-- `held::calls::open` meets its contract: the number is read, then the session is opened (`CallLaws`). Assumes nothing.
use mathlib.Core.Path.{refl, ap, ◌∙◌}
use native.Mathlib.Omega.{arith}
use Rattle.rules.specs.Numbers.{direction_of}
use Rattle.held.specs.Held.{held_of}
use Rattle.held.proofs.CallLaws.{not_opened, opened}
use Rattle.held.proofs.calls.open.Goals as goal

pub returns-in_default : goal.returns-in_default
returns-in_default c = not_opened _ _ _ _ _ _ (omega (arith, c.in_default.ensures)) refl (c.into.ensures ∙ ap held_of c.refused.ensures)

pub returns : goal.returns
returns c =
    opened _ _ _ _ _ _ {o = c.open_counter-opened.result} (omega (arith, c.in-Ok.ensures.0)) c.in-Ok.ensures.1 (c.direction_of-direction.ensures ∙ ap direction_of c.is_set.ensures) c.open_counter-opened.ensures c.into-3.ensures c.into-2.ensures
