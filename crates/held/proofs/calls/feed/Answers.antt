-- `held::calls::feed` meets its contract: the struct is read, then the session is fed (`CallLaws`). Assumes nothing.
use mathlib.Core.Path.{refl, ◌∙◌}
use native.Mathlib.Omega.{arith}
use borrow.Author.Tests.{ne_eqb}
use Rattle.held.proofs.CallLaws.{not-fed, fed}
use Rattle.held.proofs.calls.feed.Goals.{then-fed-eq0, else-fed-eq0}
use Rattle.held.proofs.calls.feed.Goals as goal

pub returns-in_default : goal.returns-in_default
returns-in_default c = not-fed _ _ _ _ _ (omega (arith, c.in_default.ensures)) refl refl refl

pub returns : goal.returns
returns c =
    fed _ _ _ _ _ {f = c.feed-fed.result} (omega (arith, c.in-Ok.ensures.0)) c.in-Ok.ensures.1 c.feed-fed.ensures c.into.ensures
    (elim c.if-fed-eq0.branch [
      | then-fed-eq0 w ↦ rw w.if-fed-eq0.true (w.next-is ∙ w.moved-next.ensures)
      | else-fed-eq0 w ↦ rw (ne_eqb c.feed-fed.result.number 0 w.if-fed-eq0.false) w.next-is
    ])
    refl
