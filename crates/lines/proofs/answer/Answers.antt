-- `lines::answer` meets its contract: the form, then the opening, then the feed (`RequestLines`). Assumes nothing.
use native.Mathlib.Omega.{arith}
use Rattle.lines.proofs.RequestLines.{bad-form, opening-prints, refused_opening, accepted-opening}
use Rattle.lines.proofs.answer.Goals as goal

pub returns-in_default : goal.returns-in_default
returns-in_default c = rw (bad-form _ c.in_default.ensures.form) (rw c.into.ensures at c.refusal.ensures)

pub refusal-requires-then-opening-ne0 : goal.refusal-requires-then-opening-ne0
refusal-requires-then-opening-ne0 c =
    let prints = opening-prints _ c.in-Some.field-0 c.in-Some.ensures.form c.open_with-opened.ensures in
    (omega arith, omega arith)

pub returns-then-opening-ne0 : goal.returns-then-opening-ne0
returns-then-opening-ne0 c =
    rw (refused_opening _ c.in-Some.field-0 c.in-Some.ensures.form c.open_with-opened.ensures (λ z. omega arith)) c.refusal-then-opening-ne0.ensures

pub returns : goal.returns
returns c =
    rw (accepted-opening _ c.in-Some.field-0 c.in-Some.ensures.form c.open_with-opened.ensures (omega arith)) c.feed_all.ensures
