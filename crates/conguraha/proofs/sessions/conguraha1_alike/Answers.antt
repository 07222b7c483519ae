-- `conguraha::sessions::conguraha1_alike` meets its contract: both structs are read, then the sessions are compared
-- (`AnswerLaws`). Assumes nothing.
use mathlib.Core.Path.{refl, ap, ◌∙◌}
use native.Mathlib.Omega.{arith}
use borrow.Author.Tests.{le-ltb}
use Rattle.rules.specs.Numbers.{modes}
use Rattle.held.specs.Held.{flag_of}
use Rattle.conguraha.specs.Sessions.{alike_held}
use Rattle.conguraha.proofs.AnswerLaws.{alike-held, not_alike}
use Rattle.conguraha.proofs.sessions.conguraha1_alike.Goals as goal

pub returns-in_default : goal.returns-in_default
unfolding alike_held flag_of
returns-in_default c = rw (le-ltb c.args.a.mode modes (omega (arith, c.in_default.ensures))) refl

pub returns-in_default-try_from : goal.returns-in_default-try_from
unfolding flag_of
returns-in_default-try_from c = ap flag_of (not_alike c.args.a c.args.b (omega (arith, c.in-Ok.ensures.0)) (omega (arith, c.in_default-try_from.ensures)))

pub returns : goal.returns
returns c =
    c.flag.ensures ∙ ap flag_of (c.alike.ensures ∙ alike-held c.args.a c.args.b (omega (arith, c.in-Ok.ensures.0)) (omega (arith, c.in-Ok-try_from.ensures.0)) c.in-Ok.ensures.1 c.in-Ok-try_from.ensures.1)
