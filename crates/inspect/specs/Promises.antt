-- What is promised of sessions that are alike.
use Rattle.std.specs.Prelude.{◌≡◌, ◌↔◌, true}
use Rattle.modes.specs.declared.session.Session.{Session}
use Rattle.modes.specs.Sessions.{Arrays}
use Rattle.inspect.specs.Alike.{Alike, alike_to}

-- The test's 'yes' is 'alike', both ways.
unfoldable pub AlikeExactly : Type 0
AlikeExactly = (a b : Session) → Arrays a → Arrays b → (alike_to a b ≡ true) ↔ Alike a b
