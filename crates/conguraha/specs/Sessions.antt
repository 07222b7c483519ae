-- Sessions that C holds, compared.
use Rattle.std.specs.Prelude.{Bool, ◌&&◌, ltb}
use Rattle.rules.specs.Numbers.{modes}
use Rattle.inspect.specs.Alike.{alike_to}
use Rattle.held.specs.declared.form.HeldSession.{HeldSession}
use Rattle.held.specs.Held.{session_of}

-- Both have a mode, and the sessions that they stand for are alike.
unfoldable pub alike_held : HeldSession → HeldSession → Bool
alike_held a b = ltb a.mode modes && ltb b.mode modes && alike_to (session_of a) (session_of b)
