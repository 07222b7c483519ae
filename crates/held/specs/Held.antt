-- A session as C holds it: the same parts, with numbers in place of mode, direction and closing.
use Rattle.std.specs.Prelude.{ℕ, ◌<◌, ◌≤◌, ◌≡◌, Bool, cond, not, eqb, replicate, Result, Ok, Err}
use Rattle.rules.specs.declared.numbers.NoMode.{NoMode}
use Rattle.rules.specs.Numbers.{modes, mode_number, mode_of, is_decrypt, direction_of}
use Rattle.modes.specs.declared.session.Session.{Session}
use Rattle.held.specs.declared.form.HeldSession.{HeldSession}
use Rattle.held.specs.declared.form.HeldSession32.{HeldSession32}

-- ---- flags

-- Any byte but 0 says yes. Where a flag is made and not handed on, yes is 1.
unfoldable pub is_set : ℕ → Bool
is_set byte = not (eqb byte 0)

unfoldable pub flag_of : Bool → ℕ
flag_of set = cond set 1 0

-- ---- sessions

unfoldable pub session_of : HeldSession → Session
session_of h =
    record {
      mode = mode_of h.mode;
      direction = direction_of (is_set h.decrypting);
      n = h.n;
      m = h.m;
      rounds = h.rounds;
      keys = h.keys;
      register = h.register;
      units = h.units;
      closed = is_set h.closed;
    }

-- A struct with a mode's number is read as the session that it stands for, and any other as none.
abbrev pub StandsFor : HeldSession → Result Session NoMode → Type 0
StandsFor h (Ok s) = (h.mode < modes) × (s ≡ session_of h)
StandsFor h (Err none) = modes ≤ h.mode

-- The spare bytes are 0.
unfoldable pub held_of : Session → HeldSession
held_of s =
    record {
      units = s.units;
      mode = mode_number s.mode;
      n = s.n;
      m = s.m;
      rounds = s.rounds;
      keys = s.keys;
      register = s.register;
      decrypting = flag_of (is_decrypt s.direction);
      closed = flag_of s.closed;
      spare = replicate 6 0;
    }

-- After a feed that left the session s: R, units and closing are its own, and every other field is as it was handed
-- over.
unfoldable pub moved_held : HeldSession → Session → HeldSession
moved_held h s =
    record {
      units = s.units;
      mode = h.mode;
      n = h.n;
      m = h.m;
      rounds = h.rounds;
      keys = h.keys;
      register = s.register;
      decrypting = h.decrypting;
      closed = flag_of s.closed;
      spare = h.spare;
    }

-- ---- the older release

-- Request 07: each part as it was, the mode's number too, where it is no mode's.
unfoldable pub carried_held : HeldSession32 → HeldSession
carried_held h =
    record {
      units = h.units;
      mode = h.mode;
      n = h.n;
      m = h.m;
      rounds = h.rounds;
      keys = h.keys;
      register = h.register;
      decrypting = h.decrypting;
      closed = h.closed;
      spare = replicate 6 0;
    }
