-- The release before request 07: what its opening and its feed gave, lists of its feeds, and its sessions carried over.
-- What a text becomes, and what a key expands to, follows the rules of FIPS 197 and SP 800-38A, which both releases
-- have; they also share how bits are read from the input (`fed_text`) and bytes written to the output (`written`).
use Rattle.std.specs.Prelude.{ℕ, ◌+◌, ◌^◌, ◌<◌, ◌/◌, ◌%◌, ◌≡◌, Bool, true, false, cond, not, List, eqb, length, replicate}
use Rattle.calls.specs.Calls.{Calls}
use Rattle.cipher.specs.Cipher.{Enc, Dec}
use Rattle.expansion.specs.KeyExpansion.{rounds_for, round_keys}
use Rattle.rules.specs.declared.Mode.{Mode}
use Rattle.rules.specs.declared.Mode.TheVariants.{Ecb}
use Rattle.rules.specs.declared.Direction.{Direction}
use Rattle.rules.specs.declared.Direction.TheVariants.{Encrypt}
use Rattle.rules.specs.Rules.{start, register_at, worked}
use Rattle.questions.specs.Questions.{ask}
use Rattle.modes.specs.declared.session.Session.{Session}
use Rattle.modes.specs.Sessions.{fed_text, written}
use Rattle.carry.specs.declared.Session32.{Session32}
use Rattle.carry.specs.OlderQuestions.{older_units, older_open_questions, older_questions}

-- What an older session's type says of its units, and the numbers of a contract do not: they are a number of 32 bits.
unfoldable pub Fits : Session32 → Type 0
Fits s = s.units < 2 ^ 32

-- ---- open

-- A refused opening: a closed ECB encrypting session with n, m, rounds, units and all bytes 0.
unfoldable pub refused_session32 : Session32
refused_session32 =
    record { mode = Ecb; direction = Encrypt; n = 0; m = 0; rounds = 0; keys = replicate 240 0; register = replicate 16 0; units = 0; closed = true }

-- An accepted one: the key's rounds and round keys, R at the IV, no units.
unfoldable pub opened_session32 : Mode → Direction → ℕ → ℕ → List ℕ → List ℕ → Session32
opened_session32 mode dir n m key iv =
    record {
      mode = mode;
      direction = dir;
      n = n;
      m = m;
      rounds = rounds_for (length key / 4);
      keys = round_keys key;
      register = start mode iv;
      units = 0;
      closed = false;
    }

-- What that release's opening gave: a number and a session.
pub record OpenedBy32 (mode : Mode) (dir : Direction) (n m : ℕ) (key iv : List ℕ) (number : ℕ) (s : Session32) : Type 0 where
  pub answer : number ≡ ask (older_open_questions mode n m key iv)
  pub opened : s ≡ cond (eqb (ask (older_open_questions mode n m key iv)) 0) (opened_session32 mode dir n m key iv) refused_session32

-- ---- feed

-- One feed of that release: what it was handed, the number, session and runs that it returned, and the output
-- afterwards.
pub record Call32 : Type 0 where
  pub input : List ℕ
  pub count : ℕ
  pub out : List ℕ
  pub place : ℕ
  pub number : ℕ
  pub session : Session32
  pub runs : ℕ
  pub after : List ℕ

-- The number of its first question answered 'no'.
unfoldable pub feed_number32 : Session32 → Call32 → ℕ
feed_number32 s c = ask (older_questions s (length c.input) c.count (length c.out) c.place)

-- What a session made of a text, and its register after t units of it.
unfoldable pub session_text32 : Session32 → List Bool → List Bool
session_text32 s x = worked (Enc s.rounds s.keys) (Dec s.rounds s.keys) s.mode s.direction s.n s.m s.register x

unfoldable pub session_register32 : Session32 → List Bool → ℕ → List ℕ
session_register32 s x t = register_at (Enc s.rounds s.keys) (Dec s.rounds s.keys) s.mode s.direction s.n s.m s.register x t

-- The session after an accepted feed of x: the register moved by its units, the units counted, closed by a short one.
unfoldable pub fed_session32 : Session32 → List Bool → Session32
fed_session32 s x =
    record {
      mode = s.mode;
      direction = s.direction;
      n = s.n;
      m = s.m;
      rounds = s.rounds;
      keys = s.keys;
      register = session_register32 s x (older_units s.n (length x));
      units = s.units + older_units s.n (length x);
      closed = not (eqb (length x % s.n) 0);
    }

-- What that release's feed gave: the number, the session, every byte of the output, and a run of the block cipher for
-- each unit.
pub record FedBy32 (s : Session32) (c : Call32) : Type 0 where
  pub answer : c.number ≡ feed_number32 s c
  pub session : c.session ≡ cond (eqb (feed_number32 s c) 0) (fed_session32 s (fed_text c.input c.count)) s
  pub output : c.after ≡ cond (eqb (feed_number32 s c) 0) (written c.out c.place (session_text32 s (fed_text c.input c.count))) c.out
  pub runs : c.runs ≡ cond (eqb (feed_number32 s c) 0) (older_units s.n (length (fed_text c.input c.count))) 0

-- It left the session that it returned.
pub data Feed32 : Session32 → Call32 → Session32 → Type 0 where
  fed32 : {s : Session32} {c : Call32} → FedBy32 s c → Feed32 s c c.session

-- That release's feeds, one after the other, take the session s to the session `last`.
abbrev pub Feeds32 : Session32 → List Call32 → Session32 → Type 0
Feeds32 = Calls Feed32

-- ---- carried over

-- Request 07: the count and every other part as it was.
unfoldable pub carried : Session32 → Session
carried s =
    record {
      mode = s.mode;
      direction = s.direction;
      n = s.n;
      m = s.m;
      rounds = s.rounds;
      keys = s.keys;
      register = s.register;
      units = s.units;
      closed = s.closed;
    }
