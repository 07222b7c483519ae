-- What open and feed give, for all arguments: the number, the session, every byte of the output, and the runs of the
-- block cipher.
use Rattle.std.specs.Prelude.{ℕ, ◌+◌, ◌%◌, ◌≡◌, Bool, true, false, cond, not, List, ◌++◌, eqb, length, take, drop, replicate}
use Rattle.bits.specs.Texts.{bits, pack}
use Rattle.bits.specs.Blocks.{Bytes, Block}
use Rattle.cipher.specs.Cipher.{Enc, Dec}
use Rattle.aes.specs.Calls.{key_rounds, key_bytes}
use Rattle.rules.specs.declared.Mode.{Mode}
use Rattle.rules.specs.declared.Mode.TheVariants.{Ecb}
use Rattle.rules.specs.declared.Direction.{Direction}
use Rattle.rules.specs.declared.Direction.TheVariants.{Encrypt}
use Rattle.rules.specs.Rules.{start, units_in, register_at, worked}
use Rattle.modes.specs.declared.session.Session.{Session}
use Rattle.modes.specs.declared.session.Opened.{Opened}
use Rattle.modes.specs.declared.session.Fed.{Fed}
use Rattle.questions.specs.Questions.{ask, max_units, open_questions, feed_questions}

-- What a session's type says of its arrays, and the lists of a contract do not: 16 register bytes, and 240 key bytes.
pub record Arrays (s : Session) : Type 0 where
  pub register : Block s.register
  pub keys : Bytes s.keys
  pub keys_size : length s.keys ≡ 240

-- ---- open

unfoldable pub open_number : Mode → ℕ → ℕ → List ℕ → List ℕ → ℕ
open_number mode n m key iv = ask (open_questions mode n m key iv)

-- A refused opening: a closed ECB encrypting session with n, m, rounds, units and all bytes 0.
unfoldable pub refused_session : Session
refused_session =
    record { mode = Ecb; direction = Encrypt; n = 0; m = 0; rounds = 0; keys = replicate 240 0; register = replicate 16 0; units = 0; closed = true }

unfoldable pub opened_session : Mode → Direction → ℕ → ℕ → List ℕ → List ℕ → Session
opened_session mode dir n m key iv =
    record { mode = mode; direction = dir; n = n; m = m; rounds = key_rounds key; keys = key_bytes key; register = start mode iv; units = 0; closed = false }

pub record OpenedBy (mode : Mode) (dir : Direction) (n m : ℕ) (key iv : List ℕ) (r : Opened) : Type 0 where
  pub answer : r.number ≡ open_number mode n m key iv
  pub opened : r.session ≡ cond (eqb (open_number mode n m key iv) 0) (opened_session mode dir n m key iv) refused_session

-- ---- feed

-- The feed's text: its first bits, from the input's first bit on.
unfoldable pub fed_text : List ℕ → ℕ → List Bool
fed_text input count = take count (bits input)

-- What a session makes of a text, and its register after t units of it.
unfoldable pub session_text : Session → List Bool → List Bool
session_text s x = worked (Enc s.rounds s.keys) (Dec s.rounds s.keys) s.mode s.direction s.n s.m s.register x

unfoldable pub session_register : Session → List Bool → ℕ → List ℕ
session_register s x t = register_at (Enc s.rounds s.keys) (Dec s.rounds s.keys) s.mode s.direction s.n s.m s.register x t

-- The number where a session may do `limit` units.
unfoldable pub feed_number_within : ℕ → Session → ℕ → ℕ → ℕ → ℕ → ℕ
feed_number_within limit s bytes count size place =
    ask (feed_questions limit s.mode s.rounds s.n s.m s.closed s.units bytes count size place)

-- A session whose register was moved by `count` bits: their units are counted, and a short one closes it.
abbrev pub moved_session : Session → List ℕ → ℕ → Session
moved_session s register count =
    record {
      mode = s.mode;
      direction = s.direction;
      n = s.n;
      m = s.m;
      rounds = s.rounds;
      keys = s.keys;
      register = register;
      units = s.units + units_in s.n count;
      closed = not (eqb (count % s.n) 0);
    }

-- The session after an accepted feed of x.
unfoldable pub fed_session : Session → List Bool → Session
fed_session s x = moved_session s (session_register s x (units_in s.n (length x))) (length x)

-- The runs of the block cipher that a text takes: one for each of its units, a short one included.
unfoldable pub session_runs : Session → List Bool → ℕ
session_runs s x = units_in s.n (length x)

-- The output up to the place, the bytes of the text, the output after them.
unfoldable pub written : List ℕ → ℕ → List Bool → List ℕ
written out place x = take place out ++ pack x ++ drop (place + length (pack x)) out

-- What a feed gives where a session may do `limit` units.
pub record FedWithin (limit : ℕ) (s : Session) (input : List ℕ) (count : ℕ) (out : List ℕ) (place : ℕ) (r : Fed) (after : List ℕ) : Type 0 where
  pub answer : r.number ≡ feed_number_within limit s (length input) count (length out) place
  pub session : r.session ≡ cond (eqb (feed_number_within limit s (length input) count (length out) place) 0) (fed_session s (fed_text input count)) s
  pub output : after ≡ cond (eqb (feed_number_within limit s (length input) count (length out) place) 0) (written out place (session_text s (fed_text input count))) out
  pub runs : r.runs ≡ cond (eqb (feed_number_within limit s (length input) count (length out) place) 0) (session_runs s (fed_text input count)) 0

-- ---- the limit of document 01, as request 07 has it

abbrev pub feed_number : Session → ℕ → ℕ → ℕ → ℕ → ℕ
feed_number = feed_number_within max_units

abbrev pub FedBy : Session → List ℕ → ℕ → List ℕ → ℕ → Fed → List ℕ → Type 0
FedBy = FedWithin max_units
