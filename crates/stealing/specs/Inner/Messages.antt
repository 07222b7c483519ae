-- What is asked where a message begins.
use Rattle.std.specs.Prelude.{ℕ, ◌*◌, ◌%◌, ◌≤◌, ◌<◌, ◌≡◌, true, false, List, length}
use Rattle.bits.specs.Texts.{bytes_for}
use Rattle.cipher.specs.Cipher.{rounds_ok}
use Rattle.rules.specs.declared.Mode.TheVariants.{Cbc}
use Rattle.questions.specs.Questions.{max_bits}
use Rattle.modes.specs.declared.session.Session.{Session}

-- Of a session at a message's start, of the message and of the room for it.
pub record Begins (s : Session) (input : List ℕ) (count : ℕ) (out : List ℕ) : Type 0 where
  pub mode : s.mode ≡ Cbc
  pub unit : s.n ≡ 128
  pub counter : s.m ≡ 128
  pub rounds_good : rounds_ok s.rounds ≡ true
  pub not_closed : s.closed ≡ false
  pub no_units : s.units ≡ 0
  pub whole_bytes : count % 8 ≡ 0
  pub more_than_16 : 128 < count
  pub small : count ≤ max_bits
  pub there : count ≤ 8 * length input
  pub room : bytes_for count ≤ length out
