-- The plain machine of document 01, "Lists of decrypting feeds". It shares the unit rules and the questions with the
-- sessions, and nothing else.
use Rattle.std.specs.Prelude.{ℕ, zero, suc, ◌+◌, Bool, true, false, cond, List, [], ◌∷◌, ◌++◌, eqb, ltb, length, take, drop}
use Rattle.bits.specs.Texts.{bits}
use Rattle.aes.specs.Calls.{key_rounds, encrypted, decrypted}
use Rattle.rules.specs.declared.Mode.{Mode}
use Rattle.rules.specs.Rules.{start, next, plain_unit, units_in}
use Rattle.questions.specs.Questions.{ask, max_units, feed_questions}

-- An opening's arguments, but for the direction.
pub record Opening : Type 0 where
  pub mode : Mode
  pub n : ℕ
  pub m : ℕ
  pub key : List ℕ
  pub iv : List ℕ

pub record Machine : Type 0 where
  pub opening : Opening
  pub register : List ℕ
  pub units : ℕ
  pub closed : Bool
  pub ciphertext : List Bool
  pub plaintext : List Bool

unfoldable pub machine_start : Opening → Machine
machine_start o =
    record { opening = o; register = start o.mode o.iv; units = 0; closed = false; ciphertext = []; plaintext = [] }

-- One unit C: both texts grow, R moves, 1 is added to the units. After a short unit it is closed. Enc and Dec are AES
-- under the opening's key, whose length gives the rounds.
unfoldable pub machine_unit : Machine → List Bool → Machine
machine_unit machine c =
    let o = machine.opening in
    record {
      opening = o;
      register = next (encrypted o.key) (decrypted o.key) o.mode o.m machine.register c;
      units = machine.units + 1;
      closed = cond (ltb (length c) o.n) true machine.closed;
      ciphertext = machine.ciphertext ++ c;
      plaintext = machine.plaintext ++ plain_unit (encrypted o.key) (decrypted o.key) o.mode machine.register c;
    }

-- The first k units of a text, one after the other.
unfoldable pub machine_units : ℕ → Machine → List Bool → Machine
machine_units zero machine x = machine
machine_units (suc k) machine x = machine_units k (machine_unit machine (take machine.opening.n x)) (drop machine.opening.n x)

-- The number that it answers to a feed: the feed's questions, of the arguments and of what it holds.
unfoldable pub machine_number : Machine → ℕ → ℕ → ℕ → ℕ → ℕ
machine_number machine bytes count size place =
    ask (feed_questions max_units machine.opening.mode (key_rounds machine.opening.key) machine.opening.n machine.opening.m machine.closed machine.units bytes count size place)

-- A feed: at a 'no' it keeps all it holds, otherwise it takes the feed's bits unit by unit.
unfoldable pub machine_feed : Machine → List ℕ → ℕ → ℕ → ℕ → Machine
machine_feed machine input count size place =
    cond (eqb (machine_number machine (length input) count size place) 0)
    (machine_units (units_in machine.opening.n count) machine (take count (bits input))) machine

-- R after each unit of a feed, in order.
unfoldable pub unit_registers : ℕ → Machine → List Bool → List (List ℕ)
unit_registers zero machine x = []
unit_registers (suc k) machine x =
    let after = machine_unit machine (take machine.opening.n x) in after.register ∷ unit_registers k after (drop machine.opening.n x)

unfoldable pub feed_registers : Machine → List ℕ → ℕ → ℕ → ℕ → List (List ℕ)
feed_registers machine input count size place =
    cond (eqb (machine_number machine (length input) count size place) 0)
    (unit_registers (units_in machine.opening.n count) machine (take count (bits input))) []
