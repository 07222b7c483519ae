-- What the loop over a feed's units may assume, and what it gives.
use Rattle.std.specs.Prelude.{ℕ, ◌*◌, ◌≤◌, ◌≡◌, true, List, ◌++◌, length, take, drop}
use Rattle.bits.specs.Texts.{bits, bytes_for, pack, put_bits}
use Rattle.bits.specs.Blocks.{Bytes}
use Rattle.cipher.specs.Cipher.{Enc, Dec, rounds_ok}
use Rattle.rules.specs.declared.Mode.{Mode}
use Rattle.rules.specs.declared.Direction.{Direction}
use Rattle.rules.specs.Lengths.{unit_length_ok, whole_units}
use Rattle.questions.specs.Questions.{max_bits}
use Rattle.units.specs.Inner.Turns.{Runs}
use Rattle.rules.specs.Rules.{units_in, unit_at, out_of, next_of, register_at, worked}
use Rattle.modes.specs.declared.work.Progress.{Progress}

pub record Workable (mode : Mode) (n : ℕ) (input : List ℕ) (count : ℕ) (out : List ℕ) : Type 0 where
  pub unit_length : unit_length_ok mode n ≡ true
  pub whole : whole_units mode n count ≡ true
  pub within : count ≤ length input * 8
  pub small : count ≤ max_bits
  pub room : bytes_for count ≤ length out

-- The block function f is the one that the mode runs under these rounds and round keys.
pub record RunsUnder (rounds : ℕ) (keys : List ℕ) (mode : Mode) (dir : Direction) (f : List ℕ → List ℕ) : Type 0 where
  pub rounds-ok : rounds_ok rounds ≡ true
  pub keys_bytes : Bytes keys
  pub runs : Runs f (Enc rounds keys) (Dec rounds keys) mode dir

-- Unit t by the block function f, in one run, from the register before it.
pub record UnitWorked (f : List ℕ → List ℕ) (mode : Mode) (dir : Direction) (n m : ℕ) (register input : List ℕ) (count : ℕ) (out : List ℕ) (t : ℕ) (r : Progress) (after : List ℕ) : Type 0 where
  pub register_after : r.register ≡ next_of f f mode dir m register (unit_at n (take count (bits input)) t)
  pub out_after : after ≡ put_bits out (t * n) (out_of f f mode dir register (unit_at n (take count (bits input)) t))
  pub one_run : r.runs ≡ 1

-- All units, in a run each.
pub record Worked (mode : Mode) (dir : Direction) (n m rounds : ℕ) (keys register input : List ℕ) (count : ℕ) (out : List ℕ) (r : Progress) (after : List ℕ) : Type 0 where
  pub register_after : r.register ≡ register_at (Enc rounds keys) (Dec rounds keys) mode dir n m register (take count (bits input)) (units_in n count)
  pub out_after : after ≡ pack (worked (Enc rounds keys) (Dec rounds keys) mode dir n m register (take count (bits input))) ++ drop (bytes_for count) out
  pub all_runs : r.runs ≡ units_in n count
