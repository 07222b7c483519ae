-- Modes as numbers, and directions as flags.
use Rattle.std.specs.Prelude.{ℕ, ◌<◌, ◌≤◌, ◌≡◌, Bool, true, false, cond, eqb, Result, Ok, Err}
use Rattle.rules.specs.declared.Mode.{Mode}
use Rattle.rules.specs.declared.Mode.TheVariants.{Ecb, Cbc, Cfb, Ofb, Ctr}
use Rattle.rules.specs.declared.numbers.NoMode.{NoMode}
use Rattle.rules.specs.declared.Direction.{Direction}
use Rattle.rules.specs.declared.Direction.TheVariants.{Encrypt, Decrypt}

-- How many modes there are: their numbers are those below it, in SP 800-38A's order.
abbrev pub modes : ℕ
modes = 5

unfoldable pub mode_number : Mode → ℕ
mode_number Ecb = 0
mode_number Cbc = 1
mode_number Cfb = 2
mode_number Ofb = 3
mode_number Ctr = 4

-- The mode of a number. A number that is no mode's is not asked for, and counts as CTR's.
unfoldable pub mode_of : ℕ → Mode
mode_of k = cond (eqb k 0) Ecb (cond (eqb k 1) Cbc (cond (eqb k 2) Cfb (cond (eqb k 3) Ofb Ctr)))

-- A number is read as its mode, and any other as none.
abbrev pub ReadsMode : ℕ → Result Mode NoMode → Type 0
ReadsMode k (Ok mode) = (k < modes) × (mode ≡ mode_of k)
ReadsMode k (Err none) = modes ≤ k

-- Is it decryption?
unfoldable pub is_decrypt : Direction → Bool
is_decrypt Encrypt = false
is_decrypt Decrypt = true

unfoldable pub direction_of : Bool → Direction
direction_of flag = cond flag Decrypt Encrypt

-- Each undoes the other.
pub record NumbersHold : Type 0 where
  pub mode_again : (mode : Mode) → mode_of (mode_number mode) ≡ mode
  pub number_again : (k : ℕ) → k < modes → mode_number (mode_of k) ≡ k
  pub number_below : (mode : Mode) → mode_number mode < modes
  pub direction_again : (dir : Direction) → direction_of (is_decrypt dir) ≡ dir
  pub flag_again : (flag : Bool) → is_decrypt (direction_of flag) ≡ flag
