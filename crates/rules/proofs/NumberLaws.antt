-- Modes as numbers and directions as flags, there and back. Assumes nothing.
use Prim.Native.Nat.{ℕ, zero, suc, ◌<◌}
use mathlib.Core.Path.{◌≡◌, refl}
use mathlib.Core.Bool.{Bool, true, false}
use native.Mathlib.Omega.{arith}
use Rattle.rules.specs.declared.Mode.{Mode}
use Rattle.rules.specs.declared.Mode.TheVariants.{Ecb, Cbc, Cfb, Ofb, Ctr}
use Rattle.rules.specs.declared.Direction.{Direction}
use Rattle.rules.specs.declared.Direction.TheVariants.{Encrypt, Decrypt}
use Rattle.rules.specs.Numbers.{modes, mode_number, mode_of, is_decrypt, direction_of, NumbersHold}

pub mode_again : (mode : Mode) → mode_of (mode_number mode) ≡ mode
unfolding mode_of mode_number
mode_again Ecb = refl
mode_again Cbc = refl
mode_again Cfb = refl
mode_again Ofb = refl
mode_again Ctr = refl

number_again : (k : ℕ) → k < modes → mode_number (mode_of k) ≡ k
unfolding mode_of mode_number
number_again zero h = refl
number_again (suc zero) h = refl
number_again (suc (suc zero)) h = refl
number_again (suc (suc (suc zero))) h = refl
number_again (suc (suc (suc (suc zero)))) h = refl
number_again (suc (suc (suc (suc (suc k))))) h = absurd (omega arith)

pub number_below : (mode : Mode) → mode_number mode < modes
unfolding mode_number
number_below Ecb = omega arith
number_below Cbc = omega arith
number_below Cfb = omega arith
number_below Ofb = omega arith
number_below Ctr = omega arith

pub direction_again : (dir : Direction) → direction_of (is_decrypt dir) ≡ dir
unfolding direction_of is_decrypt
direction_again Encrypt = refl
direction_again Decrypt = refl

flag_again : (flag : Bool) → is_decrypt (direction_of flag) ≡ flag
unfolding direction_of is_decrypt
flag_again true = refl
flag_again false = refl

pub numbers_hold : NumbersHold
numbers_hold =
    record {
      mode_again = mode_again;
      number_again = number_again;
      number_below = number_below;
      direction_again = direction_again;
      flag_again = flag_again;
    }
