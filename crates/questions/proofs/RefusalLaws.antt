-- No refusal's number is 0, which is success. Assumes nothing.
use Rattle.std.specs.Prelude.{◌≡◌}
use native.Mathlib.Omega.{arith}
use Rattle.questions.specs.declared.refusal.Refusal.{Refusal}
use Rattle.questions.specs.declared.refusal.Refusal.TheVariants.{KeyLength, IvLength, UnitLength, NotOpened, Closed, Bits, PartUnit, Room, UnitLimit, NoOneBit, NoBlock, NotFormed, MessageLength, CounterLength, CounterLimit, OtherMessage}
use Rattle.questions.specs.Refusals.{number_of}

pub no_success : (refusal : Refusal) → number_of refusal ≡ 0 → ⊥
no_success KeyLength z = omega arith
no_success IvLength z = omega arith
no_success UnitLength z = omega arith
no_success NotOpened z = omega arith
no_success Closed z = omega arith
no_success Bits z = omega arith
no_success PartUnit z = omega arith
no_success Room z = omega arith
no_success UnitLimit z = omega arith
no_success NoOneBit z = omega arith
no_success NoBlock z = omega arith
no_success NotFormed z = omega arith
no_success MessageLength z = omega arith
no_success CounterLength z = omega arith
no_success CounterLimit z = omega arith
no_success OtherMessage z = omega arith
