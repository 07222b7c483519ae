-- The number that each refusal stands for, and that an answer has: 0 where it was accepted.
use Rattle.std.specs.Prelude.{ℕ, Result, Ok, Err}
use Rattle.questions.specs.declared.refusal.Refusal.{Refusal}
use Rattle.questions.specs.declared.refusal.Refusal.TheVariants.{KeyLength, IvLength, UnitLength, NotOpened, Closed, Bits, PartUnit, Room, UnitLimit, NoOneBit, NoBlock, NotFormed, MessageLength, CounterLength, CounterLimit, OtherMessage}

abbrev pub number_of : Refusal → ℕ
number_of KeyLength = 1
number_of IvLength = 2
number_of UnitLength = 3
number_of NotOpened = 4
number_of Closed = 5
number_of Bits = 6
number_of PartUnit = 7
number_of Room = 8
number_of UnitLimit = 9
number_of NoOneBit = 10
number_of NoBlock = 11
number_of NotFormed = 12
number_of MessageLength = 13
number_of CounterLength = 14
number_of CounterLimit = 15
number_of OtherMessage = 16

abbrev pub number_in : {A : Type 0} → Result A Refusal → ℕ
number_in (Ok value) = 0
number_in (Err refusal) = number_of refusal
