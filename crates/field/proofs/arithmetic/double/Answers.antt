-- The code is the definition. Assumes nothing.
use borrow.Author.Rules.{rules}
use Rattle.bits.specs.Xor.{xor}
use Rattle.field.specs.Field.{double}
use Rattle.field.proofs.arithmetic.double.Goals as goal

pub returns : goal.returns
unfolding xor double
returns c = search rules
