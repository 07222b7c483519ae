-- The tests of the number. Assumes nothing.
use Rattle.std.proofs.Common.{arith}
use Rattle.std.proofs.lemmas.Bool.Decides.{nat_tests}
use Rattle.cipher.specs.Cipher.{rounds_ok}
use Rattle.cipher.proofs.block.rounds_ok.Goals as goal

pub returns-in-10 : goal.returns-in-10
unfolding rounds_ok
returns-in-10 c = grind (arith, nat_tests)

pub returns-in_default : goal.returns-in_default
unfolding rounds_ok
returns-in_default c = grind (arith, nat_tests)
