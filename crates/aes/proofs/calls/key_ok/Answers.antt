-- `aes::calls::key_ok` is question 1: the tests on the key's length. Assumes nothing.
use Rattle.std.proofs.Common.{arith}
use Rattle.std.proofs.lemmas.Bool.Decides.{nat_tests}
use Rattle.aes.specs.Calls.{key_ok}
use Rattle.aes.proofs.calls.key_ok.Goals as goal

pub returns-in-16 : goal.returns-in-16
unfolding key_ok
returns-in-16 c = grind (arith, nat_tests)

pub returns-in_default : goal.returns-in_default
unfolding key_ok
returns-in_default c = grind (arith, nat_tests)
