-- `header::words::number` meets its contract: one digit more counts on. Assumes nothing.
use native.Mathlib.Omega.{arith}
use Rattle.header.proofs.WordLaws.{counted}
use Rattle.header.proofs.words.number.Goals as goal

pub loop-b-preserved : goal.loop-b-preserved
loop-b-preserved c = record {
  counted = grind (arith, counted);
  decimal = grind (arith, counted);
  fits = grind (arith, counted);
}
