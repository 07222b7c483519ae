-- `header::words::number` meets its contract. The loop's invariant: the digits passed give n, and those that follow
-- count on from there. Assumes nothing.
use mathlib.Core.Path.{◌≡◌}
use Prim.Native.Nat.{◌^◌, ◌<◌}
use lib.ListN.{drop}
use Rattle.digits.specs.Texts.{all, is_decimal, count_on}
use Rattle.header.proofs.words.number.Given as goal

abbrev pub invariant-loop-b : goal.invariant-loop-b
invariant-loop-b l = record {
  counted : count_on 0 l.word ≡ count_on l.n (drop l.b-index l.word);
  decimal : all is_decimal l.word ≡ all is_decimal (drop l.b-index l.word);
  fits : l.n < 10 ^ l.b-index;
}
