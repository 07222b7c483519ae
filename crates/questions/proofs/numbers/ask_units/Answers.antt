-- From m = 64 on the units are fewer than 2^m, and below that it is computed. Assumes nothing.
use Prim.Native.Nat.{◌+◌, ◌^◌}
use mathlib.Core.Path.{◌≡◌, refl}
use mathlib.Core.Bool.{true}
use native.Mathlib.Omega.{arith}
use borrow.Author.Tests.{le-leb}
use Rattle.questions.specs.Questions.{ask, units_ok, counters_ok, max_units}
use Rattle.questions.proofs.QuestionLaws.{counters_enough}
use Rattle.questions.proofs.numbers.ask_units.Goals as goal
use Rattle.questions.proofs.numbers.ask_units.Goals.{else-m-lt64-via-then-m-lt64+else-done-new, else-m-lt64-via-else-m-lt64}

pub returns : goal.returns
unfolding ask counters_ok units_ok
returns c =
    let yes9 : let a = c.args in units_ok max_units a.done a.new ≡ true = le-leb _ _ (omega arith) in
    let a = c.args in
    elim c.else-m-lt64.branch [
      | else-m-lt64-via-then-m-lt64+else-done-new w ↦ rw (yes9, le-leb (a.done + a.new) (2 ^ a.m) (omega (arith, w.if-done-new.false))) refl
      | else-m-lt64-via-else-m-lt64 w ↦ rw (yes9, counters_enough a.m a.done a.new (omega (arith, w.if-m-lt64.false)) yes9) refl
    ]
