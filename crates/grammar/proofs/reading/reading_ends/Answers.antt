-- `grammar::reading::reading_ends` meets its contract: each line that is due is the definition's. Assumes nothing.
use mathlib.Core.Path.{refl, sym}
use native.Mathlib.Omega.{arith}
use Rattle.std.proofs.lemmas.Bool.Decides.{nat_tests}
use Rattle.grammar.specs.Reading.{text_lines, ends_in, reading_ends}
use Rattle.grammar.proofs.ReadingLaws.{open_line, complete_line}
use Rattle.grammar.proofs.reading.reading_ends.Goals as goal

pub loop-line-init : goal.loop-line-init
unfolding reading_ends
loop-line-init c = refl

pub returns-in_default : goal.returns-in_default
returns-in_default c = let at = c.loop-line in
    let ends = open_line at.rest.now at.line-index _ c.loop-line-test.true c.most.ensures (sym c.in_default.ensures) in
    rw (at.invariant, ends)

pub returns-then-not-good : goal.returns-then-not-good
returns-then-not-good c = let at = c.loop-line in
    let whole = complete_line at.rest.now at.line-index _ c.loop-line-test.true c.good.ensures (sym c.in-Some.ensures) in
    rw (at.invariant, whole, c.if-not-good.true)

pub loop-line-preserved : goal.loop-line-preserved
loop-line-preserved c = let at = c.loop-line in
    let whole = complete_line at.rest.now at.line-index _ c.loop-line-test.true c.good.ensures (sym c.in-Some.ensures) in
    rw (at.invariant, whole, c.if-not-good.false)

pub returns : goal.returns
unfolding text_lines ends_in
returns c = grind (arith, nat_tests)
