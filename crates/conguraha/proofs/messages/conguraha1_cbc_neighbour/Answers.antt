-- `conguraha::messages::conguraha1_cbc_neighbour` meets its contract: the first block, and a later one, which is there
-- past the questions. Assumes nothing.
use mathlib.Core.Path.{refl, sym}
use native.Mathlib.Omega.{arith}
use Rattle.single.proofs.NumberLaws.{there}
use Rattle.conguraha.specs.Answers.{offset_of}
use Rattle.conguraha.proofs.AnswerLaws.{a-neighbour}
use Rattle.conguraha.proofs.messages.conguraha1_cbc_neighbour.Goals as goal

pub returns-then-j-eq0 : goal.returns-then-j-eq0
unfolding offset_of
returns-then-j-eq0 c =
    a-neighbour _ _ _ c.in_default.ensures refl (rw c.if-j-eq0.true refl) refl (rw c.if-j-eq0.true refl)

pub overflow_mul-offset : goal.overflow_mul-offset
overflow_mul-offset c = omega (arith, there c.args.iv.now c.args.text.now c.args.j (sym c.in_default.ensures))

pub returns : goal.returns
unfolding offset_of
returns c =
    a-neighbour _ _ _ c.in_default.ensures refl (omega (arith, c.if-j-eq0.false)) refl (omega (arith, c.if-j-eq0.false))
