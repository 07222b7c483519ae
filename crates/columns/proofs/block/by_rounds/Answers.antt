-- The words are the columns of the state of `rounds_by` before each round (`RunLaws`). Assumes nothing.
use native.Mathlib.Omega.{arith}
use borrow.Author.Rules.{rules}
use Rattle.cipher.proofs.RoundLaws.{rounds_bounds}
use Rattle.columns.specs.Inner.Rounds.{rounds_by}
use Rattle.columns.proofs.RunLaws.{round_more, rounds_done}
use Rattle.columns.proofs.block.by_rounds.Goals as goal

pub loop-round-init : goal.loop-round-init
unfolding rounds_by
loop-round-init c = search rules

pub add_words-s-requires-in-loop-round : goal.add_words-s-requires-in-loop-round
add_words-s-requires-in-loop-round c = let bounds = rounds_bounds c.args.rounds c.requires in omega arith

pub loop-round-preserved : goal.loop-round-preserved
loop-round-preserved c =
    let at = c.loop-round in
    round_more _ at.round (omega arith) _ at.invariant c.table_round.ensures c.add_words-s-in-loop-round.ensures

pub add_words-last-requires : goal.add_words-last-requires
add_words-last-requires c = let bounds = rounds_bounds c.args.rounds c.requires in omega arith

pub returns : goal.returns
returns c =
    let a = c.args in
    let bounds = rounds_bounds a.rounds c.requires in
    rounds_done a.prepared.now a.block (omega arith) c.decrypts-decrypting.ensures c.loop-round.invariant c.last_round.ensures c.add_words-last.ensures
    c.arrange-2.ensures c.store.ensures
