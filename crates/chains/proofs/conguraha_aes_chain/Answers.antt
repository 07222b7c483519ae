-- Each turn applies the block function that the flag picks, under what `expand` gave. Assumes nothing.
use Rattle.std.proofs.Common.{◌≡◌, refl, sym, add-one, arith}
use Rattle.chains.specs.Chains.{block_function, chain_of, chain_under}
use Rattle.chains.proofs.ChainLaws.{refused_chain}
use Rattle.chains.proofs.conguraha_aes_chain.Goals.{then-decrypting, else-decrypting}
use Rattle.chains.proofs.conguraha_aes_chain.Goals as goal

pub returns-then-count-gt0 : goal.returns-then-count-gt0
returns-then-count-gt0 c =
    let refused = c.in_default.ensures in
    record { answer = refused.answer; answer_block = refused_chain _ _ _ _ refused.expanded_rounds c.if-count-gt0.true }

pub returns-else-count-gt0 : goal.returns-else-count-gt0
unfolding chain_under chain_of
returns-else-count-gt0 c =
    let none : c.args.count ≡ 0 = omega arith in
    record { answer = c.in_default.ensures.answer; answer_block = rw none refl }

pub loop-init : goal.loop-init
unfolding chain_of
loop-init c = refl

pub loop-preserved : goal.loop-preserved
unfolding chain_of block_function
loop-preserved c =
    elim c.if-decrypting.branch [
      | then-decrypting w ↦ rw (add-one, w.block-is, w.if-decrypting.true, sym c.loop.invariant) w.decrypt.ensures
      | else-decrypting w ↦ rw (add-one, w.block-is, w.if-decrypting.false, sym c.loop.invariant) w.encrypt.ensures
    ]

pub returns : goal.returns
unfolding chain_under
returns c =
    let e = c.in-Ok.ensures in
    let last : c.loop.counter ≡ c.args.count = omega arith in
    record { answer = e.answer; answer_block = rw (← e.expanded_rounds, ← e.expanded_keys, ← last) c.loop.invariant }
