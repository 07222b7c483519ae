-- `bits::block::xor_block` meets its contract: each byte is an XOR. Assumes nothing.
use mathlib.Core.Path.{◌≡◌, sym, ◌∙◌}
use native.Mathlib.Omega.{arith}
use borrow.Author.Rules.{rules}
use lib.ListN.{length}
use Rattle.bits.specs.Xor.{xor, xor_bytes}
use Rattle.bits.proofs.Fills.{get_or-xor_bytes}
use Rattle.bits.proofs.Made.{made}
use Rattle.bits.proofs.Xors.{length-xor_bytes}
use Rattle.bits.proofs.block.xor_block.Goals as goal

pub returns : goal.returns
unfolding xor
returns c =
    let a = c.args.a in
    let b = c.args.b in
    let la : length a ≡ 16 = search rules in
    let lb : length b ≡ 16 = search rules in
    made 0 (xor_bytes a b) c.from_fn.ensures.items (length-xor_bytes a b (la ∙ sym lb) ∙ la)
    (λ k h y q call. rw (get_or-xor_bytes a b k (omega arith) (omega arith)) (search rules))
