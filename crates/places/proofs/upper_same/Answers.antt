-- `places::upper_same` meets its contract. Assumes nothing.
use mathlib.Core.Path.{refl, sym, ◌∙◌}
use borrow.Author.Tests.{le-leb}
use Rattle.bits.specs.Blocks.{Block}
use Rattle.bits.proofs.Owned.{arrays}
use Rattle.places.specs.Answers.{upper_same}
use Rattle.places.proofs.WideLaws.{read, none_above}
use Rattle.places.proofs.upper_same.Goals as goal

pub returns-then-m-ge128 : goal.returns-then-m-ge128
returns-then-m-ge128 c =
    let iv_is : Block c.args.iv = search arrays in
    let block_is : Block c.args.block = search arrays in
    le-leb 128 c.args.m c.if-m-ge128.true ∙ sym (none_above iv_is block_is c.if-m-ge128.true)

pub returns-else-m-ge128 : goal.returns-else-m-ge128
unfolding upper_same
returns-else-m-ge128 c =
    let iv_is : Block c.args.iv = search arrays in
    let block_is : Block c.args.block = search arrays in
    rw (c.from_be_bytes.ensures ∙ read iv_is, c.from_be_bytes-else-m-ge128.ensures ∙ read block_is) refl
