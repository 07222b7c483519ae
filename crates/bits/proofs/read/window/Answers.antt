-- `bits::read::window` meets its contract: 16 bytes hold the first 128 bits. Assumes nothing.
use mathlib.Core.Path.{sym, ◌∙◌}
use lib.ListN.{drop}
use Rattle.bits.specs.Texts.{bits}
use Rattle.bits.proofs.Packed.{pack_to-cut}
use borrow.Author.Rules.{rules}
use Rattle.bits.proofs.read.window.Goals as goal

pub returns-else-n-lt128 : goal.returns-else-n-lt128
returns-else-n-lt128 c =
    let start = c.args in
    c.whole_block.ensures ∙ sym (pack_to-cut 16 start.n (drop start.offset (bits start.s.now)) (search rules))
