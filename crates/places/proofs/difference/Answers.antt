-- `places::difference` meets its contract. Assumes nothing.
use mathlib.Core.Path.{◌∙◌, ap}
use Rattle.bits.specs.Blocks.{Block}
use Rattle.bits.proofs.Owned.{arrays}
use Rattle.bits.specs.Counter.{number_bytes}
use Rattle.places.proofs.WideLaws.{read, written, subtracted}
use Rattle.places.proofs.difference.Goals as goal

pub returns : goal.returns
returns c =
    let iv_is : Block c.args.iv = search arrays in
    let block_is : Block c.args.block = search arrays in
    c.to_be_bytes.ensures ∙ written 16 _
    ∙ ap (number_bytes 16) (rw (c.from_be_bytes.ensures ∙ read block_is, c.from_be_bytes-2.ensures ∙ read iv_is) (subtracted c.requires.1 iv_is c.args.block))
