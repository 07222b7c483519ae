-- The key's bytes stand one after the other. Assumes nothing.
use mathlib.Core.Path.{ap, ◌∙◌}
use Rattle.bits.specs.Blocks.{Bytes}
use Rattle.bits.proofs.Owned.{arrays}
use Rattle.columns.specs.Inner.Words.{word_bytes}
use Rattle.columns.proofs.ByteLaws.{word-joined}
use Rattle.prepared.proofs.keys.key_word.Goals as goal

pub returns : goal.returns
returns c =
    let a = c.args in
    let bytes : Bytes a.keys.now = search arrays in
    ap word_bytes c.from_le_bytes.ensures ∙ word-joined bytes a.i
