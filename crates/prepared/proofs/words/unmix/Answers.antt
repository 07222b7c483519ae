-- The turned words, doubled and added, are the rows of the matrix (`DoublingLaws`). Assumes nothing.
use mathlib.Core.Path.{ap, ◌∙◌}
use Rattle.bits.specs.Xor.{xor}
use Rattle.columns.specs.Inner.Words.{word_bytes}
use Rattle.columns.proofs.ByteLaws.{turned-one, turned_two, turned-three}
use Rattle.prepared.proofs.DoublingLaws.{unmixed-word}
use Rattle.prepared.proofs.words.unmix.Goals as goal

pub returns : goal.returns
unfolding xor
returns c =
    let x = c.args.x in
    let fits = c.ranges.x.fits in
    unmixed-word x _ _ _ (ap word_bytes c.rotate_left-next.ensures ∙ turned-three x fits) (ap word_bytes c.rotate_left-across.ensures ∙ turned_two x fits)
    (ap word_bytes c.rotate_left.ensures ∙ turned-one x fits) _ _ _ c.double_row-eightfold.ensures c.double_row-fourfold.ensures c.double_row.ensures
