-- The three calls, in turn. Assumes nothing.
use mathlib.Core.Path.{ap, ap₂, ◌∙◌}
use Rattle.bits.specs.Xor.{xor_bytes}
use Rattle.expansion.specs.KeyExpansion.{temp, next_word}
use Rattle.expansion.proofs.next_word.Goals as goal

pub returns : goal.returns
unfolding next_word
returns c = c.xor_word.ensures
    ∙ ap₂ xor_bytes c.word_at.ensures
    (c.temp_word.ensures ∙ ap (temp _ _) c.word_at-2.ensures)
