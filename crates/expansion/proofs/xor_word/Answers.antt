-- Byte by byte. Assumes nothing.
use Rattle.std.proofs.Common.{rules, get_or, ◌∙◌}
use Rattle.bits.specs.Xor.{xor}
use Rattle.field.specs.Rows.{four}
use Rattle.boxes.proofs.ArrayLaws.{made}
use Rattle.expansion.proofs.WordLaws.{xor-four}
use Rattle.expansion.proofs.xor_word.Goals as goal

pub returns : goal.returns
unfolding xor four
returns c =
    let a = c.args in
    made _ (λ i. xor (get_or a.a i 0) (get_or a.b i 0)) _ (λ i y f' k. search rules) 0 c.from_fn.ensures.items
    ∙ xor-four a.a a.b (search rules) (search rules)
