-- The code is the definition, byte by byte. Assumes nothing.
use Rattle.std.proofs.Common.{rules, get_or, ◌+◌, ◌*◌}
use Rattle.bits.specs.Xor.{xor}
use Rattle.field.specs.Rows.{four}
use Rattle.boxes.proofs.ArrayLaws.{made}
use Rattle.steps.proofs.round.key_row.Goals as goal

pub returns : goal.returns
unfolding four xor
returns c =
    let a = c.args in made _ (λ i. xor (get_or a.row i 0) (get_or a.keys.now (a.at + 4 * i) 0)) _ (λ i y f' k. search rules) 0 c.from_fn.ensures.items
