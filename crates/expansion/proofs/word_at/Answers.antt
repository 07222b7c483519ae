-- The code is the definition, byte by byte. Assumes nothing.
use Rattle.std.proofs.Common.{rules, get_or, ◌+◌, ◌*◌}
use Rattle.field.specs.Rows.{four, word_at}
use Rattle.boxes.proofs.ArrayLaws.{made}
use Rattle.expansion.proofs.word_at.Goals as goal

pub returns : goal.returns
unfolding four word_at
returns c = made _ (λ j. get_or c.args.w.now (4 * c.args.i + j) 0) _ (λ j y f' k. search rules) 0 c.from_fn.ensures.items
