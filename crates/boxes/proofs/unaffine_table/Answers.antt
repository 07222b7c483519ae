-- Each entry is the map undone of its place. Assumes nothing.
use Rattle.std.proofs.Common.{rules}
use Rattle.boxes.specs.Boxes.{unaffine}
use Rattle.boxes.proofs.ArrayLaws.{made-at}
use Rattle.boxes.proofs.unaffine_table.Goals as goal

pub returns : goal.returns
returns c =
    let items = c.from_fn.ensures.items in
    record { entries = items.long; entry = λ b h. made-at _ unaffine _ (λ i y f' k. search rules) items b h 0 }
