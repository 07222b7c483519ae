-- The formula is the one step after the other (`TableLaws`). Assumes nothing.
use Rattle.std.proofs.Common.{rules, get_or}
use Rattle.boxes.specs.Boxes.{inv_sub_byte}
use Rattle.boxes.proofs.ArrayLaws.{made-at}
use Rattle.boxes.proofs.BoxLaws.{unaffine_byte}
use Rattle.boxes.proofs.TableLaws.{tabulates_composed}
use Rattle.boxes.proofs.inv_sbox.Goals as goal

pub returns : goal.returns
unfolding inv_sub_byte
returns c =
    let items = c.from_fn.ensures.items in
    tabulates_composed unaffine_byte c.inverse_table-inverses.ensures c.unaffine_table-undone.ensures
    record {
      entries = items.long;
      entry = λ b h. made-at _ (λ i. get_or c.inverse_table-inverses.result (get_or c.unaffine_table-undone.result i 0) 0) _ (λ i y f' k. search rules) items b h 0;
    }
