-- Each entry is SubBytes of its place with the map undone. Assumes nothing.
use Rattle.std.proofs.Common.{rules, get_or, ap, ◌∙◌}
use Rattle.boxes.specs.Boxes.{unaffine}
use Rattle.boxes.proofs.ArrayLaws.{made-at}
use Rattle.boxes.proofs.BoxLaws.{unaffine_sub}
use Rattle.boxes.proofs.inverse_table.Goals as goal

pub returns : goal.returns
returns c =
    let items = c.from_fn.ensures.items in
    record {
      entries = items.long;
      entry = λ b h. made-at _ (λ i. unaffine (get_or c.sbox-sbox.result i 0)) _ (λ i y f' k. search rules) items b h 0 ∙ ap unaffine (c.sbox-sbox.ensures.entry b h) ∙ unaffine_sub b;
    }
