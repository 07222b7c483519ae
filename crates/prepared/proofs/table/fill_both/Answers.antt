-- One table after the other (`PartLaws`). Assumes nothing.
use mathlib.Core.Path.{◌≡◌, ap, ◌∙◌}
use Prim.Native.Nat.{◌-◌}
use borrow.Author.Rules.{rules}
use lib.ListN.{get_or}
use Rattle.bits.specs.Blocks.{Bytes}
use Rattle.bits.proofs.Owned.{arrays}
use Rattle.columns.specs.Inner.Words.{word_bytes}
use Rattle.prepared.specs.Inner.Parts.{byte_word}
use Rattle.prepared.proofs.FillLaws.{placed_as}
use Rattle.prepared.proofs.PartLaws.{tables_held}
use Rattle.prepared.proofs.TableLaws.{widened}
use Rattle.prepared.proofs.table.fill_both.Goals as goal

pub returns : goal.returns
returns c =
    let last = c.args.last.now in
    let bytes : Bytes last = search arrays in
    tables_held _ c.requires c.fill_table.ensures
    (placed_as (λ i w. word_bytes w ≡ byte_word (get_or last (i - 1024) 0)) c.fill.ensures
    (λ i l u w h. let e : w ≡ get_or last (i - 1024) 0 = search rules in ap word_bytes e ∙ widened (bytes.byte (i - 1024))))
