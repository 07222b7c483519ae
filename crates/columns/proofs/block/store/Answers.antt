-- The bytes of the columns, one after the other (`ColumnLaws`). Assumes nothing.
use mathlib.Core.Path.{◌≡◌, ap, ◌∙◌}
use mathlib.Core.List.{List}
use Prim.Native.Nat.{ℕ, ◌/◌, ◌%◌}
use mir.Syntax.{w32}
use borrow.Author.Rules.{rules}
use lib.ListN.{get_or}
use Rattle.std.specs.Int.{to_le_bytes}
use Rattle.columns.proofs.ByteLaws.{bytes_split}
use Rattle.columns.proofs.ColumnLaws.{stored}
use Rattle.bits.proofs.Made.{made_each}
use Rattle.columns.proofs.block.store.Goals as goal

pub returns : goal.returns
returns c =
    let s = c.args.s in
    stored s c.from_fn.ensures.items.long
    (λ i h. made_each 0 (λ i y. y ≡ get_or (to_le_bytes w32 (get_or s (i / 4) 0)) (i % 4) 0) c.from_fn.ensures.items (λ i h y q call. search rules) i h
    ∙ ap (λ (l : List ℕ). get_or l (i % 4) 0) (bytes_split (get_or s (i / 4) 0)))
