-- Each column is a word of the block (`ColumnLaws`). Assumes nothing.
use mathlib.Core.Path.{◌≡◌}
use mathlib.Core.List.{[], ◌∷◌}
use Prim.Native.Nat.{◌+◌, ◌*◌}
use mir.Syntax.{w32}
use borrow.Author.Rules.{rules}
use lib.ListN.{get_or}
use Rattle.std.specs.Int.{from_le_bytes}
use Rattle.bits.specs.Blocks.{Block}
use Rattle.bits.proofs.Owned.{arrays}
use Rattle.columns.proofs.ByteLaws.{word-joined}
use Rattle.columns.proofs.ColumnLaws.{loaded}
use Rattle.bits.proofs.Made.{made_each}
use Rattle.columns.proofs.block.load.Goals as goal

pub returns : goal.returns
returns c =
    let b = c.args.block in
    let block : Block b = search arrays in
    loaded b _
    (λ k h. rw (made_each 0 (λ k y. y ≡ from_le_bytes w32 (get_or b (4 * k) 0 ∷ get_or b (4 * k + 1) 0 ∷ get_or b (4 * k + 2) 0 ∷ get_or b (4 * k + 3) 0 ∷ []))
    c.from_fn.ensures.items (λ k h y q call. search rules) k h) (word-joined block.bytes k))
