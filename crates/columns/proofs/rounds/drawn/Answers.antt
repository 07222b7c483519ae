-- Byte by byte (`ColumnLaws`). Assumes nothing.
use mathlib.Core.Path.{◌≡◌, ap, ◌∙◌}
use mathlib.Core.List.{List}
use Prim.Native.Nat.{ℕ, ◌+◌, ◌%◌}
use mir.Syntax.{w32}
use borrow.Author.Rules.{rules}
use lib.ListN.{get_or}
use Rattle.std.specs.Int.{to_le_bytes}
use Rattle.columns.proofs.ByteLaws.{bytes_split}
use Rattle.columns.proofs.ColumnLaws.{drawn-bytes}
use Rattle.bits.proofs.Made.{made_each}
use Rattle.columns.proofs.rounds.drawn.Goals as goal

pub returns : goal.returns
returns c =
    let a = c.args in
    drawn-bytes a.s a.c c.from_fn.ensures.items.long
    (λ k h. made_each 0 (λ k y. y ≡ get_or (to_le_bytes w32 (get_or a.s ((a.c + k) % 4) 0)) k 0) c.from_fn.ensures.items (λ k h y q call. search rules) k h
    ∙ ap (λ (l : List ℕ). get_or l k 0) (bytes_split (get_or a.s ((a.c + k) % 4) 0)))
