-- Word by word (`ColumnLaws`). Assumes nothing.
use mathlib.Core.Path.{◌≡◌}
use Prim.Native.Nat.{◌+◌, ◌*◌}
use borrow.Author.Rules.{rules}
use lib.ListN.{get_or}
use Rattle.bits.specs.Xor.{xor}
use Rattle.columns.proofs.ColumnLaws.{added}
use Rattle.bits.proofs.Made.{made_each}
use Rattle.columns.proofs.rounds.add_words.Goals as goal

pub returns : goal.returns
unfolding xor
returns c =
    let a = c.args in
    added a.prepared.now a.round a.s _
    (made_each 0 (λ k y. y ≡ xor (get_or a.s k 0) (get_or a.prepared.now (1280 + 4 * a.round + k) 0)) c.from_fn.ensures.items (λ k h y q call. search rules))
