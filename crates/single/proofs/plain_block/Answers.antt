-- `single::plain_block` meets its contract: the two windows are the block and its neighbour. Assumes nothing.
use Prim.Native.Nat.{ℕ}
use mathlib.Core.Path.{refl, sym, ap, ap₂, ◌∙◌}
use mathlib.Core.List.{List}
use lib.ListN.{take, drop}
use Rattle.bits.specs.Texts.{bits, pack_to}
use Rattle.bits.specs.Xor.{xor_bytes}
use Rattle.bits.specs.Blocks.{Block}
use Rattle.cipher.specs.Cipher.{Dec}
use Rattle.single.specs.Single.{neighbour_of}
use Rattle.single.proofs.NumberLaws.{neighbour_taken, iv-length, there}
use Rattle.single.proofs.NeighbourLaws.{answer-taken, neighbour_is, window_at, window_whole}
use Rattle.bits.proofs.Owned.{arrays}
use Rattle.single.proofs.plain_block.Goals as goal

pub returns : goal.returns
returns c =
    let a = c.args in
    let inside = there a.iv.now a.text.now a.j c.requires in
    let block = c.window-block.ensures ∙ window_at a.text.now (search arrays) a.j inside in
    let iv : Block a.iv.now = record { size = iv-length a.iv.now (neighbour_taken a.iv.now a.text.now a.j c.requires).iv_yes; bytes = search arrays } in
    let beside = c.neighbour.ensures ∙ sym (answer-taken a.iv.now a.text.now a.j refl c.requires) in
    let before =
    c.window-before.ensures ∙ ap (λ (l : List ℕ). pack_to 16 (take 128 (drop 0 (bits l)))) beside
    ∙ window_whole (neighbour_of a.iv.now a.text.now a.j) (neighbour_is a.iv.now a.text.now iv (search arrays) a.j inside) in
    c.xor_block.ensures ∙ ap₂ xor_bytes (c.decrypt.ensures ∙ ap (Dec a.schedule.now.rounds a.schedule.now.keys) block) before
