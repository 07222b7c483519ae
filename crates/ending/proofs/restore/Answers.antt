-- `ending::restore` meets its contract. Assumes nothing.
use Prim.Native.Nat.{ℕ, ◌+◌}
use mathlib.Core.Path.{◌≡◌, ap, ◌∙◌}
use mathlib.Core.List.{◌++◌}
use native.Mathlib.Omega.{arith}
use lib.ListN.{length, take, drop, length-take}
use Rattle.bits.specs.Texts.{bits, bytes_for, pack, put_bits}
use Rattle.bits.specs.Blocks.{Block}
use Rattle.bits.proofs.Texts.{bits-block}
use Rattle.bits.proofs.Owned.{arrays}
use Rattle.ending.specs.Inner.Endings.{restored_bytes}
use Rattle.ending.proofs.restore.Goals as goal

pub returns : goal.returns
unfolding restored_bytes put_bits
returns c =
    let a = c.args in
    let h : Block a.end = search arrays in
    let size : 0 + length (take a.size (bits a.end)) ≡ a.size = simp (length-take, bits-block h) (omega arith) in
    c.put_bits.ensures ∙ ap (λ (k : ℕ). pack (take a.size (bits a.end)) ++ drop (bytes_for k) a.opened) size
