-- `padding::append::put_padded` meets its contract: the block of the 1 bit is cleared, the text's bytes are copied, and
-- the byte of the 1 bit is set. Assumes nothing.
use mathlib.Core.Path.{◌≡◌, refl, ap₂, ◌∙◌}
use mathlib.Core.List.{List}
use Prim.Native.Nat.{ℕ, ◌+◌, ◌-◌, ◌/◌, ◌*◌}
use native.Mathlib.Omega.{arith}
use lib.ListN.{replicate}
use Rattle.std.proofs.lemmas.Slice.{put_mid-paste}
use Rattle.bits.specs.Texts.{bytes_for}
use Rattle.padding.specs.Padding.{zeros_for, padded_length}
use Rattle.bits.proofs.Owned.{arrays}
use Rattle.bits.proofs.Fills.{filled, filled_next}
use Rattle.padding.proofs.PadLaws.{mark-set, more_bytes}
use Rattle.padding.proofs.append.put_padded.Goals as goal

pub loop-i-preserved : goal.loop-i-preserved
unfolding bytes_for
loop-i-preserved c =
    let a = c.args in
    filled_next _ a.input.now c.loop-i.i c.loop-i.invariant refl (omega (arith, more_bytes a.bits)) (omega arith)

pub returns : goal.returns
unfolding bytes_for padded_length zeros_for
returns c =
    let a = c.args in
    let all : c.loop-i.i ≡ bytes_for a.bits = omega arith in
    let at = a.bits / 128 * 16 in
    let cleared = put_mid-paste at (at + 16 - at) a.out.now c.copy_from_slice.new.self (replicate 16 0) 16 c.copy_from_slice.ensures.after (omega arith) refl in
    mark-set a.input.now a.out.now a.bits (omega arith) (omega arith) (search arrays)
    (c.loop-i.invariant ∙ ap₂ (λ (d : List ℕ) (n : ℕ). filled d a.input.now n) cleared all) c.marked.ensures (omega arith)
