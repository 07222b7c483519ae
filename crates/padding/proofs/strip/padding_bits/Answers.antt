-- `padding::strip::padding_bits` meets its contract: each byte is passed or holds the last 1. Assumes nothing.
use mathlib.Core.Path.{◌≡◌, refl, ap, ◌∙◌}
use Prim.Native.Nat.{◌+◌, ◌-◌, ◌*◌}
use native.Mathlib.Omega.{arith}
use Rattle.bits.specs.Texts.{bits}
use Rattle.padding.specs.Padding.{up_to_last_one}
use Rattle.padding.proofs.OneLaws.{byte-passed, one_in_byte}
use Rattle.padding.proofs.strip.padding_bits.Goals as goal

pub returns-then-byte-ne0 : goal.returns-then-byte-ne0
returns-then-byte-ne0 c =
    let b = c.args.block in
    let n = c.loop-n.n in
    let e : (16 - n) * 8 ≡ (15 - n) * 8 + 8 = omega arith in
    let (small, last) = one_in_byte b (15 - n) (omega arith) c.loop-n-test.element_fits.fits in
    rw (c.loop-n.invariant ∙ ap (up_to_last_one (bits b)) e ∙ last) (omega (arith, small))

pub loop-n-preserved : goal.loop-n-preserved
loop-n-preserved c =
    let b = c.args.block in
    let n = c.loop-n.n in
    let e : (16 - n) * 8 ≡ (15 - n) * 8 + 8 = omega arith in
    let f : (15 - n) * 8 ≡ (16 - (n + 1)) * 8 = omega arith in
    c.loop-n.invariant ∙ ap (up_to_last_one (bits b)) e ∙ byte-passed b (15 - n) (omega arith) ∙ ap (up_to_last_one (bits b)) f

pub returns : goal.returns
unfolding up_to_last_one
returns c =
    let none : (16 - c.loop-n.n) * 8 ≡ 0 = omega arith in
    rw (c.loop-n.invariant, none) refl
