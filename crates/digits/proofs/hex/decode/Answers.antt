-- `digits::hex::decode` meets its contract. The loop's invariant: i bytes are written, and the rest of the output is as
-- it was. Assumes nothing.
use mathlib.Core.Path.{sym, ◌≡◌, ◌∙◌}
use Prim.Native.Nat.{◌/◌}
use native.Mathlib.Omega.{arith}
use borrow.Author.Tests.{le-leb, lt-leb}
use lib.ListN.{length}
use lib.Seq.{take_all}
use Rattle.bits.proofs.Fills.{filled_next}
use Rattle.digits.specs.Texts.{hex_bytes, decoded_into}
use Rattle.digits.proofs.DigitLaws.{length-hex_bytes, get_or-hex_bytes}
use Rattle.digits.proofs.hex.decode.Goals as goal

pub returns-then-out-count : goal.returns-then-out-count
unfolding decoded_into
returns-then-out-count c =
    let a = c.args in
    rw (lt-leb (length a.s.now / 2) (length a.out.now) (omega arith))

pub loop-i-preserved : goal.loop-i-preserved
loop-i-preserved c =
    let a = c.args in
    let i = c.loop-i.i in
    let byte = c.pair.ensures ∙ sym (get_or-hex_bytes a.s.now i (omega arith)) in
    let room = length-hex_bytes a.s.now in
    filled_next a.out.now (hex_bytes a.s.now) i c.loop-i.invariant byte (omega arith) (omega arith)

pub returns : goal.returns
unfolding decoded_into
returns c =
    let a = c.args in
    let e : c.loop-i.i ≡ length a.s.now / 2 = omega arith in
    let all = take_all (length a.s.now / 2) (hex_bytes a.s.now) (omega (arith, length-hex_bytes a.s.now)) in
    rw (le-leb (length a.s.now / 2) (length a.out.now) (omega arith)) (rw (e, all) at c.loop-i.invariant)
