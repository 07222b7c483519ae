-- `digits::hex::encode` meets its contract. The loop's invariant: the digits of i bytes are written, and no other byte
-- is changed. Assumes nothing.
use mathlib.Core.Path.{◌≡◌, sym, ◌∙◌}
use Prim.Native.Nat.{◌+◌, ◌*◌}
use native.Mathlib.Omega.{arith}
use borrow.Author.Tests.{le-leb, lt-leb}
use lib.ListN.{length}
use Rattle.digits.specs.Texts.{hex_text, encoded_into}
use Rattle.digits.proofs.DigitLaws.{length-hex_text, high_digit, low_digit, pasted_pair}
use Rattle.digits.proofs.hex.encode.Goals as goal

pub returns-then-out-at : goal.returns-then-out-at
unfolding encoded_into
returns-then-out-at c =
    let a = c.args in
    rw (lt-leb (a.at + length a.bytes.now * 2) (length a.out.now) (omega arith))

pub loop-i-preserved : goal.loop-i-preserved
loop-i-preserved c =
    let a = c.args in
    let bytes = a.bytes.now in
    let i = c.loop-i.i in
    let high = c.digit.ensures ∙ sym (high_digit bytes i (omega arith)) in
    let low = c.digit-in-loop-i.ensures ∙ sym (low_digit bytes i (omega arith)) in
    let room = length-hex_text bytes in
    pasted_pair a.out.now a.at (hex_text bytes) i c.loop-i.invariant high low (omega arith) (omega arith)

pub returns : goal.returns
unfolding encoded_into
returns c =
    let a = c.args in
    let e : c.loop-i.i ≡ length a.bytes.now = omega arith in
    rw (le-leb (a.at + length a.bytes.now * 2) (length a.out.now) (omega arith)) (rw e at c.loop-i.invariant)
