-- `bits::place::put_bits` meets its contract: whole bytes are written, then the one that the text fills in part.
-- Assumes nothing.
use mathlib.Core.Path.{◌≡◌, sym, ap, ◌∙◌}
use Prim.Native.Nat.{ℕ, ◌+◌, ◌/◌, ◌%◌, ◌<◌}
use native.Mathlib.Omega.{arith}
use lib.ListN.{length, take}
use borrow.Author.Rules.{rules}
use Rattle.std.proofs.lemmas.Slice.{put_mid-paste}
use Rattle.bits.specs.Texts.{bits, bytes_for, put_bits}
use Rattle.bits.specs.Blocks.{Bytes, Block}
use Rattle.bits.proofs.Owned.{arrays}
use Rattle.bits.proofs.Places.{next_byte, put_full, put_last, put-segment, put-aligned}
use Rattle.bits.proofs.place.put_bits.Goals as goal

pub returns-then-r-eq0 : goal.returns-then-r-eq0
returns-then-r-eq0 c =
    let start = c.args in
    let old = start.out.now in
    let full : start.n ≡ 128 = omega arith in
    let bytes : Bytes old = search arrays in
    let block : Block start.segment = search arrays in
    put_mid-paste (start.at / 8) _ old _ start.segment 16 c.copy_from_slice.ensures.after (omega arith) (search rules)
    ∙ sym (put-aligned old bytes start.at start.segment block (omega arith) (omega arith))
    ∙ ap (λ (n : ℕ). put_bits old start.at (take n (bits start.segment))) (sym full)

pub returns-then-used-ne0 : goal.returns-then-used-ne0
unfolding bytes_for
returns-then-used-ne0 c =
    let start = c.args in
    let old = start.out.now in
    let first = start.at / 8 in
    let r = start.at % 8 in
    let bytes : Bytes old = search arrays in
    let block : Block start.segment = search arrays in
    let inside : first + (r + start.n) / 8 < length old = omega arith in
    let byte = next_byte old first r start.segment ((r + start.n) / 8) (omega arith) (omega arith) (bytes.byte first) block.bytes
    c.put_bytes-high.ensures.high c.byte_at.ensures in
    put_last old first r (omega arith) (omega arith) start.n (bits start.segment) (λ full. omega arith)
    c.put_bytes-high.ensures.written (c.two_bytes-byte.ensures ∙ byte) c.first_bits.ensures inside
    ∙ sym (put-segment old bytes start.at start.segment block start.n (omega arith) (omega arith))

pub returns-else-used-ne0 : goal.returns-else-used-ne0
unfolding bytes_for
returns-else-used-ne0 c =
    let start = c.args in
    let old = start.out.now in
    let bytes : Bytes old = search arrays in
    let block : Block start.segment = search arrays in
    put_full old (start.at / 8) (start.at % 8) (omega arith) (omega arith) start.n (bits start.segment) (omega arith)
    c.put_bytes-high.ensures.written
    ∙ sym (put-segment old bytes start.at start.segment block start.n (omega arith) (omega arith))
