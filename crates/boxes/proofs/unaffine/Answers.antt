-- The turns give the rule at all 256 bytes: one test, which antt computes. Assumes nothing.
use Rattle.std.proofs.Common.{bit_xor, w8}
use Rattle.std.specs.Int.{rotate_left}
use Rattle.bits.proofs.Tables.{agree}
use Rattle.boxes.specs.Boxes.{low, from_bits, unaffine}
use Rattle.boxes.proofs.unaffine.Goals as goal

pub returns : goal.returns
unfolding low from_bits unaffine
returns c =
    rw (c.rotate_left.ensures, c.rotate_left-2.ensures, c.rotate_left-3.ensures)
    (agree (λ b. bit_xor (bit_xor (bit_xor (rotate_left w8 b 1) (rotate_left w8 b 3)) (rotate_left w8 b 6)) 5) unaffine 256 tt c.args.b c.ranges.b.fits)
