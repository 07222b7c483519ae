-- `bits::read::part_of_block` meets its contract: of the last byte only the text's own bits are kept. Assumes nothing.
use mathlib.Core.Path.{◌≡◌, ap, ◌∙◌}
use Prim.Native.Nat.{ℕ, ◌+◌, ◌*◌, ◌/◌}
use native.Mathlib.Omega.{arith}
use lib.ListN.{take, drop}
use Rattle.std.proofs.lemmas.Grind.{div_ceil_times}
use Rattle.bits.specs.Texts.{bits, pack_to}
use Rattle.bits.proofs.Packed.{store_last}
use Rattle.bits.proofs.read.part_of_block.Goals as goal

pub returns-then-used-ne0 : goal.returns-then-used-ne0
returns-then-used-ne0 c =
    let start = c.args in
    let n = start.n in
    let x = drop start.offset (bits start.s.now) in
    let whole : c.div_ceil.result * 8 ≡ n / 8 * 8 + 8 = omega (arith, c.div_ceil.ensures, div_ceil_times n 8) in
    store_last 16 n x (c.bytes_from-out.ensures ∙ ap (λ (m : ℕ). pack_to 16 (take m x)) whole) c.first_bits.ensures (omega arith)

pub returns-else-used-ne0 : goal.returns-else-used-ne0
returns-else-used-ne0 c =
    let start = c.args in
    let whole : c.div_ceil.result * 8 ≡ start.n = omega (arith, c.div_ceil.ensures, div_ceil_times start.n 8) in
    rw whole at c.bytes_from-out.ensures
