-- `bits::read::bytes_from` meets its contract. The loop's invariant: i bytes are there, and `high` is the byte that the
-- next one starts in. Assumes nothing.
use mathlib.Core.Path.{◌≡◌, sym, ap₂, ◌∙◌}
use Prim.Native.Nat.{ℕ, ◌-◌, ◌+◌, ◌*◌, ◌/◌, ◌%◌, ◌^◌}
use native.Mathlib.Omega.{arith}
use lib.ListN.{drop}
use Rattle.bits.specs.Texts.{bits}
use Rattle.bits.specs.Blocks.{Bytes}
use Rattle.bits.proofs.Packed.{pack_to_nil, store_next}
use Rattle.bits.proofs.Windows.{window_at}
use Rattle.bits.proofs.read.bytes_from.Goals as goal

bytes : (c : goal.After-two_bytes) → Bytes c.args.s.now
bytes c = record { byte = λ i. (c.type_inv.s i).fits }

pub loop-i-init : goal.loop-i-init
loop-i-init c =
    let e : c.args.offset / 8 + 0 ≡ c.args.offset / 8 = omega arith in
    (rw e c.byte_at-high.ensures, sym (pack_to_nil 16))

pub loop-i-preserved : goal.loop-i-preserved
loop-i-preserved c =
    let s = c.args.s.now in
    let offset = c.args.offset in
    let i = c.loop-i.i in
    let inv = c.loop-i.invariant in
    let next : offset / 8 + (i + 1) ≡ offset / 8 + i + 1 = omega arith in (
      rw next c.byte_at-low.ensures,
      store_next 16 i (drop offset (bits s)) inv.1
          (c.two_bytes.ensures
          ∙ ap₂ (λ (a b : ℕ). (a * 256 + b) / 2 ^ (8 - offset % 8) % 256) inv.0 c.byte_at-low.ensures
          ∙ sym (window_at s (bytes c) offset i))
          (omega arith),
    )

pub returns : goal.returns
returns c =
    let e : c.loop-i.i ≡ c.args.count = omega arith in
    rw e at c.loop-i.invariant.1
