-- `bits::place::put_bytes` meets its contract. The loop's invariant: i bytes are written, and `high` holds the bits of
-- the next one that come from the byte before it. Assumes nothing.
use mathlib.Core.Path.{◌≡◌, sym, ap, ◌∙◌}
use mathlib.Core.List.{[], ◌∷◌, ◌++◌}
use Prim.Native.Nat.{ℕ, ◌<◌, ◌-◌, ◌/◌, ◌^◌}
use native.Mathlib.Numerals.{add-one}
use native.Mathlib.Omega.{arith}
use borrow.Author.Rules.{rules}
use lib.ListN.{length, get_or, take, drop}
use lib.Seq.{paste-zero, get_or-take, length-take-le}
use Rattle.bits.specs.Texts.{bits, pack_to}
use Rattle.bits.specs.Blocks.{Bytes}
use Rattle.bits.proofs.Owned.{arrays}
use Rattle.bits.proofs.Texts.{pack_to-length}
use Rattle.bits.proofs.Packed.{get_or-pack_to}
use Rattle.bits.proofs.Fills.{pasted_next}
use Rattle.bits.proofs.Places.{next_byte, none_before}
use Rattle.bits.proofs.place.put_bytes.Goals as goal

pub loop-i-init : goal.loop-i-init
loop-i-init c =
    let b = c.byte_at in
    let start = c.args in (
      c.two_bytes-high.ensures ∙ none_before b.result (8 - start.r) (omega arith) ∙ ap (λ (n : ℕ). n / 2 ^ (8 - start.r)) b.ensures,
      paste-zero start.out.now start.first [],
    )

pub loop-i-preserved : goal.loop-i-preserved
loop-i-preserved c =
    let start = c.args in
    let old = start.out.now in
    let first = start.first in
    let r = start.r in
    let text = take r (bits (drop first old)) ++ bits start.segment in
    let i = c.loop-i.i in
    let byte : get_or old first 0 < 256 = omega (arith, c.byte_at.ensures) in
    let bytes : Bytes start.segment = search arrays in
    let size : length start.segment ≡ 16 = search rules in
    let whole = length-take-le start.count start.segment (omega arith) in
    let low = get_or-take start.count start.segment i 0 (omega arith) in
    let n = pack_to-length start.count text in (
      low ∙ ap (λ (n : ℕ). get_or (get_or old first 0 / 2 ^ (8 - r) ∷ start.segment) n 0) (sym (add-one i)),
      pasted_next old first (pack_to start.count text) i c.loop-i.invariant.1
          (c.two_bytes.ensures
          ∙ next_byte old first r start.segment i (omega arith) (omega arith) byte bytes c.loop-i.invariant.0 low
          ∙ sym (get_or-pack_to start.count text i (omega arith)))
          (omega arith) (omega arith),
    )

pub returns : goal.returns
returns c =
    let size : length c.args.segment ≡ 16 = search rules in
    let whole = length-take-le c.args.count c.args.segment (omega arith) in
    let e : c.loop-i.i ≡ c.args.count = omega arith in
    record { written = rw e at c.loop-i.invariant.1; high = rw e at c.loop-i.invariant.0 }
