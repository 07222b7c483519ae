-- `bits::register::shift_in` meets its contract. The loop's invariant: i bytes of the shifted register are there.
-- Assumes nothing.
use mathlib.Core.Path.{◌≡◌, sym, ap, ◌∙◌}
use mathlib.Core.List.{List}
use Prim.Native.Nat.{ℕ}
use native.Mathlib.Nat.{le_refl}
use native.Mathlib.Omega.{arith}
use lib.ListN.{drop}
use Rattle.bits.specs.Texts.{bits, pack_to}
use Rattle.bits.specs.Blocks.{Bytes, Block}
use Rattle.bits.proofs.Owned.{arrays}
use Rattle.bits.proofs.Packed.{pack_to_nil, pack_to-cut, store_next}
use Rattle.bits.proofs.Windows.{window_at}
use Rattle.bits.proofs.Registers.{shift_window, shift_all}
use Rattle.bits.proofs.register.shift_in.Goals as goal

pub returns-then-n-ge128 : goal.returns-then-n-ge128
returns-then-n-ge128 c =
    let start = c.args in
    shift_all start.register start.segment (search arrays) (search arrays) start.n c.if-n-ge128.true

pub loop-i-init : goal.loop-i-init
loop-i-init c = sym (pack_to_nil 16)

pub loop-i-preserved : goal.loop-i-preserved
loop-i-preserved c =
    let n = c.args.n in
    let both = c.join-both.result in
    let i = c.loop-i.i in
    let bytes : Bytes both = search arrays in
    store_next 16 i (drop n (bits both)) c.loop-i.invariant (c.two_bytes.ensures ∙ sym (window_at both bytes n i)) (omega arith)

pub returns : goal.returns
returns c =
    let start = c.args in
    let both = c.join-both.result in
    let block : Block start.register = search arrays in
    let end : c.loop-i.i ≡ 16 = omega arith in
    (rw end at c.loop-i.invariant) ∙ pack_to-cut 16 128 (drop start.n (bits both)) (le_refl 128)
    ∙ ap (λ (l : List ℕ). pack_to 16 (drop start.n (bits l))) c.join-both.ensures
    ∙ shift_window start.register start.segment block start.n (omega arith)
