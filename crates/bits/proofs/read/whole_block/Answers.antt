-- `bits::read::whole_block` meets its contract: at a whole byte's place the bytes are the slice's own. Assumes nothing.
use mathlib.Core.Path.{◌≡◌, ◌∙◌}
use Prim.Native.Nat.{ℕ, ◌+◌, ◌*◌, ◌/◌}
use native.Mathlib.Nat.{le_refl}
use native.Mathlib.Omega.{arith}
use borrow.Author.Rules.{rules}
use lib.ListN.{drop}
use lib.Seq.{drop-drop}
use Rattle.bits.specs.Blocks.{Bytes}
use Rattle.bits.specs.Texts.{bits, pack_to}
use Rattle.bits.proofs.Made.{made}
use Rattle.bits.proofs.Packed.{get_or-pack_to, pack_to-cut}
use Rattle.bits.proofs.Texts.{pack_to-length}
use Rattle.bits.proofs.Windows.{byte_at}
use Rattle.bits.proofs.read.whole_block.Goals as goal

pub returns-then-first-s : goal.returns-then-first-s
returns-then-first-s c =
    let start = c.args in
    let s = start.s.now in
    let bytes : Bytes s = record { byte = λ i. (c.type_inv.s i).fits } in
    let x = drop start.offset (bits s) in
    let place : (k : ℕ) → start.offset + k * 8 ≡ (start.offset / 8 + k) * 8 = λ k. omega arith in
    made 0 (pack_to 16 x) c.from_fn.ensures.items (pack_to-length 16 x)
    (λ k h y q call. rw (get_or-pack_to 16 x k h, drop-drop, place k, byte_at s bytes (start.offset / 8 + k)) (search rules))

pub returns : goal.returns
returns c =
    let start = c.args in
    c.bytes_from.ensures ∙ pack_to-cut 16 128 (drop start.offset (bits start.s.now)) (le_refl 128)
