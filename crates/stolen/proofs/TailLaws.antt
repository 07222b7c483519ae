-- A tail filled with 0 bits, and what stands in for the bits that it lacks. Assumes nothing.
use Prim.Native.Nat.{ℕ, zero, suc, ◌-◌, ◌≤◌, ◌<◌}
use mathlib.Core.Path.{◌≡◌, refl, ap, ◌∙◌}
use mathlib.Core.Bool.{Bool, false}
use mathlib.Core.List.{List, [], ◌∷◌, ◌++◌, append-nil}
use native.Mathlib.Nat.{suc_inj}
use native.Mathlib.Omega.{arith}
use lib.ListN.{length, take, drop, replicate, length-append, length-drop, length-replicate, take-append-drop, drop_of_length-le}
use lib.Seq.{take_all, length-take-le, take-append_seam, drop-append_seam}
use Rattle.bits.specs.Texts.{xor_bit, xor_bits}
use Rattle.bits.proofs.Xors.{length-xor_bits, xor_bits_undo, take-xor_bits, drop-xor_bits, xor_bits-append}
use Rattle.rules.specs.Rules.{msb}
use Rattle.stolen.specs.Stealing.{filled}
use Rattle.stolen.proofs.BlockLaws.{Whole}

-- A tail, or an end: 1 to 128 bits.
pub record Tail (e : List Bool) : Type 0 where
  pub some : 0 < length e
  pub short : length e ≤ 128

zeros_xor : (n : ℕ) (y : List Bool) → length y ≡ n → xor_bits (replicate n false) y ≡ y
unfolding xor_bits xor_bit
zeros_xor zero [] e = refl
zeros_xor zero (b ∷ y) e = absurd (omega arith)
zeros_xor (suc n) [] e = absurd (omega arith)
zeros_xor (suc n) (b ∷ y) e = ap (λ (t : List Bool). b ∷ t) (zeros_xor n y (suc_inj e))

pub filled_whole : {e : List Bool} → Tail e → Whole (filled e)
unfolding filled
filled_whole tail = record { size = simp (length-append, length-replicate) (omega arith) }

module _ {e x : List Bool} (tail : Tail e) (whole : Whole x) where
  pub msb-length : length (msb (length e) x) ≡ length e
  unfolding msb
  msb-length = length-take-le (length e) x (omega arith)

  rest-xor : xor_bits (replicate (128 - length e) false) (drop (length e) x) ≡ drop (length e) x
  rest-xor = zeros_xor (128 - length e) (drop (length e) x) (simp (length-drop, whole.size))

  -- ---- the filled tail under the block x, and both out of it again

  pub msb-tail : Tail (msb (length e) x)
  msb-tail = record { some = rw msb-length tail.some; short = rw msb-length tail.short }

  rest-shown : drop (length e) (xor_bits (filled e) x) ≡ drop (length e) x
  unfolding filled
  rest-shown = rw (drop-xor_bits, drop-append_seam) rest-xor

  pub block-restored : msb (length e) x ++ drop (length (msb (length e) x)) (xor_bits (filled e) x) ≡ x
  unfolding msb
  block-restored = rw (msb-length, rest-shown) (take-append-drop (length e) x)

  pub tail-uncovered : xor_bits (msb (length e) (xor_bits (filled e) x)) (msb (length e) x) ≡ e
  unfolding msb filled
  tail-uncovered = rw (take-xor_bits, take-append_seam) (xor_bits_undo e (take (length e) x) (omega (arith, msb-length)))

  -- ---- a tail out of the block x and the end e, and the block out of it again

  pub uncovered-length : length (xor_bits (msb (length e) x) e) ≡ length e
  uncovered-length = length-xor_bits (msb (length e) x) e (omega (arith, msb-length)) ∙ msb-length

  pub uncovered-tail : Tail (xor_bits (msb (length e) x) e)
  uncovered-tail = record { some = rw uncovered-length tail.some; short = rw uncovered-length tail.short }

  pub extended-whole : Whole (e ++ drop (length e) x)
  extended-whole = record { size = simp (length-append, length-drop) (omega arith) }

  pub block-covered : xor_bits (filled (xor_bits (msb (length e) x) e)) (e ++ drop (length e) x) ≡ x
  unfolding filled msb
  block-covered =
      rw (
        uncovered-length,
        xor_bits-append (xor_bits (take (length e) x) e) (replicate (128 - length e) false) e (drop (length e) x) uncovered-length,
        xor_bits_undo (take (length e) x) e (omega (arith, msb-length)),
        rest-xor,
      )
      (take-append-drop (length e) x)

-- ---- a tail of 128 bits lacks none

pub whole_tail : {e : List Bool} → Whole e → Tail e
whole_tail whole = record { some = omega arith; short = omega arith }

pub filled-all : {e : List Bool} → Whole e → filled e ≡ e
unfolding filled
filled-all whole = rw (whole.size, append-nil)

module _ {e x : List Bool} (tail : Whole e) (whole : Whole x) where
  pub msb-all : msb (length e) x ≡ x
  unfolding msb
  msb-all = take_all (length e) x (omega arith)

  pub rest-none : e ++ drop (length e) x ≡ e
  rest-none = rw (drop_of_length-le x {i = length e} (omega arith), append-nil)
