-- The rule of the S-boxes: the two boxes undo each other. Assumes nothing.
use mathlib.Core.Path.{◌≡◌, ap, ◌∙◌}
use Prim.Native.Nat.{ℕ, ◌+◌, ◌<◌}
use native.Mathlib.Omega.{arith}
use Rattle.bits.proofs.Tables.{agree}
use Rattle.field.specs.Field.{inverse}
use Rattle.boxes.specs.Boxes.{low, from_bits, affine, unaffine, sub_byte, inv_sub_byte}
use Rattle.boxes.specs.Promises.{BoxesUndoEachOther}
use Rattle.field.proofs.Inverses.{listed_inverse, listed-inverse, inverse_byte, inverse-inverse}

affine-unaffine : (b : ℕ) → b < 256 → affine (unaffine b) ≡ b
unfolding low from_bits affine unaffine
affine-unaffine b h = agree (λ b. affine (unaffine b)) (λ b. b) 256 tt b h

unaffine-affine : (b : ℕ) → b < 256 → unaffine (affine b) ≡ b
unfolding low from_bits affine unaffine
unaffine-affine b h = agree (λ b. unaffine (affine b)) (λ b. b) 256 tt b h

from_bits_byte : (f : ℕ → ℕ) → from_bits f < 256
unfolding from_bits
from_bits_byte f = omega arith

pub sub_byte_byte : (b : ℕ) → sub_byte b < 256
unfolding sub_byte affine
sub_byte_byte b = from_bits_byte (λ i. low (inverse b) i + low (inverse b) (i + 4) + low (inverse b) (i + 5) + low (inverse b) (i + 6) + low (inverse b) (i + 7) + low 0x63 i)

pub unaffine_byte : (b : ℕ) → unaffine b < 256
unfolding unaffine
unaffine_byte b = from_bits_byte (λ i. low b (i + 2) + low b (i + 5) + low b (i + 7) + low 0x05 i)

-- SubBytes with its affine map undone
pub unaffine_sub : (b : ℕ) → unaffine (sub_byte b) ≡ inverse b
unfolding sub_byte
unaffine_sub b = unaffine-affine (inverse b) (inverse_byte b)

pub inv_sub_byte_byte : (b : ℕ) → inv_sub_byte b < 256
unfolding inv_sub_byte
inv_sub_byte_byte b = inverse_byte (unaffine b)

pub sub_inv : (b : ℕ) → b < 256 → sub_byte (inv_sub_byte b) ≡ b
unfolding sub_byte inv_sub_byte
sub_inv b h = ap affine (inverse-inverse (unaffine b) (unaffine_byte b)) ∙ affine-unaffine b h

pub inv_sub : (b : ℕ) → b < 256 → inv_sub_byte (sub_byte b) ≡ b
unfolding inv_sub_byte
inv_sub b h = ap inverse (unaffine_sub b) ∙ inverse-inverse b h

-- SubBytes by the listed inverses
pub listed_sub : (b : ℕ) → b < 256 → affine (listed_inverse b) ≡ sub_byte b
unfolding sub_byte
listed_sub b h = ap affine (listed-inverse b h)

-- ---- the promises

pub boxes_undo_each_other : BoxesUndoEachOther
boxes_undo_each_other =
    record { sub-byte = sub_byte_byte; inv-sub-byte = inv_sub_byte_byte; inv_sub = inv_sub; sub_inv = sub_inv }
