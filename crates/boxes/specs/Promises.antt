-- What is promised of the rules by which SubBytes and its inverse are defined (document 01, "The block cipher").
use Rattle.std.specs.Prelude.{ℕ, ◌<◌, ◌≡◌}
use Rattle.boxes.specs.Boxes.{sub_byte, inv_sub_byte}

-- SubBytes and InvSubBytes of a byte are bytes, and undo each other.
pub record BoxesUndoEachOther : Type 0 where
  pub sub-byte : (b : ℕ) → sub_byte b < 256
  pub inv-sub-byte : (b : ℕ) → inv_sub_byte b < 256
  pub inv_sub : (b : ℕ) → b < 256 → inv_sub_byte (sub_byte b) ≡ b
  pub sub_inv : (b : ℕ) → b < 256 → sub_byte (inv_sub_byte b) ≡ b
