-- The last two blocks on bytes, and what is asked of the part of the input that they are.
use Rattle.std.specs.Prelude.{ℕ, ◌+◌, ◌*◌, ◌%◌, ◌≤◌, ◌<◌, ◌≡◌, true, List, ◌++◌, length, take, drop}
use Rattle.bits.specs.Xor.{xor_bytes}
use Rattle.bits.specs.Texts.{bits, bytes_for, pack}
use Rattle.cipher.specs.Cipher.{rounds_ok}
use Rattle.ending.specs.declared.Ending.{Ending}

-- ---- the last two blocks, from the register before them; the last one stands first in 16 bytes

pub record EncryptedBytes (enc : List ℕ → List ℕ) (register full tail : List ℕ) (r : Ending) : Type 0 where
  pub end_is : r.end ≡ enc (xor_bytes full register)
  pub block_is : r.block ≡ enc (xor_bytes tail (enc (xor_bytes full register)))

-- X again, of an end of `size` bits.
unfoldable pub restored_bytes : List ℕ → List ℕ → ℕ → List ℕ
restored_bytes end opened size = pack (take size (bits end)) ++ drop (bytes_for size) opened

pub record DecryptedBytes (dec : List ℕ → List ℕ) (register block end : List ℕ) (size : ℕ) (r : Ending) : Type 0 where
  pub end_is : r.end ≡ xor_bytes (dec block) (restored_bytes end (dec block) size)
  pub block_is : r.block ≡ xor_bytes (dec (restored_bytes end (dec block) size)) register

-- ---- what is asked

-- Of a part of the input that begins with the last two blocks.
pub record Ends (rounds size : ℕ) (part : List ℕ) : Type 0 where
  pub some : 0 < size
  pub small : size ≤ 128
  pub whole_bytes : size % 8 ≡ 0
  pub there : 128 + size ≤ length part * 8
  pub rounds_good : rounds_ok rounds ≡ true
