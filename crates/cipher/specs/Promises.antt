-- What is promised of Enc and Dec under given rounds and round keys.
use Rattle.std.specs.Prelude.{ℕ, ◌≡◌, true, List}
use Rattle.bits.specs.Blocks.{Bytes, BlockCipher}
use Rattle.cipher.specs.Cipher.{rounds_ok, Enc, Dec}

-- Enc and Dec undo each other under 10, 12 or 14 rounds and any round keys.
unfoldable pub UndoEachOther : Type 0
UndoEachOther = (nr : ℕ) (w : List ℕ) → rounds_ok nr ≡ true → Bytes w → BlockCipher (Enc nr w) (Dec nr w)
