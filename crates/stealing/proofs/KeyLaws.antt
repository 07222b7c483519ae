-- Under an accepted key and IV the block functions are AES, and a message becomes one of its own length. Assumes
-- nothing.
use Prim.Native.Nat.{ℕ, ◌*◌, ◌≤◌, ◌<◌}
use mathlib.Core.Path.{◌≡◌, ap, ◌∙◌}
use mathlib.Core.Bool.{true}
use mathlib.Core.List.{List}
use native.Mathlib.Omega.{arith}
use borrow.Author.Tests.{eqb-true}
use lib.ListN.{length}
use lib.Seq.{length-take-le}
use Rattle.bits.specs.Texts.{bits, bytes_for, pack}
use Rattle.bits.specs.Blocks.{Bytes, Block, BlockCipher}
use Rattle.bits.proofs.Texts.{length-bits, length-pack}
use Rattle.aes.specs.Calls.{key_ok, encrypted, decrypted}
use Rattle.aes.specs.Promises.{KeyGivesCipher}
use Rattle.aes.proofs.CallLaws.{key_gives_cipher}
use Rattle.rules.specs.declared.Mode.TheVariants.{Cbc}
use Rattle.rules.specs.declared.Direction.{Direction}
use Rattle.questions.specs.Questions.{iv_ok}
use Rattle.modes.specs.Sessions.{fed_text}
use Rattle.stolen.specs.Stealing.{stolen_text}
use Rattle.stolen.specs.Promises.{StealingUndone}
use Rattle.stolen.proofs.UndoLaws.{stealing_undone}

-- What an accepted key and IV give.
pub record Keyed (key iv : List ℕ) : Type 0 where
  pub ciphers : BlockCipher (encrypted key) (decrypted key)
  pub block : Block iv

pub keyed : {key iv : List ℕ} → Bytes key → Bytes iv → key_ok key ≡ true → iv_ok Cbc iv ≡ true → Keyed key iv
unfolding KeyGivesCipher iv_ok
keyed {key} {iv} hk hi key_yes iv_yes =
    record { ciphers = key_gives_cipher key hk key_yes; block = record { size = eqb-true (length iv) 16 iv_yes; bytes = hi } }

pub length_fed : (input : List ℕ) (count : ℕ) → count ≤ 8 * length input → length (fed_text input count) ≡ count
unfolding fed_text
length_fed input count there = length-take-le count (bits input) (rw length-bits (omega arith))

module _ {key iv : List ℕ} (under : Keyed key iv) (dir : Direction) (input : List ℕ) (count : ℕ) (there : count ≤ 8 * length input) (long : 128 < count) where
  pub fed-long : 128 < length (fed_text input count)
  fed-long = rw (length_fed input count there) long

  pub stolen-length : length (stolen_text (encrypted key) (decrypted key) dir iv (fed_text input count)) ≡ count
  unfolding StealingUndone
  stolen-length = (stealing_undone (encrypted key) (decrypted key) dir iv (fed_text input count) under.ciphers under.block fed-long).same_length ∙ length_fed input count there

  pub stolen-bytes : length (pack (stolen_text (encrypted key) (decrypted key) dir iv (fed_text input count))) ≡ bytes_for count
  stolen-bytes = length-pack (stolen_text (encrypted key) (decrypted key) dir iv (fed_text input count)) ∙ ap bytes_for stolen-length
