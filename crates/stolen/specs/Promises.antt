-- What is promised of ciphertext stealing, for any two block functions (request 03).
use Rattle.std.specs.Prelude.{ℕ, ◌+◌, ◌-◌, ◌*◌, ◌%◌, ◌<◌, ◌≡◌, Bool, false, List, ◌++◌, length, take, drop, replicate}
use Rattle.bits.specs.Blocks.{Block, BlockCipher}
use Rattle.rules.specs.declared.Mode.TheVariants.{Cbc}
use Rattle.rules.specs.declared.Direction.{Direction}
use Rattle.rules.specs.declared.Direction.TheVariants.{Encrypt, Decrypt}
use Rattle.rules.specs.Rules.{unit_at, units_in}
use Rattle.rules.specs.Standard.{standard}
use Rattle.rules.specs.Promises.{other, CommonRun}
use Rattle.stolen.specs.Stealing.{stolen_text}

-- A message becomes one of its own length, and the other direction gives it back.
pub record GivenBack (enc dec : List ℕ → List ℕ) (dir : Direction) (iv : List ℕ) (x : List Bool) : Type 0 where
  pub same_length : length (stolen_text enc dec dir iv x) ≡ length x
  pub undone : stolen_text enc dec (other dir) iv (stolen_text enc dec dir iv x) ≡ x

unfoldable pub StealingUndone : Type 0
StealingUndone =
    (enc dec : List ℕ → List ℕ) (dir : Direction) (iv : List ℕ) (x : List Bool) → BlockCipher enc dec → Block iv → 128 < length x
    → GivenBack enc dec dir iv x

-- Of whole blocks: it is plain CBC with the last two blocks of the ciphertext exchanged.
unfoldable pub exchanged : List Bool → List Bool
exchanged x = take (length x - 256) x ++ drop (length x - 128) x ++ take 128 (drop (length x - 256) x)

pub record PlainExchanged (enc dec : List ℕ → List ℕ) (iv : List ℕ) (x : List Bool) : Type 0 where
  pub encrypted_plain : stolen_text enc dec Encrypt iv x ≡ exchanged (standard enc dec Cbc Encrypt 128 128 iv x)
  pub decrypted_plain : stolen_text enc dec Decrypt iv x ≡ standard enc dec Cbc Decrypt 128 128 iv (exchanged x)

unfoldable pub WholeBlocksExchanged : Type 0
WholeBlocksExchanged =
    (enc dec : List ℕ → List ℕ) (iv : List ℕ) (x : List Bool) → BlockCipher enc dec → Block iv → 128 < length x → length x % 128 ≡ 0
    → PlainExchanged enc dec iv x

-- Of any length: its encryption is plain CBC of the message filled up with 0 bits to whole blocks, the last two blocks
-- exchanged, cut to the message's length.
unfoldable pub filled_up : List Bool → List Bool
filled_up x = x ++ replicate (units_in 128 (length x) * 128 - length x) false

unfoldable pub FilledAndCut : Type 0
FilledAndCut =
    (enc dec : List ℕ → List ℕ) (iv : List ℕ) (x : List Bool) → BlockCipher enc dec → Block iv → 128 < length x
    → stolen_text enc dec Encrypt iv x ≡ take (length x) (exchanged (standard enc dec Cbc Encrypt 128 128 iv (filled_up x)))

-- Block t of a message is none of its last two.
abbrev pub NotLastTwo : List Bool → ℕ → Type 0
NotLastTwo x t = t + 2 < units_in 128 (length x)

-- Recovery: x and y are two ciphertexts under the IVs v and w, p and q their plaintexts. Of a common run, wherever it
-- begins in each, every plaintext block is equal but the first, and the last two of either message. Of one from the
-- start under one IV the first is equal too.
pub record MessageRecovered (v w : List ℕ) (x p y q : List Bool) : Type 0 where
  pub after_loss : (i j k : ℕ) → CommonRun 128 x y i j k → (t : ℕ) → 0 < t → t < k → NotLastTwo x (i + t) → NotLastTwo y (j + t) → unit_at 128 p (i + t) ≡ unit_at 128 q (j + t)
  pub before_loss : v ≡ w → (k : ℕ) → CommonRun 128 x y 0 0 k → (t : ℕ) → t < k → NotLastTwo x t → NotLastTwo y t → unit_at 128 p t ≡ unit_at 128 q t

unfoldable pub StealingRecovers : Type 0
StealingRecovers =
    (enc dec : List ℕ → List ℕ) (v w : List ℕ) (x y : List Bool) → BlockCipher enc dec → Block v → Block w → 128 < length x → 128 < length y
    → MessageRecovered v w x (stolen_text enc dec Decrypt v x) y (stolen_text enc dec Decrypt w y)
