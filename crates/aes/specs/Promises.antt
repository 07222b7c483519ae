-- What is promised of the public calls under a key: what an accepted key gives, and what a refused call does.
use Rattle.std.specs.Prelude.{ℕ, ◌≡◌, true, List, ◌⊎◌, ◌↔◌, length, replicate}
use Rattle.bits.specs.Blocks.{Bytes, BlockCipher}
use Rattle.cipher.specs.Cipher.{rounds_ok}
use Rattle.aes.specs.Calls.{key_ok, key_number, key_rounds, key_bytes, encrypted, decrypted, Expanded, BlockAnswer}

-- An accepted key gives 10, 12 or 14 rounds and 240 bytes of round keys. The modes rely on it.
pub record KeyExpands (key : List ℕ) : Type 0 where
  pub rounds : rounds_ok (key_rounds key) ≡ true
  pub size : length (key_bytes key) ≡ 240
  pub bytes : Bytes (key_bytes key)

unfoldable pub AcceptedExpands : Type 0
AcceptedExpands = (key : List ℕ) → Bytes key → key_ok key ≡ true → KeyExpands key

-- An accepted key gives a block cipher: under it each of the two calls takes blocks to blocks, and they undo each
-- other. (Document 01, "two facts about the block cipher only"; `UndoEachOther` says it of Enc and Dec under given
-- round keys.)
unfoldable pub KeyGivesCipher : Type 0
KeyGivesCipher = (key : List ℕ) → Bytes key → key_ok key ≡ true → BlockCipher (encrypted key) (decrypted key)

unfoldable pub KeyLength : ℕ → Type 0
KeyLength n = (n ≡ 16) ⊎ (n ≡ 24) ⊎ (n ≡ 32)

-- The number, which `expand`, `encrypt` and `decrypt` all answer: 0 exactly where the key is 16, 24 or 32 bytes long,
-- else 1. With 1 come 0 rounds and 240 zero bytes, or 16 zero bytes.
pub record CallsAnswer : Type 0 where
  pub accepted : (key : List ℕ) → (key_number key ≡ 0) ↔ KeyLength (length key)
  pub refused : (key : List ℕ) → (key_number key ≡ 1) ↔ (KeyLength (length key) → ⊥)
  pub expand_refused : {key : List ℕ} {number rounds : ℕ} {keys : List ℕ} → Expanded key number rounds keys → number ≡ 1 → (rounds ≡ 0) × (keys ≡ replicate 240 0)
  pub encrypt_refused : {key : List ℕ} (block : List ℕ) {number : ℕ} {out : List ℕ} → BlockAnswer key (encrypted key block) number out → number ≡ 1 → out ≡ replicate 16 0
  pub decrypt_refused : {key : List ℕ} (block : List ℕ) {number : ℕ} {out : List ℕ} → BlockAnswer key (decrypted key block) number out → number ≡ 1 → out ≡ replicate 16 0
