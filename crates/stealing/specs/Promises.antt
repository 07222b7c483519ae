-- What is promised of the calls (request 03).
use Rattle.std.specs.Prelude.{ℕ, ◌+◌, ◌*◌, ◌%◌, ◌≤◌, ◌<◌, ◌≡◌, ◌↔◌, Bool, List, length, take, drop}
use Rattle.bits.specs.Texts.{bytes_for}
use Rattle.bits.specs.Blocks.{Bytes}
use Rattle.aes.specs.Calls.{encrypted, decrypted}
use Rattle.aes.specs.Promises.{KeyLength}
use Rattle.rules.specs.declared.Direction.{Direction}
use Rattle.rules.specs.declared.Direction.TheVariants.{Encrypt, Decrypt}
use Rattle.rules.specs.Promises.{other}
use Rattle.modes.specs.Sessions.{fed_text}
use Rattle.stolen.specs.Stealing.{stolen_text}
use Rattle.stealing.specs.Calls.{StolenBy}
use Rattle.stolen.specs.Promises.{MessageRecovered}

-- Refused means unchanged.
unfoldable pub StealRefusedUnchanged : Type 0
StealRefusedUnchanged =
    (dir : Direction) (key iv input : List ℕ) (count : ℕ) (out : List ℕ) (place number : ℕ) (after : List ℕ)
    → StolenBy dir key iv input count out place number after → (number ≡ 0 → ⊥) → after ≡ out

-- Accepted means exactly the message's bytes, from `place` on.
pub record ExactlyTheMessage (dir : Direction) (key iv input : List ℕ) (count : ℕ) (out : List ℕ) (place : ℕ) (after : List ℕ) : Type 0 where
  pub same_size : length after ≡ length out
  pub ahead : take place after ≡ take place out
  pub behind : drop (place + bytes_for count) after ≡ drop (place + bytes_for count) out
  pub text : fed_text (drop place after) count ≡ stolen_text (encrypted key) (decrypted key) dir iv (fed_text input count)

unfoldable pub StealAcceptedExact : Type 0
StealAcceptedExact =
    (dir : Direction) (key iv input : List ℕ) (count : ℕ) (out : List ℕ) (place number : ℕ) (after : List ℕ) → Bytes key → Bytes iv
    → StolenBy dir key iv input count out place number after → number ≡ 0 → ExactlyTheMessage dir key iv input count out place after

-- What is accepted: a message of 17 to 65,536 whole bytes that are there, with room for as many.
pub record Acceptable (key iv input : List ℕ) (count : ℕ) (out : List ℕ) (place : ℕ) : Type 0 where
  pub key-length : KeyLength (length key)
  pub iv-length : length iv ≡ 16
  pub whole_bytes : count % 8 ≡ 0
  pub more_than_16 : 128 < count
  pub at_most : count ≤ 524288
  pub there : count ≤ 8 * length input
  pub room : place + bytes_for count ≤ length out

unfoldable pub StealAccepts : Type 0
StealAccepts =
    (dir : Direction) (key iv input : List ℕ) (count : ℕ) (out : List ℕ) (place number : ℕ) (after : List ℕ)
    → StolenBy dir key iv input count out place number after → (number ≡ 0) ↔ Acceptable key iv input count out place

-- What one call wrote the other takes, under the same key and IV, wherever there is room for it, and gives the message
-- back.
unfoldable pub MessageUndone : Type 0
MessageUndone =
    (dir : Direction) (key iv input : List ℕ) (count : ℕ) (out : List ℕ) (place number : ℕ) (after : List ℕ)
    (input' out' : List ℕ) (place' number' : ℕ) (after' : List ℕ) → Bytes key → Bytes iv
    → StolenBy dir key iv input count out place number after → number ≡ 0
    → StolenBy (other dir) key iv input' count out' place' number' after'
    → fed_text input' count ≡ fed_text (drop place after) count → place' + bytes_for count ≤ length out'
    → (number' ≡ 0) × (fed_text (drop place' after') count ≡ fed_text input count)

-- A message that a call sent, by encrypting it, or received, by decrypting it: its ciphertext x and its plaintext p.
pub data Message (key iv : List ℕ) : List Bool → List Bool → Type 0 where
  sent : {input : List ℕ} {count : ℕ} {out : List ℕ} {place number : ℕ} {after : List ℕ} → StolenBy Encrypt key iv input count out place number after → number ≡ 0 → Message key iv (fed_text (drop place after) count) (fed_text input count)
  received : {input : List ℕ} {count : ℕ} {out : List ℕ} {place number : ℕ} {after : List ℕ} → StolenBy Decrypt key iv input count out place number after → number ≡ 0 → Message key iv (fed_text input count) (fed_text (drop place after) count)

-- Two messages under one key, each sent or received, whatever their IVs and lengths.
unfoldable pub MessagesRecover : Type 0
MessagesRecover =
    (key v w : List ℕ) (x p y q : List Bool) → Bytes key → Bytes v → Bytes w → Message key v x p → Message key w y q → MessageRecovered v w x p y q
