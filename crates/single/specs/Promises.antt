-- What is promised of a single CBC block.
use Rattle.std.specs.Prelude.{ℕ, ◌+◌, ◌*◌, ◌/◌, ◌%◌, ◌≤◌, ◌<◌, ◌≡◌, ◌↔◌, true, List, [], length, take, drop}
use Rattle.bits.specs.Texts.{bits}
use Rattle.bits.specs.Blocks.{Bytes}
use Rattle.aes.specs.Promises.{KeyLength}
use Rattle.rules.specs.declared.Mode.TheVariants.{Cbc}
use Rattle.rules.specs.declared.Direction.TheVariants.{Decrypt}
use Rattle.rules.specs.Rules.{unit_at}
use Rattle.modes.specs.declared.session.Opened.{Opened}
use Rattle.modes.specs.declared.session.Fed.{Fed}
use Rattle.questions.specs.Questions.{ask}
use Rattle.modes.specs.Sessions.{OpenedBy, FedBy, session_text}
use Rattle.single.specs.Single.{block_at, block_ok, neighbour_questions, neighbour_answer, plain_block, SingleBy}

-- For every j the single block is block j of what a whole decrypting CBC feed of the ciphertext gives.
unfoldable pub BlockOfTheFeed : Type 0
BlockOfTheFeed =
    (key iv text : List ℕ) (j : ℕ) (r : Opened) → Bytes key → Bytes iv → Bytes text → OpenedBy Cbc Decrypt 128 128 key iv r → r.number ≡ 0
    → block_ok (length text) j ≡ true → bits (plain_block key iv text j) ≡ unit_at 128 (session_text r.session (bits text)) j

-- By the calls: what an accepted single block writes is block j of what an accepted feed of the whole ciphertext wrote.
unfoldable pub BlockByTheCalls : Type 0
BlockByTheCalls =
    (key iv text : List ℕ) (j : ℕ) (r : Opened) → Bytes key → Bytes iv → Bytes text → OpenedBy Cbc Decrypt 128 128 key iv r → r.number ≡ 0
    → (out : List ℕ) (place : ℕ) (fed : Fed) (after : List ℕ) → FedBy r.session text (length text * 8) out place fed after → fed.number ≡ 0
    → (out' : List ℕ) (place' number : ℕ) (after' : List ℕ) → SingleBy key iv text j out' place' number after' → number ≡ 0
    → take 16 (drop place' after') ≡ block_at (drop place after) j

-- Refused means unchanged.
unfoldable pub BlockRefusedUnchanged : Type 0
BlockRefusedUnchanged =
    (key iv text : List ℕ) (j : ℕ) (out : List ℕ) (place number : ℕ) (after : List ℕ) → SingleBy key iv text j out place number after
    → (number ≡ 0 → ⊥) → after ≡ out

-- Which single blocks are accepted, in plain numbers: document 01, "Questions before work".
pub record AcceptableSingle (key iv text : List ℕ) (j : ℕ) (out : List ℕ) (place : ℕ) : Type 0 where
  -- 1. The key is 16, 24 or 32 bytes long.
  pub key-length : KeyLength (length key)
  -- 2. The IV is 16 bytes long.
  pub iv-length : length iv ≡ 16
  -- 11. The ciphertext is a multiple of 16 bytes with j below its number of blocks.
  pub whole-blocks : length text % 16 ≡ 0
  pub block_there : j < length text / 16
  -- 8. The output place is at most the output's length, with enough bytes from there for the block.
  pub room : place + 16 ≤ length out

unfoldable pub SingleAccepts : Type 0
SingleAccepts =
    (key iv text : List ℕ) (j : ℕ) (out : List ℕ) (place number : ℕ) (after : List ℕ) → SingleBy key iv text j out place number after
    → (number ≡ 0) ↔ AcceptableSingle key iv text j out place

-- An empty neighbour is a refused one: one that is not refused has 16 bytes.
unfoldable pub EmptyIsRefused : Type 0
EmptyIsRefused =
    (iv text : List ℕ) (j : ℕ)
    → (ask (neighbour_questions iv text j) ≡ 0 → length (neighbour_answer iv text j) ≡ 16)
    × ((ask (neighbour_questions iv text j) ≡ 0 → ⊥) → neighbour_answer iv text j ≡ [])
