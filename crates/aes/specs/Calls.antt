-- What the public calls answer (document 01, "The block cipher" and question 1).
use Rattle.std.specs.Prelude.{ℕ, ◌/◌, ◌≡◌, cond, List, length, replicate, Result, Ok, Err}
use Rattle.cipher.specs.Cipher.{Enc, Dec}
use Rattle.expansion.specs.KeyExpansion.{rounds_for, round_keys}
unfoldable pub use Rattle.expansion.specs.KeyExpansion.{key_ok}
use Rattle.aes.specs.declared.calls.Schedule.{Schedule}

-- The number of question 1.
abbrev pub bad_key : ℕ
bad_key = 1

unfoldable pub key_number : List ℕ → ℕ
key_number key = cond (key_ok key) 0 bad_key

-- The rounds of a key, and 0 for a refused one.
unfoldable pub key_rounds : List ℕ → ℕ
key_rounds key = cond (key_ok key) (rounds_for (length key / 4)) 0

-- Its 240 round key bytes, and zero bytes for a refused one.
unfoldable pub key_bytes : List ℕ → List ℕ
key_bytes key = cond (key_ok key) (round_keys key) (replicate 240 0)

-- One block under a key; zero bytes for a refused key, whose rounds are 0.
unfoldable pub encrypted : List ℕ → List ℕ → List ℕ
encrypted key block = Enc (key_rounds key) (key_bytes key) block

unfoldable pub decrypted : List ℕ → List ℕ → List ℕ
decrypted key block = Dec (key_rounds key) (key_bytes key) block

-- The paper's number and values of what a call answers.
abbrev pub number_in : {A E : Type 0} → Result A E → ℕ
number_in (Ok _) = 0
number_in (Err _) = bad_key

abbrev pub rounds_in : {E : Type 0} → Result Schedule E → ℕ
rounds_in (Ok schedule) = schedule.rounds
rounds_in (Err _) = 0

abbrev pub keys_in : {E : Type 0} → Result Schedule E → List ℕ
keys_in (Ok schedule) = schedule.keys
keys_in (Err _) = replicate 240 0

abbrev pub block_in : {E : Type 0} → Result (List ℕ) E → List ℕ
block_in (Ok block) = block
block_in (Err _) = replicate 16 0

-- What `expand` answers, and the one-block calls.
pub record Expanded (key : List ℕ) (number rounds : ℕ) (keys : List ℕ) : Type 0 where
  pub answer : number ≡ key_number key
  pub expanded_rounds : rounds ≡ key_rounds key
  pub expanded_keys : keys ≡ key_bytes key

pub record BlockAnswer (key : List ℕ) (result : List ℕ) (number : ℕ) (block : List ℕ) : Type 0 where
  pub answer : number ≡ key_number key
  pub answer_block : block ≡ result
