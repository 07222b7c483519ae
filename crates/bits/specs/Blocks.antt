-- Blocks, and what the modes may know of a block cipher (document 01: "two facts about the block cipher only").
use Rattle.std.specs.Prelude.{ℕ, ◌<◌, ◌≡◌, List, length, get_or}

-- Each number of a list is a byte. (Past the end `get_or` gives 0.)
pub record Bytes (b : List ℕ) : Type 0 where
  pub byte : (i : ℕ) → get_or b i 0 < 256

-- A block, or a register: 16 bytes.
pub record Block (b : List ℕ) : Type 0 where
  pub size : length b ≡ 16
  pub bytes : Bytes b

-- Two block functions: each takes blocks to blocks, and they undo each other.
pub record BlockCipher (enc dec : List ℕ → List ℕ) : Type 0 where
  pub enc_block : (b : List ℕ) → Block b → Block (enc b)
  pub dec_block : (b : List ℕ) → Block b → Block (dec b)
  pub dec_enc : (b : List ℕ) → Block b → dec (enc b) ≡ b
  pub enc_dec : (b : List ℕ) → Block b → enc (dec b) ≡ b
