-- What is prepared, and what it is for. A crate above names `prepared_block` alone, and knows of it what `PreparedFor`
-- says.
use Rattle.std.specs.Prelude.{ℕ, ◌≡◌, Bool, cond, List}
use Rattle.bits.specs.Blocks.{Block}
use Rattle.cipher.specs.Cipher.{Enc, Dec}
unfoldable pub use Rattle.columns.specs.Block.{prepared_block}
use Rattle.prepared.specs.declared.counted.Ran.{Ran}
use Rattle.prepared.specs.Inner.Parts.{Holds, prepared_rule}

-- It is Enc, or Dec where `decrypting` holds, under these rounds and round keys.
pub record PreparedFor (decrypting : Bool) (rounds : ℕ) (keys p : List ℕ) : Type 0 where
  pub same : (b : List ℕ) → Block b → prepared_block p b ≡ cond decrypting (Dec rounds keys b) (Enc rounds keys b)

-- What `prepare` gives, for any rounds: each word by its rule, whatever stood there before, and what the words are for.
pub record PreparedBy (decrypting : Bool) (rounds : ℕ) (keys p : List ℕ) : Type 0 where
  pub words : Holds 1342 (prepared_rule decrypting rounds keys) p
  pub block_function : PreparedFor decrypting rounds keys p

-- What `run` gives: a block by the block function f, in one run of it.
pub record Counted (f : List ℕ → List ℕ) (block : List ℕ) (r : Ran) : Type 0 where
  pub made : r.block ≡ f block
  pub one_run : r.runs ≡ 1
