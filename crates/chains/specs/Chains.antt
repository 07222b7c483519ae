-- A block function applied again and again, each time to what it gave before. (Not of a standard: what the benchmark
-- runs.)
use Rattle.std.specs.Prelude.{ℕ, zero, suc, Bool, cond, List}
use Rattle.cipher.specs.Cipher.{Enc, Dec}
use Rattle.aes.specs.Calls.{key_rounds, key_bytes}

-- Dec where `decrypting` holds, else Enc, under the rounds nr and the round keys w.
unfoldable pub block_function : Bool → ℕ → List ℕ → List ℕ → List ℕ
block_function decrypting nr w b = cond decrypting (Dec nr w b) (Enc nr w b)

-- The block after k applications.
unfoldable pub chain_of : Bool → ℕ → List ℕ → ℕ → List ℕ → List ℕ
chain_of decrypting nr w zero b = b
chain_of decrypting nr w (suc k) b = block_function decrypting nr w (chain_of decrypting nr w k b)

-- The same under a key; a refused key has 0 rounds and zero bytes.
unfoldable pub chain_under : List ℕ → Bool → ℕ → List ℕ → List ℕ
chain_under key decrypting k b = chain_of decrypting (key_rounds key) (key_bytes key) k b
