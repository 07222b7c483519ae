-- A chain under a refused key, whose rounds are 0. Assumes nothing.
use Rattle.std.proofs.Common.{◌≡◌, ℕ, zero, suc, ◌<◌, Bool, true, false, List, replicate, refl, arith}
use Rattle.cipher.specs.Cipher.{rounds_ok, Enc, Dec}
use Rattle.aes.specs.Calls.{key_rounds}
use Rattle.chains.specs.Chains.{block_function, chain_of, chain_under}

pub refused_chain : (key : List ℕ) (decrypting : Bool) (k : ℕ) (block : List ℕ) → 0 ≡ key_rounds key → 0 < k → replicate 16 0 ≡ chain_under key decrypting k block
unfolding chain_under chain_of block_function Enc Dec rounds_ok
refused_chain key decrypting zero block e h = let n : ⊥ = omega arith in absurd n
refused_chain key true (suc k) block e h = rw (← e) refl
refused_chain key false (suc k) block e h = rw (← e) refl
