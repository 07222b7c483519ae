-- After the blocks that are fed, the last two are a message of their own, under what CBC then has in its register.
-- Assumes nothing.
use Prim.Native.Nat.{ℕ, ◌-◌, ◌*◌, ◌≤◌, ◌<◌}
use mathlib.Core.Path.{◌≡◌, sym, ap, ◌∙◌}
use mathlib.Core.Bool.{Bool}
use mathlib.Core.List.{List, ◌++◌, append_assoc}
use native.Mathlib.Omega.{arith}
use lib.ListN.{length, take, drop}
use lib.Seq.{drop_at}
use Rattle.bits.specs.Texts.{bits}
use Rattle.bits.specs.Blocks.{Block, BlockCipher}
use Rattle.rules.specs.declared.Mode.TheVariants.{Cbc}
use Rattle.rules.specs.declared.Direction.{Direction}
use Rattle.rules.specs.declared.Direction.TheVariants.{Encrypt, Decrypt}
use Rattle.rules.specs.Rules.{unit_at, joined, register_at, worked}
use Rattle.rules.specs.Standard.{standard_at}
use Rattle.rules.proofs.Joined.{joined_length}
use Rattle.stolen.specs.Stealing.{full_blocks, before, stolen_text}
use Rattle.stolen.proofs.PartLaws.{message, Parts, two_parts, in_parts, have-parts}
use Rattle.stolen.proofs.WorkedLaws.{chained, regained, encrypted-parts, decrypted-parts}
use Rattle.stolen.proofs.FrontLaws.{cipher_blocks, front-text, front-register}

module _ (enc dec : List ℕ → List ℕ) (iv : List ℕ) {k : ℕ} {f : ℕ → List Bool} {a e : List Bool} (parts : Parts k f a e) (r : List ℕ) where
  split_parts : (dir : Direction) → bits r ≡ before (cipher_blocks enc dec dir iv f) (bits iv) k
      → stolen_text enc dec dir iv (message k f a e) ≡ joined k (standard_at enc dec Cbc dir 128 128 iv f) ++ stolen_text enc dec dir r (a ++ e)
  unfolding joined chained regained before standard_at cipher_blocks
  split_parts Encrypt here = rw (encrypted-parts enc dec iv parts, encrypted-parts enc dec r (two_parts parts.whole parts.tail), here, append_assoc)
  split_parts Decrypt here = rw (decrypted-parts enc dec iv parts, decrypted-parts enc dec r (two_parts parts.whole parts.tail), here, append_assoc)

  parts-rest : drop (k * 128) (message k f a e) ≡ a ++ e
  parts-rest = rw append_assoc (drop_at (joined k f) (a ++ e) (k * 128) (joined_length k f (λ t h. (parts.early t h).size)))

module _ {enc dec : List ℕ → List ℕ} (ciphers : BlockCipher enc dec) {iv : List ℕ} (hi : Block iv) (x : List Bool) (long : 128 < length x) where
  abbrev k : ℕ
  k = full_blocks (length x) - 1

  inside : k * 128 ≤ length x
  unfolding full_blocks
  inside = omega arith

  pub fed-and-ended : (dir : Direction) → worked enc dec Cbc dir 128 128 iv (take (k * 128) x) ++ stolen_text enc dec dir (register_at enc dec Cbc dir 128 128 iv (take (k * 128) x) k) (drop (k * 128) x)
      ≡ stolen_text enc dec dir iv x
  fed-and-ended dir =
      let parts = have-parts x long in
      let r = register_at enc dec Cbc dir 128 128 iv (take (k * 128) x) k in
      let rest : drop (k * 128) x ≡ unit_at 128 x k ++ unit_at 128 x (full_blocks (length x)) = ap (drop (k * 128)) (sym (in_parts x long)) ∙ parts-rest enc dec iv parts r in
      let split = split_parts enc dec iv parts r dir (front-register ciphers hi x k inside dir k (omega arith)) in
      rw (front-text ciphers hi x k inside dir, rest) (sym split ∙ ap (stolen_text enc dec dir iv) (in_parts x long))
