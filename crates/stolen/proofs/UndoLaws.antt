-- Each direction keeps a message's length and is undone by the other: `StealingUndone`. Assumes nothing.
use Prim.Native.Nat.{ℕ}
use mathlib.Core.Path.{◌≡◌}
use mathlib.Core.Bool.{Bool}
use mathlib.Core.List.{List}
use lib.ListN.{length}
use lib.Seq.{take-append_seam}
use Rattle.bits.specs.Texts.{bits, xor_bits}
use Rattle.bits.specs.Blocks.{Block, BlockCipher}
use Rattle.rules.specs.declared.Direction.{Direction}
use Rattle.rules.specs.declared.Direction.TheVariants.{Encrypt, Decrypt}
use Rattle.rules.specs.Rules.{msb}
use Rattle.rules.specs.Standard.{ciph, ciph_inv, cbc_cipher, cbc_plain}
use Rattle.rules.specs.Promises.{other}
use Rattle.rules.proofs.Joined.{joined_same}
use Rattle.stolen.specs.Stealing.{filled, before, stolen_text}
use Rattle.stolen.specs.Promises.{GivenBack, StealingUndone}
use Rattle.stolen.proofs.BlockLaws.{Whole, iv_whole, xor-whole, xor-undo, ciphInv-whole, ciphInv-ciph, ciph-ciphInv, before_same, plain-cipher, cipher-plain}
use Rattle.stolen.proofs.TailLaws.{msb-length, block-restored, tail-uncovered, uncovered-length, block-covered}
use Rattle.stolen.proofs.PartLaws.{message, Parts, parts_same-length, in_parts, have-parts}
use Rattle.stolen.proofs.WorkedLaws.{chained, regained, ahead-cipher, ahead-plain, chained-whole, covered_whole, opened-whole, regained-whole, encrypted-parts, encrypted-have, decrypted-parts, decrypted-have}

module _ {enc dec : List ℕ → List ℕ} (ciphers : BlockCipher enc dec) {iv : List ℕ} (block : Block iv) {k : ℕ} {f : ℕ → List Bool} {a e : List Bool} (parts : Parts k f a e) where
  -- ---- encrypted, then decrypted

  abbrev X : List Bool
  X = chained enc dec iv k f a

  X-whole : Whole X
  X-whole = chained-whole enc dec iv parts ciphers block

  covered : ciph_inv enc dec (ciph enc dec (xor_bits (filled e) X)) ≡ xor_bits (filled e) X
  covered = ciphInv-ciph ciphers (covered_whole enc dec iv parts ciphers block)

  X-found : regained enc dec (ciph enc dec (xor_bits (filled e) X)) (msb (length e) X) ≡ X
  unfolding regained
  X-found = rw covered (block-restored parts.tail X-whole)

  X-undone : xor_bits (ciph_inv enc dec X) (before (cbc_cipher enc dec f (bits iv)) (bits iv) k) ≡ a
  unfolding chained
  X-undone =
      let ahead = ahead-cipher enc dec iv parts ciphers block in
      rw (ciphInv-ciph ciphers (xor-whole parts.whole ahead)) (xor-undo parts.whole ahead)

  decrypted-encrypted : stolen_text enc dec Decrypt iv (stolen_text enc dec Encrypt iv (message k f a e)) ≡ message k f a e
  decrypted-encrypted =
      rw (
        encrypted-parts enc dec iv parts,
        decrypted-parts enc dec iv (encrypted-have enc dec iv parts ciphers block),
        X-found,
        X-undone,
        covered,
        msb-length parts.tail X-whole,
        tail-uncovered parts.tail X-whole,
        joined_same k (plain-cipher ciphers (iv_whole block) parts.early),
      )

  -- ---- decrypted, then encrypted

  O-whole : Whole (ciph_inv enc dec a)
  O-whole = opened-whole enc dec iv parts ciphers block

  abbrev R : List Bool
  R = regained enc dec a e

  R-found : chained enc dec iv k (cbc_plain enc dec f (bits iv)) (xor_bits (ciph_inv enc dec R) (before f (bits iv) k)) ≡ R
  unfolding chained
  R-found =
      let whole = regained-whole enc dec iv parts ciphers block in
      rw (
        before_same (bits iv) k (cipher-plain ciphers (iv_whole block) parts.early),
        xor-undo (ciphInv-whole ciphers whole) (ahead-plain enc dec iv parts ciphers block),
      )
      (ciph-ciphInv ciphers whole)

  encrypted-decrypted : stolen_text enc dec Encrypt iv (stolen_text enc dec Decrypt iv (message k f a e)) ≡ message k f a e
  unfolding regained msb
  encrypted-decrypted =
      rw (
        decrypted-parts enc dec iv parts,
        encrypted-parts enc dec iv (decrypted-have enc dec iv parts ciphers block),
        R-found,
        block-covered parts.tail O-whole,
        ciph-ciphInv ciphers parts.whole,
        uncovered-length parts.tail O-whole,
        take-append_seam,
        joined_same k (cipher-plain ciphers (iv_whole block) parts.early),
      )

  -- ---- either direction

  given_back : (dir : Direction) → GivenBack enc dec dir iv (message k f a e)
  unfolding other
  given_back Encrypt =
      record {
        same_length = rw (encrypted-parts enc dec iv parts) (parts_same-length (encrypted-have enc dec iv parts ciphers block) parts (msb-length parts.tail X-whole));
        undone = decrypted-encrypted;
      }
  given_back Decrypt =
      record {
        same_length = rw (decrypted-parts enc dec iv parts) (parts_same-length (decrypted-have enc dec iv parts ciphers block) parts (uncovered-length parts.tail O-whole));
        undone = encrypted-decrypted;
      }

pub stealing_undone : StealingUndone
unfolding StealingUndone
stealing_undone enc dec dir iv x ciphers block long = rw (in_parts x long) at (given_back ciphers block (have-parts x long) dir)
