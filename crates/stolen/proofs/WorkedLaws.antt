-- What a message of parts becomes, and that it is one of parts again. Assumes nothing.
use Prim.Native.Nat.{ℕ, ◌<◌}
use mathlib.Core.Path.{◌≡◌, ap₂, ◌∙◌}
use mathlib.Core.Bool.{Bool}
use mathlib.Core.List.{List, ◌++◌}
use native.Mathlib.Numerals.{sub-one}
use native.Mathlib.Omega.{arith}
use lib.ListN.{length, drop}
use Rattle.bits.specs.Texts.{bits, xor_bits}
use Rattle.bits.specs.Blocks.{Block, BlockCipher}
use Rattle.rules.specs.declared.Direction.TheVariants.{Encrypt, Decrypt}
use Rattle.rules.specs.Rules.{msb, unit_at}
use Rattle.rules.specs.Standard.{ciph, ciph_inv, cbc_cipher, cbc_plain}
use Rattle.rules.proofs.Joined.{joined_same}
use Rattle.stolen.specs.Stealing.{filled, before, last_full, opened, restored, stolen_text}
use Rattle.stolen.proofs.SplitLaws.{encrypted-split, decrypted-split}
use Rattle.stolen.proofs.BlockLaws.{Whole, iv_whole, xor-whole, ciph-whole, ciphInv-whole, before_whole, before_same, cipher-by, cipher-same, cipher-whole, plain_by, plain-same, plain-whole}
use Rattle.stolen.proofs.TailLaws.{filled_whole, msb-tail, uncovered-tail, extended-whole}
use Rattle.stolen.proofs.PartLaws.{message, Parts, parts-long, parts-full, unit-early, unit-before, unit-end}

module _ (enc dec : List ℕ → List ℕ) where
  -- X from a plaintext: what CBC makes of the block `a` after k blocks.
  unfoldable pub chained : List ℕ → ℕ → (ℕ → List Bool) → List Bool → List Bool
  chained iv k f a = ciph enc dec (xor_bits a (before (cbc_cipher enc dec f (bits iv)) (bits iv) k))

  -- X from a ciphertext: of the end `e` and of the block `a` before it.
  unfoldable pub regained : List Bool → List Bool → List Bool
  regained a e = e ++ drop (length e) (ciph_inv enc dec a)

module _ (enc dec : List ℕ → List ℕ) (iv : List ℕ) {k : ℕ} {f : ℕ → List Bool} {a e : List Bool} (parts : Parts k f a e) where
  abbrev unit : ℕ → List Bool
  unit = unit_at 128 (message k f a e)

  -- ---- CBC on the message and on its parts

  pub early-cipher : (t : ℕ) → t < k → cbc_cipher enc dec unit (bits iv) t ≡ cbc_cipher enc dec f (bits iv) t
  early-cipher t h = cipher-same enc dec (bits iv) t (λ s i. unit-early parts s (omega arith))

  pub last-cipher : cbc_cipher enc dec unit (bits iv) k ≡ chained enc dec iv k f a
  unfolding chained
  last-cipher =
      cipher-by enc dec (bits iv) unit k
      ∙ ap₂ (λ (u v : List Bool). ciph enc dec (xor_bits u v)) (unit-before parts) (before_same (bits iv) k early-cipher)

  pub early-plain : (t : ℕ) → t < k → cbc_plain enc dec unit (bits iv) t ≡ cbc_plain enc dec f (bits iv) t
  early-plain t h = plain-same enc dec (bits iv) t (λ s i. unit-early parts s (omega arith))

  pub last-plain : cbc_plain enc dec unit (bits iv) k ≡ xor_bits (ciph_inv enc dec a) (before f (bits iv) k)
  last-plain =
      plain_by enc dec (bits iv) unit k
      ∙ ap₂ (λ (u v : List Bool). xor_bits (ciph_inv enc dec u) v) (unit-before parts) (before_same (bits iv) k (unit-early parts))

  -- ---- the two directions

  abbrev X : List Bool
  X = chained enc dec iv k f a

  pub encrypted-parts : stolen_text enc dec Encrypt iv (message k f a e)
      ≡ message k (cbc_cipher enc dec f (bits iv)) (ciph enc dec (xor_bits (filled e) X)) (msb (length e) X)
  unfolding last_full
  encrypted-parts =
      rw (
        encrypted-split enc dec iv (message k f a e) (parts-long parts),
        parts-full parts,
        sub-one,
        unit-end parts,
        last-cipher,
        joined_same k early-cipher,
      )

  abbrev O : List Bool
  O = ciph_inv enc dec a

  pub decrypted-parts : stolen_text enc dec Decrypt iv (message k f a e)
      ≡ message k (cbc_plain enc dec f (bits iv)) (xor_bits (ciph_inv enc dec (regained enc dec a e)) (before f (bits iv) k)) (xor_bits (msb (length e) O) e)
  unfolding restored opened regained
  decrypted-parts =
      rw (
        decrypted-split enc dec iv (message k f a e) (parts-long parts),
        parts-full parts,
        sub-one,
        unit-end parts,
        unit-before parts,
        before_same (bits iv) k (unit-early parts),
        joined_same k early-plain,
      )

  -- ---- the results are of parts

  module _ (ciphers : BlockCipher enc dec) (block : Block iv) where
    -- what CBC takes by XOR to the block before the end, of a plaintext and of a ciphertext
    pub ahead-cipher : Whole (before (cbc_cipher enc dec f (bits iv)) (bits iv) k)
    ahead-cipher = before_whole (iv_whole block) k (cipher-whole ciphers (iv_whole block) parts.early)

    pub ahead-plain : Whole (before f (bits iv) k)
    ahead-plain = before_whole (iv_whole block) k parts.early

    pub chained-whole : Whole X
    unfolding chained
    chained-whole = ciph-whole ciphers (xor-whole parts.whole ahead-cipher)

    pub covered_whole : Whole (xor_bits (filled e) X)
    covered_whole = xor-whole (filled_whole parts.tail) chained-whole

    pub encrypted-have : Parts k (cbc_cipher enc dec f (bits iv)) (ciph enc dec (xor_bits (filled e) X)) (msb (length e) X)
    encrypted-have =
        record {
          early = cipher-whole ciphers (iv_whole block) parts.early;
          whole = ciph-whole ciphers covered_whole;
          tail = msb-tail parts.tail chained-whole;
        }

    pub opened-whole : Whole O
    opened-whole = ciphInv-whole ciphers parts.whole

    pub regained-whole : Whole (regained enc dec a e)
    unfolding regained
    regained-whole = extended-whole parts.tail opened-whole

    pub decrypted-have : Parts k (cbc_plain enc dec f (bits iv)) (xor_bits (ciph_inv enc dec (regained enc dec a e)) (before f (bits iv) k)) (xor_bits (msb (length e) O) e)
    decrypted-have =
        record {
          early = plain-whole ciphers (iv_whole block) parts.early;
          whole = xor-whole (ciphInv-whole ciphers regained-whole) ahead-plain;
          tail = uncovered-tail parts.tail opened-whole;
        }
