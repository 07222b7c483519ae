-- Recovery after loss: a plaintext block that is none of the last two comes from its own ciphertext block and the one
-- before it: `StealingRecovers`. Assumes nothing.
use Prim.Native.Nat.{ℕ, zero, suc, ◌+◌, ◌<◌}
use mathlib.Core.Path.{◌≡◌, sym, ap, ◌∙◌}
use mathlib.Core.Bool.{Bool}
use mathlib.Core.List.{List}
use native.Mathlib.Nat.{zero-add, add-suc}
use native.Mathlib.Omega.{arith}
use lib.ListN.{length}
use Rattle.bits.specs.Texts.{bits, xor_bits}
use Rattle.bits.specs.Blocks.{Block, BlockCipher}
use Rattle.rules.specs.declared.Direction.TheVariants.{Decrypt}
use Rattle.rules.specs.Rules.{unit_at}
use Rattle.rules.specs.Standard.{ciph_inv, cbc_plain}
use Rattle.rules.specs.Promises.{CommonRun}
use Rattle.stolen.specs.Stealing.{stolen_text}
use Rattle.stolen.specs.Promises.{NotLastTwo, StealingRecovers}
use Rattle.stolen.proofs.SplitLaws.{tail_last}
use Rattle.stolen.proofs.BlockLaws.{plain-same}
use Rattle.stolen.proofs.PartLaws.{message, Parts, unit-early, in_parts, have-parts}
use Rattle.stolen.proofs.WorkedLaws.{decrypted-parts, decrypted-have}

plain_later : (enc dec : List ℕ → List ℕ) (c : ℕ → List Bool) (iv : List Bool) (i t : ℕ)
    → cbc_plain enc dec c iv (i + suc t) ≡ xor_bits (ciph_inv enc dec (c (i + suc t))) (c (i + t))
unfolding cbc_plain
plain_later enc dec c iv i t = rw add-suc

module _ {enc dec : List ℕ → List ℕ} (ciphers : BlockCipher enc dec) where
  part-unit : {iv : List ℕ} → Block iv → {k : ℕ} {f : ℕ → List Bool} {a e : List Bool} → Parts k f a e → (t : ℕ) → t < k
      → unit_at 128 (stolen_text enc dec Decrypt iv (message k f a e)) t ≡ cbc_plain enc dec f (bits iv) t
  part-unit {iv} block parts t h = rw (decrypted-parts enc dec iv parts) (unit-early (decrypted-have enc dec iv parts ciphers block) t h)

  plain-unit : {iv : List ℕ} → Block iv → (x : List Bool) → 128 < length x → (t : ℕ) → NotLastTwo x t
      → unit_at 128 (stolen_text enc dec Decrypt iv x) t ≡ cbc_plain enc dec (unit_at 128 x) (bits iv) t
  plain-unit block x long t h =
      rw (in_parts x long) at (part-unit block (have-parts x long) t (omega (arith, tail_last (length x) long)))

  module _ {v w : List ℕ} (bv : Block v) (bw : Block w) {x y : List Bool} (lx : 128 < length x) (ly : 128 < length y) where
    after_loss : (i j k : ℕ) → CommonRun 128 x y i j k → (t : ℕ) → 0 < t → t < k → NotLastTwo x (i + t) → NotLastTwo y (j + t)
        → unit_at 128 (stolen_text enc dec Decrypt v x) (i + t) ≡ unit_at 128 (stolen_text enc dec Decrypt w y) (j + t)
    after_loss i j k run zero some h hx hy = absurd (omega arith)
    after_loss i j k run (suc t) some h hx hy =
        rw (
          plain-unit bv x lx (i + suc t) hx,
          plain-unit bw y ly (j + suc t) hy,
          plain_later enc dec (unit_at 128 x) (bits v) i t,
          plain_later enc dec (unit_at 128 y) (bits w) j t,
          run.equal (suc t) h,
          run.equal t (omega arith),
        )

    before_loss : v ≡ w → (k : ℕ) → CommonRun 128 x y 0 0 k → (t : ℕ) → t < k → NotLastTwo x t → NotLastTwo y t
        → unit_at 128 (stolen_text enc dec Decrypt v x) t ≡ unit_at 128 (stolen_text enc dec Decrypt w y) t
    before_loss same k run t h hx hy =
        plain-unit bv x lx t hx
        ∙ plain-same enc dec (bits v) t (λ s i. rw zero-add at (run.equal s (omega arith)))
        ∙ ap (λ (iv : List ℕ). cbc_plain enc dec (unit_at 128 y) (bits iv) t) same
        ∙ sym (plain-unit bw y ly t hy)

pub stealing_recovers : StealingRecovers
unfolding StealingRecovers
stealing_recovers enc dec v w x y ciphers bv bw lx ly =
    record {
      after_loss = λ i j k run t some inside hx hy. after_loss ciphers bv bw lx ly i j k run t (omega arith) inside (omega arith) (omega arith);
      before_loss = λ same k run t inside hx hy. before_loss ciphers bv bw lx ly same k run t inside (omega arith) (omega arith);
    }
