-- Blocks as strings of 128 bits: the two block functions on them, and CBC by the block before. Assumes nothing.
use Prim.Native.Nat.{ℕ, zero, suc, ◌≤◌, ◌<◌}
use mathlib.Core.Path.{◌≡◌, refl, sym, ap, ap₂, ◌∙◌}
use mathlib.Core.Bool.{Bool}
use mathlib.Core.List.{List}
use native.Mathlib.Nat.{le_refl}
use native.Mathlib.Omega.{arith}
use lib.ListN.{length}
use Rattle.bits.specs.Texts.{bits, pack, xor_bits}
use Rattle.bits.specs.Blocks.{Block, BlockCipher}
use Rattle.bits.proofs.Texts.{pack-block, bits-block, block-bits-pack, block-pack-bits}
use Rattle.bits.proofs.Xors.{length-xor_bits, xor_bits_undo}
use Rattle.rules.specs.Standard.{ciph, ciph_inv, cbc_cipher, cbc_plain}
use Rattle.stolen.specs.Stealing.{before}

-- A block.
pub record Whole (x : List Bool) : Type 0 where
  pub size : length x ≡ 128

pub iv_whole : {iv : List ℕ} → Block iv → Whole (bits iv)
iv_whole block = record { size = bits-block block }

module _ {a b : List Bool} (whole : Whole a) (too : Whole b) where
  pub xor-whole : Whole (xor_bits a b)
  xor-whole = record { size = length-xor_bits a b (omega arith) ∙ whole.size }

  pub xor-undo : xor_bits (xor_bits a b) b ≡ a
  xor-undo = xor_bits_undo a b (omega arith)

-- ---- the block functions

module _ {enc dec : List ℕ → List ℕ} (ciphers : BlockCipher enc dec) {x : List Bool} (whole : Whole x) where
  packed : Block (pack x)
  packed = pack-block x whole.size

  pub ciph-whole : Whole (ciph enc dec x)
  unfolding ciph
  ciph-whole = record { size = bits-block (ciphers.enc_block (pack x) packed) }

  pub ciphInv-whole : Whole (ciph_inv enc dec x)
  unfolding ciph_inv
  ciphInv-whole = record { size = bits-block (ciphers.dec_block (pack x) packed) }

  pub ciphInv-ciph : ciph_inv enc dec (ciph enc dec x) ≡ x
  unfolding ciph ciph_inv
  ciphInv-ciph =
      rw (block-pack-bits (ciphers.enc_block (pack x) packed), ciphers.dec_enc (pack x) packed) (block-bits-pack x whole.size)

  pub ciph-ciphInv : ciph enc dec (ciph_inv enc dec x) ≡ x
  unfolding ciph ciph_inv
  ciph-ciphInv =
      rw (block-pack-bits (ciphers.dec_block (pack x) packed), ciphers.enc_dec (pack x) packed) (block-bits-pack x whole.size)

-- ---- the block before

pub before_whole : {c : ℕ → List Bool} {iv : List Bool} → Whole iv → (t : ℕ) → ((s : ℕ) → s < t → Whole (c s)) → Whole (before c iv t)
unfolding before
before_whole start zero full = start
before_whole start (suc t) full = full t (omega arith)

pub before_same : {c d : ℕ → List Bool} (iv : List Bool) (t : ℕ) → ((s : ℕ) → s < t → c s ≡ d s) → before c iv t ≡ before d iv t
unfolding before
before_same iv zero same = refl
before_same iv (suc t) same = same t (omega arith)

module _ (enc dec : List ℕ → List ℕ) (iv : List Bool) where
  pub cipher-by : (p : ℕ → List Bool) (t : ℕ) → cbc_cipher enc dec p iv t ≡ ciph enc dec (xor_bits (p t) (before (cbc_cipher enc dec p iv) iv t))
  unfolding cbc_cipher before
  cipher-by p zero = refl
  cipher-by p (suc t) = refl

  pub plain_by : (c : ℕ → List Bool) (t : ℕ) → cbc_plain enc dec c iv t ≡ xor_bits (ciph_inv enc dec (c t)) (before c iv t)
  unfolding cbc_plain before
  plain_by c zero = refl
  plain_by c (suc t) = refl

  -- Block t of either text comes from the other's blocks up to t.
  pub cipher-same : {p q : ℕ → List Bool} (t : ℕ) → ((s : ℕ) → s ≤ t → p s ≡ q s) → cbc_cipher enc dec p iv t ≡ cbc_cipher enc dec q iv t
  unfolding cbc_cipher
  cipher-same zero same = ap (λ (u : List Bool). ciph enc dec (xor_bits u iv)) (same 0 (le_refl 0))
  cipher-same (suc t) same =
      ap₂ (λ (u v : List Bool). ciph enc dec (xor_bits u v)) (same (suc t) (le_refl (suc t))) (cipher-same t (λ s h. same s (omega arith)))

  pub plain-same : {c d : ℕ → List Bool} (t : ℕ) → ((s : ℕ) → s ≤ t → c s ≡ d s) → cbc_plain enc dec c iv t ≡ cbc_plain enc dec d iv t
  plain-same {c} {d} t same =
      plain_by c t
      ∙ ap₂ (λ (u v : List Bool). xor_bits (ciph_inv enc dec u) v) (same t (le_refl t)) (before_same iv t (λ s h. same s (omega arith)))
      ∙ sym (plain_by d t)

-- ---- CBC on k blocks

module _ {enc dec : List ℕ → List ℕ} (ciphers : BlockCipher enc dec) {iv : List Bool} (start : Whole iv) {k : ℕ} {f : ℕ → List Bool} (full : (t : ℕ) → t < k → Whole (f t)) where
  pub cipher-whole : (t : ℕ) → t < k → Whole (cbc_cipher enc dec f iv t)
  unfolding cbc_cipher
  cipher-whole zero h = ciph-whole ciphers (xor-whole (full 0 h) start)
  cipher-whole (suc t) h = ciph-whole ciphers (xor-whole (full (suc t) h) (cipher-whole t (omega arith)))

  pub plain-whole : (t : ℕ) → t < k → Whole (cbc_plain enc dec f iv t)
  plain-whole t h =
      rw (plain_by enc dec iv f t) (xor-whole (ciphInv-whole ciphers (full t h)) (before_whole start t (λ s i. full s (omega arith))))

  pub plain-cipher : (t : ℕ) → t < k → cbc_plain enc dec (cbc_cipher enc dec f iv) iv t ≡ f t
  plain-cipher t h =
      let chained = before_whole start t (λ s i. cipher-whole s (omega arith)) in
      rw (plain_by enc dec iv (cbc_cipher enc dec f iv) t, cipher-by enc dec iv f t, ciphInv-ciph ciphers (xor-whole (full t h) chained))
      (xor-undo (full t h) chained)

  pub cipher-plain : (t : ℕ) → t < k → cbc_cipher enc dec (cbc_plain enc dec f iv) iv t ≡ f t
  unfolding cbc_cipher cbc_plain
  cipher-plain zero h = rw (xor-undo (ciphInv-whole ciphers (full 0 h)) start) (ciph-ciphInv ciphers (full 0 h))
  cipher-plain (suc t) h =
      rw (cipher-plain t (omega arith), xor-undo (ciphInv-whole ciphers (full (suc t) h)) (full t (omega arith))) (ciph-ciphInv ciphers (full (suc t) h))
