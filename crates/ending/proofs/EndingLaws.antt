-- The last two blocks on bytes are a message of two blocks: its last one, of s bytes, stands first in 16, with 00 after
-- it. Assumes nothing.
use Prim.Native.Nat.{ℕ, ◌+◌, ◌*◌, ◌/◌, ◌≤◌}
use mathlib.Core.Path.{◌≡◌, refl, sym, ap, ap₂, subst, ◌∙◌}
use mathlib.Core.Bool.{Bool}
use mathlib.Core.List.{List, ◌++◌}
use native.Mathlib.Omega.{arith}
use lib.ListN.{length, take, drop, length-append, length-take, length-drop}
use lib.Seq.{take-add, take_at}
use Rattle.bits.specs.Xor.{xor_bytes}
use Rattle.bits.specs.Texts.{bits, bytes_for, pack, pack_to, xor_bits}
use Rattle.bits.specs.Blocks.{Block, BlockCipher}
use Rattle.bits.proofs.Texts.{length-bits, bits-append, drop_bits, bits-pack, pack_bytes, length-pack, bytes_for_whole, append_bytes, drop_bytes, pack_to-length, pack_to_bytes, bits-pack_to, bits-pack_to_pad, block-pack-bits}
use Rattle.bits.proofs.Xors.{bits-xor_bytes, xor_bytes-block, take-xor_bits}
use Rattle.rules.specs.declared.Direction.TheVariants.{Encrypt, Decrypt}
use Rattle.rules.specs.Rules.{msb, joined}
use Rattle.rules.specs.Standard.{ciph, ciph_inv}
use Rattle.modes.proofs.WorkLaws.{aligned}
use Rattle.ending.specs.declared.Ending.{Ending}
use Rattle.stolen.specs.Stealing.{filled, before, stolen_text}
use Rattle.ending.specs.Inner.Endings.{EncryptedBytes, restored_bytes, DecryptedBytes, Ends}
use Rattle.stolen.proofs.BlockLaws.{Whole}
use Rattle.stolen.proofs.TailLaws.{Tail}
use Rattle.stolen.proofs.PartLaws.{two_parts}
use Rattle.stolen.proofs.WorkedLaws.{chained, regained, encrypted-parts, decrypted-parts}

-- Bits at the front of 16 bytes.
front_block : (x : List Bool) → Block (pack_to 16 x)
front_block x = record { size = pack_to-length 16 x; bytes = pack_to_bytes 16 x }

filled-bits : (tail : List Bool) → length tail ≤ 128 → bits (pack_to 16 tail) ≡ filled tail
unfolding filled
filled-bits tail h = bits-pack_to_pad 16 tail h

xor-bits : {a b : List ℕ} → Block a → Block b → bits (xor_bytes a b) ≡ xor_bits (bits a) (bits b)
xor-bits {a} {b} ha hb = bits-xor_bytes a b ha.bytes hb.bytes

module _ {enc dec : List ℕ → List ℕ} (ciphers : BlockCipher enc dec) where
  ciph-block : {b : List ℕ} → Block b → bits (enc b) ≡ ciph enc dec (bits b)
  unfolding ciph
  ciph-block h = ap (λ (b : List ℕ). bits (enc b)) (sym (block-pack-bits h))

  ciphInv-block : {b : List ℕ} → Block b → bits (dec b) ≡ ciph_inv enc dec (bits b)
  unfolding ciph_inv
  ciphInv-block h = ap (λ (b : List ℕ). bits (dec b)) (sym (block-pack-bits h))

  ciph-xor : {a b : List ℕ} → Block a → Block b → bits (enc (xor_bytes a b)) ≡ ciph enc dec (xor_bits (bits a) (bits b))
  ciph-xor ha hb = ciph-block (xor_bytes-block ha hb) ∙ ap (ciph enc dec) (xor-bits ha hb)

  module _ {register : List ℕ} (hr : Block register) {full tail : List Bool} (whole : Whole full) (last : Tail tail) where
    encrypted-ending : {size : ℕ} {r : Ending} → length tail ≡ size → EncryptedBytes enc register (pack_to 16 full) (pack_to 16 tail) r
        → bits r.block ++ take size (bits r.end) ≡ stolen_text enc dec Encrypt register (full ++ tail)
    unfolding joined chained before msb
    encrypted-ending {r = r} here e =
        let x = ciph-xor (front_block full) hr ∙ ap (λ (b : List Bool). ciph enc dec (xor_bits b (bits register))) (bits-pack_to 16 full whole.size) in
        let hx = ciphers.enc_block (xor_bytes (pack_to 16 full) register) (xor_bytes-block (front_block full) hr) in
        ap (λ (k : ℕ). bits r.block ++ take k (bits r.end)) (sym here)
        ∙ ap₂ (λ (a b : List Bool). a ++ take (length tail) b)
        (ap bits e.block_is ∙ ciph-xor (front_block tail) hx ∙ ap₂ (λ (a b : List Bool). ciph enc dec (xor_bits a b)) (filled-bits tail last.short) x)
        (ap bits e.end_is ∙ x)
        ∙ sym (encrypted-parts enc dec register (two_parts whole last))

  -- X again, on bytes and on bits
  module _ (s : ℕ) (end : List Bool) (bytes : length end ≡ s * 8) (short : length end ≤ 128) {opened : List ℕ} (ho : Block opened) where
    restored-is : restored_bytes (pack_to 16 end) opened (length end) ≡ pack end ++ drop s opened
    unfolding restored_bytes
    restored-is = ap₂ (λ (x : List Bool) (k : ℕ). pack x ++ drop k opened) (aligned end short) (ap bytes_for bytes ∙ bytes_for_whole s)

    restored-block : Block (pack end ++ drop s opened)
    restored-block =
        record {
          size = simp (length-append, length-pack, length-drop, bytes, bytes_for_whole) (omega (arith, ho.size));
          bytes = append_bytes (pack_bytes end) (drop_bytes s ho.bytes);
        }

    restored-bits : bits (pack end ++ drop s opened) ≡ end ++ drop (length end) (bits opened)
    restored-bits =
        bits-append (pack end) (drop s opened)
        ∙ ap₂ (λ (a b : List Bool). a ++ b) (bits-pack s end bytes) (sym (drop_bits s opened) ∙ ap (λ (k : ℕ). drop k (bits opened)) (sym bytes))

  module _ {register : List ℕ} (hr : Block register) {block end : List Bool} (whole : Whole block) (last : Tail end) (s : ℕ) (bytes : length end ≡ s * 8) where
    by_length : {r : Ending} → DecryptedBytes dec register (pack_to 16 block) (pack_to 16 end) (length end) r
        → bits r.block ++ take (length end) (bits r.end) ≡ stolen_text enc dec Decrypt register (block ++ end)
    unfolding joined regained before msb
    by_length {r} e =
        let o = dec (pack_to 16 block) in
        let ho : Block o = ciphers.dec_block (pack_to 16 block) (front_block block) in
        let hx : Block (pack end ++ drop s o) = restored-block s end bytes last.short ho in
        let opened : bits o ≡ ciph_inv enc dec block = ciphInv-block (front_block block) ∙ ap (ciph_inv enc dec) (bits-pack_to 16 block whole.size) in
        let x : bits (pack end ++ drop s o) ≡ end ++ drop (length end) (ciph_inv enc dec block) = restored-bits s end bytes last.short ho ∙ ap (λ (b : List Bool). end ++ drop (length end) b) opened in
        let is = restored-is s end bytes last.short ho in
        ap₂ (λ (a b : List Bool). a ++ b)
        (ap bits (e.block_is ∙ ap (λ (b : List ℕ). xor_bytes (dec b) register) is) ∙ xor-bits (ciphers.dec_block _ hx) hr
        ∙ ap (λ (a : List Bool). xor_bits a (bits register)) (ciphInv-block hx ∙ ap (ciph_inv enc dec) x))
        (ap (λ (b : List ℕ). take (length end) (bits b)) (e.end_is ∙ ap (xor_bytes o) is)
        ∙ ap (take (length end)) (xor-bits ho hx ∙ ap₂ xor_bits opened x)
        ∙ take-xor_bits (length end) (ciph_inv enc dec block) (end ++ drop (length end) (ciph_inv enc dec block))
        ∙ ap (xor_bits (take (length end) (ciph_inv enc dec block))) (take_at end (drop (length end) (ciph_inv enc dec block)) (length end) refl))
        ∙ sym (decrypted-parts enc dec register (two_parts whole last))

    decrypted-ending : {size : ℕ} {r : Ending} → length end ≡ size → DecryptedBytes dec register (pack_to 16 block) (pack_to 16 end) size r
        → bits r.block ++ take size (bits r.end) ≡ stolen_text enc dec Decrypt register (block ++ end)
    decrypted-ending {r = r} here = subst (λ (k : ℕ). DecryptedBytes dec register (pack_to 16 block) (pack_to 16 end) k r → bits r.block ++ take k (bits r.end) ≡ stolen_text enc dec Decrypt register (block ++ end)) here by_length

-- ---- the part of the input that the two blocks are

module _ {rounds size : ℕ} {part : List ℕ} (ends : Ends rounds size part) where
  block-whole : Whole (take 128 (bits part))
  block-whole = record { size = simp (length-take, length-bits) (omega (arith, ends.there)) }

  end-size : length (take size (drop 128 (bits part))) ≡ size
  end-size = simp (length-take, length-drop, length-bits) (omega (arith, ends.there))

  end-tail : Tail (take size (drop 128 (bits part)))
  end-tail = record { some = omega (arith, end-size, ends.some); short = omega (arith, end-size, ends.small) }

  module _ {enc dec : List ℕ → List ℕ} (ciphers : BlockCipher enc dec) {register : List ℕ} (hr : Block register) where
    pub part-encrypted : {r : Ending} → EncryptedBytes enc register (pack_to 16 (take 128 (bits part))) (pack_to 16 (take size (drop 128 (bits part)))) r
        → bits r.block ++ take size (bits r.end) ≡ stolen_text enc dec Encrypt register (take (128 + size) (bits part))
    part-encrypted e = rw (take-add 128) (encrypted-ending ciphers hr block-whole end-tail end-size e)

    pub part-decrypted : {r : Ending} → DecryptedBytes dec register (pack_to 16 (take 128 (bits part))) (pack_to 16 (take size (drop 128 (bits part)))) size r
        → bits r.block ++ take size (bits r.end) ≡ stolen_text enc dec Decrypt register (take (128 + size) (bits part))
    part-decrypted e = rw (take-add 128) (decrypted-ending ciphers hr block-whole end-tail (size / 8) (omega (arith, end-size, ends.whole_bytes)) end-size e)
