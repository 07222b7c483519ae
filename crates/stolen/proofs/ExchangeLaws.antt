-- Stealing by plain CBC, the last two ciphertext blocks exchanged: of whole blocks (`WholeBlocksExchanged`), and of any
-- length, filled up and cut (`FilledAndCut`). Assumes nothing.
use Prim.Native.Nat.{ℕ, ◌+◌, ◌-◌, ◌*◌, ◌%◌, ◌<◌}
use mathlib.Core.Path.{◌≡◌, refl, sym}
use mathlib.Core.Bool.{Bool, false}
use mathlib.Core.List.{List, ◌++◌, append_assoc}
use native.Mathlib.Omega.{arith}
use lib.ListN.{length, take, replicate, length-append}
use lib.Seq.{take_at, take-add, take-append_seam, drop-append_seam}
use Rattle.bits.specs.Texts.{bits, xor_bits}
use Rattle.bits.specs.Blocks.{Block, BlockCipher}
use Rattle.rules.specs.declared.Mode.TheVariants.{Cbc}
use Rattle.rules.specs.declared.Direction.TheVariants.{Encrypt, Decrypt}
use Rattle.rules.specs.Rules.{msb, unit_at, units_in, joined}
use Rattle.rules.specs.Standard.{ciph, ciph_inv, cbc_cipher, cbc_plain, standard_at, standard}
use Rattle.rules.proofs.Joined.{unit_length, joined_same}
use Rattle.stolen.specs.Stealing.{full_blocks, filled, before, stolen_text}
use Rattle.stolen.specs.Promises.{exchanged, PlainExchanged, WholeBlocksExchanged, filled_up, FilledAndCut}
use Rattle.stolen.proofs.BlockLaws.{Whole, xor-whole, ciph-whole}
use Rattle.stolen.proofs.TailLaws.{filled_whole, whole_tail, filled-all, msb-all, rest-none}
use Rattle.stolen.proofs.PartLaws.{message, Parts, parts-length, parts_same-length, parts-units, unit-before, unit-end, in_parts, have-parts}
use Rattle.stolen.proofs.WorkedLaws.{chained, regained, early-cipher, last-cipher, early-plain, last-plain, chained-whole, opened-whole, encrypted-parts, encrypted-have, decrypted-parts}

exchanged_ends : (x : List Bool) {a e : List Bool} → Whole a → Whole e → exchanged (x ++ a ++ e) ≡ x ++ e ++ a
unfolding exchanged
exchanged_ends x {a} {e} wa we =
    let all : length (x ++ a ++ e) ≡ length x + 256 = simp length-append (omega arith) in
    let two : length (x ++ a ++ e) - 256 ≡ length x = omega arith in
    let one : length (x ++ a ++ e) - 128 ≡ length (x ++ a) = rw (length-append x a) (omega arith) in
    rw (two, one, drop-append_seam (x ++ a) e, append_assoc x a e, take-append_seam x (a ++ e), drop-append_seam x (a ++ e), take_at a e 128 wa.size)

exchanged_have : {k : ℕ} {f : ℕ → List Bool} {a e : List Bool} → Parts k f a e → Whole e → Parts k f e a
exchanged_have parts tail = record { early = parts.early; whole = tail; tail = whole_tail parts.whole }

last_whole : (x : List Bool) → 128 < length x → length x % 128 ≡ 0 → Whole (unit_at 128 x (full_blocks (length x)))
unfolding full_blocks
last_whole x long whole = record { size = rw unit_length (omega arith) }

-- ---- plain CBC on a message of parts

module _ (enc dec : List ℕ → List ℕ) (iv : List ℕ) {k : ℕ} {f : ℕ → List Bool} {a e : List Bool} (parts : Parts k f a e) where
  standard-encrypted : standard enc dec Cbc Encrypt 128 128 iv (message k f a e)
      ≡ message k (cbc_cipher enc dec f (bits iv)) (chained enc dec iv k f a) (ciph enc dec (xor_bits e (chained enc dec iv k f a)))
  unfolding standard standard_at joined cbc_cipher
  standard-encrypted =
      rw (parts-units parts, unit-end parts, last-cipher enc dec iv parts, joined_same k (early-cipher enc dec iv parts))

  standard-decrypted : standard enc dec Cbc Decrypt 128 128 iv (message k f a e)
      ≡ message k (cbc_plain enc dec f (bits iv)) (xor_bits (ciph_inv enc dec a) (before f (bits iv) k)) (xor_bits (ciph_inv enc dec e) a)
  unfolding standard standard_at joined cbc_plain
  standard-decrypted =
      rw (
        parts-units parts,
        unit-end parts,
        last-plain enc dec iv parts,
        unit-before parts,
        joined_same k (early-plain enc dec iv parts),
      )

-- ---- both

module _ {enc dec : List ℕ → List ℕ} (ciphers : BlockCipher enc dec) {iv : List ℕ} (block : Block iv) {k : ℕ} {f : ℕ → List Bool} {a e : List Bool} (parts : Parts k f a e) (tail : Whole e) where
  plain-exchanged : PlainExchanged enc dec iv (message k f a e)
  unfolding regained
  plain-exchanged =
      let X = chained-whole enc dec iv parts ciphers block in
      let O = opened-whole enc dec iv parts ciphers block in
      record {
        encrypted_plain = rw (
          encrypted-parts enc dec iv parts,
          standard-encrypted enc dec iv parts,
          exchanged_ends (joined k (cbc_cipher enc dec f (bits iv))) X (ciph-whole ciphers (xor-whole tail X)),
          filled-all tail,
          msb-all tail X,
        );
        decrypted_plain = rw (
          decrypted-parts enc dec iv parts,
          exchanged_ends (joined k f) parts.whole tail,
          standard-decrypted enc dec iv (exchanged_have parts tail),
          rest-none tail O,
          msb-all tail O,
        );
      }

pub whole_blocks_exchanged : WholeBlocksExchanged
unfolding WholeBlocksExchanged
whole_blocks_exchanged enc dec iv x ciphers block long whole =
    rw (in_parts x long) at (plain-exchanged ciphers block (have-parts x long) (last_whole x long whole))

-- ---- any length: the tail filled up, and the result cut

cut_end : (x e y : List Bool) → take (length (x ++ e)) (x ++ y) ≡ x ++ msb (length e) y
unfolding msb
cut_end x e y = rw (length-append, take-add, take-append_seam, drop-append_seam)

module _ {enc dec : List ℕ → List ℕ} (ciphers : BlockCipher enc dec) {iv : List ℕ} (block : Block iv) {k : ℕ} {f : ℕ → List Bool} {a e : List Bool} (parts : Parts k f a e) where
  filled-parts : filled_up (message k f a e) ≡ message k f a (filled e)
  unfolding filled_up filled
  filled-parts =
      let zeros : units_in 128 (length (message k f a e)) * 128 - length (message k f a e) ≡ 128 - length e = omega (arith, parts-units parts, parts-length parts, parts.tail) in
      rw zeros (append_assoc (joined k f ++ a) e (replicate (128 - length e) false))

  filled-have : Parts k f a (filled e)
  filled-have = record { early = parts.early; whole = parts.whole; tail = whole_tail (filled_whole parts.tail) }

  abbrev X : List Bool
  X = chained enc dec iv k f a

  abbrev front : List Bool
  front = joined k (cbc_cipher enc dec f (bits iv)) ++ ciph enc dec (xor_bits (filled e) X)

  front_length : length (front ++ e) ≡ length (message k f a e)
  front_length =
      let have = encrypted-have enc dec iv parts ciphers block in
      parts_same-length (record { early = have.early; whole = have.whole; tail = parts.tail }) parts refl

  filled-and-cut-parts : stolen_text enc dec Encrypt iv (message k f a e) ≡ take (length (message k f a e)) (exchanged (standard enc dec Cbc Encrypt 128 128 iv (filled_up (message k f a e))))
  filled-and-cut-parts =
      let whole = chained-whole enc dec iv parts ciphers block in
      rw (
        filled-parts,
        standard-encrypted enc dec iv filled-have,
        exchanged_ends (joined k (cbc_cipher enc dec f (bits iv))) whole (ciph-whole ciphers (xor-whole (filled_whole parts.tail) whole)),
        encrypted-parts enc dec iv parts,
        ← front_length,
      )
      (sym (cut_end front e X))

pub filled_and_cut : FilledAndCut
unfolding FilledAndCut
filled_and_cut enc dec iv x ciphers block long = rw (in_parts x long) at (filled-and-cut-parts ciphers block (have-parts x long))
