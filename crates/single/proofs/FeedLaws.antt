-- The single block is block j of a whole decrypting CBC feed: unit j of the text is block j of the bytes, and the
-- register before it is its neighbour. Assumes nothing.
use Prim.Native.Nat.{ℕ, zero, suc, ◌*◌, ◌%◌}
use mathlib.Core.Path.{◌≡◌, refl, sym, ap, ◌∙◌}
use mathlib.Core.Bool.{true}
use mathlib.Core.List.{List}
use native.Mathlib.Omega.{arith}
use borrow.Author.Tests.{eq-eqb}
use lib.Dec.{lit<}
use lib.ListN.{length, drop}
use Rattle.bits.specs.Xor.{xor_bytes}
use Rattle.bits.specs.Texts.{bits, pack}
use Rattle.bits.specs.Blocks.{Bytes}
use Rattle.bits.proofs.Texts.{length-bits, take-bits, drop_bits, take_bytes, drop_bytes, pack-bits}
use Rattle.aes.specs.Calls.{encrypted, decrypted}
use Rattle.aes.specs.Promises.{KeyGivesCipher}
use Rattle.aes.proofs.CallLaws.{key_gives_cipher}
use Rattle.rules.specs.declared.Mode.TheVariants.{Cbc}
use Rattle.rules.specs.declared.Direction.TheVariants.{Decrypt}
use Rattle.rules.specs.Lengths.{whole_units}
use Rattle.rules.specs.Rules.{start, next, plain_unit, out_of, next_of, unit_at, register_at, out_at}
use Rattle.rules.proofs.Counts.{whole_there}
use Rattle.rules.proofs.Taken.{Taken, taken}
use Rattle.rules.proofs.Undo.{worked-unit}
use Rattle.modes.specs.Sessions.{opened_session, session_text}
use Rattle.modes.proofs.OpeningLaws.{asked, opened-session, opened-ready}
use Rattle.single.specs.Single.{block_at, neighbour_of, plain_block}
use Rattle.single.specs.Promises.{BlockOfTheFeed}
use Rattle.single.proofs.NumberLaws.{block_there}

module _ (text : List ℕ) (h : Bytes text) where
  -- unit j of the text
  unit-block : (j : ℕ) → unit_at 128 (bits text) j ≡ bits (block_at text j)
  unfolding unit_at block_at
  unit-block j =
      let e : j * 128 ≡ j * 16 * 8 = omega arith in
      rw (e, drop_bits) (take-bits 16 (drop (j * 16) text))

  pub packed-block : (j : ℕ) → pack (unit_at 128 (bits text) j) ≡ block_at text j
  unfolding block_at
  packed-block j = ap pack (unit-block j) ∙ pack-bits (block_at text j) (take_bytes 16 (drop_bytes (j * 16) h))

  -- the register before it
  register-before : (enc dec : List ℕ → List ℕ) (iv : List ℕ) (j : ℕ) → register_at enc dec Cbc Decrypt 128 128 (start Cbc iv) (bits text) j ≡ neighbour_of iv text j
  unfolding register_at next_of next start neighbour_of
  register-before enc dec iv zero = refl
  register-before enc dec iv (suc j) = packed-block j

  -- what it becomes
  block_out : (enc dec : List ℕ → List ℕ) (iv : List ℕ) (j : ℕ) → out_at enc dec Cbc Decrypt 128 128 (start Cbc iv) (bits text) j ≡ bits (xor_bytes (dec (block_at text j)) (neighbour_of iv text j))
  unfolding out_at out_of plain_unit
  block_out enc dec iv j = rw (register-before enc dec iv j, packed-block j)

  whole-text : length text % 16 ≡ 0 → whole_units Cbc 128 (length (bits text)) ≡ true
  unfolding whole_units
  whole-text whole = eq-eqb (length (bits text) % 128) 0 (rw length-bits (omega arith))

pub block_of_the_feed : BlockOfTheFeed
unfolding BlockOfTheFeed KeyGivesCipher plain_block encrypted decrypted session_text opened_session
block_of_the_feed key iv text j r hk hi ht opening accepted there =
    let (whole, inside) = block_there (length text) j there in
    let ready = opened-ready opening accepted hk hi in
    let units : Taken Cbc 128 (bits text) = taken Cbc 128 (bits text) ready.unit (whole-text text ht whole) in
    rw (opened-session opening accepted)
    (sym (worked-unit (key_gives_cipher key hk (asked opening accepted).key_size) 128 Decrypt ready.arrays.register units j (whole_there (length (bits text)) j (lit< tt) (rw length-bits (omega arith)))
    ∙ block_out text ht (encrypted key) (decrypted key) iv j))
