-- What `decrypt_block` writes. Assumes nothing.
use Prim.Native.Nat.{ℕ, ◌+◌, ◌-◌, ◌≤◌}
use mathlib.Core.Path.{◌≡◌, refl, sym, ◌∙◌}
use mathlib.Core.List.{List}
use native.Mathlib.Nat.{le_of_eq}
use native.Mathlib.Omega.{arith}
use borrow.Rule.Slice.PartMut.{put_mid}
use Rattle.std.proofs.lemmas.Slice.{put_mid-paste}
use lib.ListN.{length}
use lib.Seq.{take_all}
use Rattle.bits.specs.Xor.{xor_bytes}
use Rattle.bits.specs.Texts.{bits}
use Rattle.bits.specs.Blocks.{Block}
use Rattle.bits.proofs.Texts.{pack-bits}
use Rattle.cipher.specs.Cipher.{Dec}
use Rattle.aes.specs.Calls.{key_rounds, key_bytes, decrypted}
use Rattle.modes.specs.Sessions.{written}
use Rattle.single.specs.Single.{block_at, neighbour_of, plain_block}

-- Sixteen bytes in the room for them.
pub block_written : (out : List ℕ) (place : ℕ) (plain : List ℕ) {part : List ℕ} → Block plain → part ≡ plain → place + 16 ≤ length out
    → put_mid place (place + 16 - place) out part ≡ written out place (bits plain)
unfolding written
block_written out place plain h e room =
    put_mid-paste place (place + 16 - place) out _ plain 16 e (omega arith) (sym h.size)
    ∙ rw (pack-bits plain h.bytes, take_all 16 plain (le_of_eq h.size), h.size) refl

-- The block under the key's own schedule.
pub plain_is : (key iv text : List ℕ) (j : ℕ) {rounds : ℕ} {keys plain : List ℕ} → rounds ≡ key_rounds key → keys ≡ key_bytes key
    → plain ≡ xor_bytes (Dec rounds keys (block_at text j)) (neighbour_of iv text j) → plain ≡ plain_block key iv text j
unfolding plain_block decrypted
plain_is key iv text j e f h = rw (← e, ← f) h
