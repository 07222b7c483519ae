-- The blocks before the last two: plain CBC makes of them alone what it makes of them in the message, and then has in
-- its register what the last two begin with. Assumes nothing.
use Prim.Native.Nat.{ℕ, zero, suc, ◌*◌, ◌%◌, ◌≤◌, ◌<◌}
use mathlib.Core.Path.{◌≡◌, refl, sym, ap, ◌∙◌}
use mathlib.Core.Bool.{Bool, true}
use mathlib.Core.List.{List}
use native.Mathlib.Omega.{arith}
use borrow.Author.Tests.{eq-eqb}
use lib.ListN.{length, take, drop, take-append-drop}
use lib.Seq.{length-take-le}
use Rattle.bits.specs.Texts.{bits}
use Rattle.bits.specs.Blocks.{Block, BlockCipher}
use Rattle.bits.proofs.Texts.{block-bits-pack}
use Rattle.rules.specs.declared.Mode.TheVariants.{Cbc}
use Rattle.rules.specs.declared.Direction.{Direction}
use Rattle.rules.specs.declared.Direction.TheVariants.{Encrypt, Decrypt}
use Rattle.rules.specs.Lengths.{unit_length_ok, whole_units}
use Rattle.rules.specs.Rules.{start, next, out_of, next_of, unit_at, units_in, joined, register_at, out_at, worked}
use Rattle.rules.specs.Standard.{cbc_cipher, standard_at}
use Rattle.rules.proofs.Counts.{units_of}
use Rattle.rules.proofs.Joined.{unit-first, unit_full}
use Rattle.rules.proofs.Taken.{taken}
use Rattle.rules.proofs.Undo.{worked_by, out-at-length}
use Rattle.rules.proofs.Standard.{standard-at}
use Rattle.stolen.specs.Stealing.{before}
use Rattle.stolen.proofs.BlockLaws.{cipher-same, plain-same}

standard_same : (enc dec : List ℕ → List ℕ) (dir : Direction) (iv : List ℕ) (p q : ℕ → List Bool) (t : ℕ) → ((s : ℕ) → s ≤ t → p s ≡ q s)
    → standard_at enc dec Cbc dir 128 128 iv p t ≡ standard_at enc dec Cbc dir 128 128 iv q t
unfolding standard_at
standard_same enc dec Encrypt iv p q t same = cipher-same enc dec (bits iv) t same
standard_same enc dec Decrypt iv p q t same = plain-same enc dec (bits iv) t same

-- The ciphertext blocks of a message that is encrypted, or decrypted.
unfoldable pub cipher_blocks : (List ℕ → List ℕ) → (List ℕ → List ℕ) → Direction → List ℕ → (ℕ → List Bool) → ℕ → List Bool
cipher_blocks enc dec Encrypt iv u = cbc_cipher enc dec u (bits iv)
cipher_blocks enc dec Decrypt iv u = u

module _ {enc dec : List ℕ → List ℕ} (ciphers : BlockCipher enc dec) {iv : List ℕ} (block : Block iv) (x : List Bool) (k : ℕ) (inside : k * 128 ≤ length x) where
  abbrev front : List Bool
  front = take (k * 128) x

  front_length : length front ≡ k * 128
  front_length = length-take-le (k * 128) x inside

  units : units_in 128 (length front) ≡ k
  units = ap (units_in 128) front_length ∙ units_of k (omega arith)

  whole : whole_units Cbc 128 (length front) ≡ true
  unfolding whole_units
  whole = eq-eqb (length front % 128) 0 (rw front_length (omega arith))

  unit-same : (t : ℕ) → t < k → unit_at 128 front t ≡ unit_at 128 x t
  unit-same t h = sym (unit-first 128 k front (drop (k * 128) x) front_length t h) ∙ ap (λ (y : List Bool). unit_at 128 y t) (take-append-drop (k * 128) x)

  block_at : (t : ℕ) → t < k → length (unit_at 128 front t) ≡ 128
  block_at t h = unit_full front t (rw front_length (omega arith))

  front_out : (dir : Direction) (t : ℕ) → t < k → out_at enc dec Cbc dir 128 128 iv front t ≡ standard_at enc dec Cbc dir 128 128 iv (unit_at 128 x) t
  unfolding start unit_length_ok
  front_out dir t h =
      standard-at ciphers 128 128 iv front Cbc dir refl whole block t (rw units h)
      ∙ standard_same enc dec dir iv (unit_at 128 front) (unit_at 128 x) t (λ s i. unit-same s (omega arith))

  pub front-text : (dir : Direction) → worked enc dec Cbc dir 128 128 iv front ≡ joined k (standard_at enc dec Cbc dir 128 128 iv (unit_at 128 x))
  front-text dir = worked_by enc dec Cbc dir 128 128 iv front k (standard_at enc dec Cbc dir 128 128 iv (unit_at 128 x)) units (front_out dir)

  -- What stands before block t.
  pub front-register : (dir : Direction) (t : ℕ) → t ≤ k → bits (register_at enc dec Cbc dir 128 128 iv front t) ≡ before (cipher_blocks enc dec dir iv (unit_at 128 x)) (bits iv) t
  unfolding register_at out_at out_of next_of next before cipher_blocks standard_at unit_length_ok
  front-register dir zero h = refl
  front-register Encrypt (suc t) h =
      let c = out_at enc dec Cbc Encrypt 128 128 iv front t in
      let size : length c ≡ 128 = out-at-length ciphers 128 Encrypt block (taken Cbc 128 front refl whole) t (rw units h) ∙ block_at t h in
      block-bits-pack c size ∙ front_out Encrypt t h
  front-register Decrypt (suc t) h = block-bits-pack (unit_at 128 front t) (block_at t h) ∙ unit-same t h
