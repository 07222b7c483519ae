-- The search for the last 1: in any text, in a block bit by bit, and in the last block as it is read. Assumes nothing.
use Prim.Native.Nat.{ℕ, zero, suc, pred, ◌+◌, ◌-◌, ◌*◌, ◌/◌, ◌%◌, ◌^◌, ◌≤◌, ◌<◌}
use mathlib.Core.Path.{◌≡◌, refl, sym, ap, ◌∙◌}
use mathlib.Core.Bool.{Bool, true, false, cond}
use mathlib.Core.List.{List}
use native.Mathlib.Nat.{le_refl, zero-div}
use native.Mathlib.Omega.{arith}
use lib.ListN.{length, get_or, take, drop, length-drop}
use lib.Seq.{length-take-le, take-add, drop_at}
use lib.Dec.{ltb}
use borrow.Author.Tests.{ltb-true, ltb-false, eq-eqb, ne_eqb}
use mir.Syntax.{w8}
use Rattle.std.specs.Int.{trailing_zeros}
use Rattle.std.proofs.lemmas.Nat.Bits.{bit_at-trailing_zeros}
use Rattle.bits.specs.Texts.{bit, bits, pack_to}
use Rattle.bits.proofs.Texts.{length-bits, bits-pack_to}
use Rattle.bits.proofs.Windows.{bit_at}
use Rattle.modes.specs.Sessions.{fed_text}
use Rattle.padding.proofs.PadLaws.{length_fed}
use Rattle.padding.specs.Padding.{up_to_last_one, last_block, unpadded_length}

-- a turn of the search, down from the end
passed : (x : List Bool) (k : ℕ) → get_or x k false ≡ false → up_to_last_one x (suc k) ≡ up_to_last_one x k
unfolding up_to_last_one
passed x k e = rw e

found : (x : List Bool) (k : ℕ) → get_or x k false ≡ true → up_to_last_one x (suc k) ≡ suc k
unfolding up_to_last_one
found x k e = rw e

pub at_most : (x : List Bool) (k : ℕ) → up_to_last_one x k ≤ k
unfolding up_to_last_one
at_most x zero = le_refl zero
at_most x (suc k) = by_bit (get_or x k false) (at_most x k)
  where
    by_bit : (b : Bool) → up_to_last_one x k ≤ k → cond b (suc k) (up_to_last_one x k) ≤ suc k
    by_bit true h = le_refl (suc k)
    by_bit false h = omega arith

-- what the search passed is 0, and what it found is 1
pub zeros_passed_by : (x : List Bool) (k i : ℕ) → up_to_last_one x k ≤ i → i < k → get_or x i false ≡ false
unfolding up_to_last_one
zeros_passed_by x zero i h l = absurd (omega arith)
zeros_passed_by x (suc k) i h l = go (get_or x k false) (ltb i k) refl refl h (zeros_passed_by x k i)
  where
    go : (b t : Bool) → get_or x k false ≡ b → ltb i k ≡ t → cond b (suc k) (up_to_last_one x k) ≤ i
        → (up_to_last_one x k ≤ i → i < k → get_or x i false ≡ false) → get_or x i false ≡ false
    go true t e f h earlier = absurd (omega arith)
    go false true e f h earlier = earlier h (ltb-true i k f)
    go false false e f h earlier = let g : i ≡ k = omega (arith, ltb-false i k f) in rw g e

pub one_found_at : (x : List Bool) (k u : ℕ) → up_to_last_one x k ≡ suc u → get_or x u false ≡ true
unfolding up_to_last_one
one_found_at x zero u e = absurd (omega arith)
one_found_at x (suc k) u e = go (get_or x k false) refl e (one_found_at x k u)
  where
    go : (b : Bool) → get_or x k false ≡ b → cond b (suc k) (up_to_last_one x k) ≡ suc u → (up_to_last_one x k ≡ suc u → get_or x u false ≡ true)
        → get_or x u false ≡ true
    go true e f earlier = let g : u ≡ k = omega arith in rw g e
    go false e f earlier = earlier f

-- ---- a block, bit by bit from its end

module _ (b : List ℕ) (k : ℕ) where
  pub bit-passed : (get_or b (k / 8) 0 / 2 ^ (7 - k % 8) % 2 ≡ 1 → ⊥) → up_to_last_one (bits b) (suc k) ≡ up_to_last_one (bits b) k
  unfolding bit
  bit-passed zero_bit = passed (bits b) k (bit_at b k ∙ ne_eqb (get_or b (k / 8) 0 / 2 ^ (7 - k % 8) % 2) 1 zero_bit)

  pub bit_found : get_or b (k / 8) 0 / 2 ^ (7 - k % 8) % 2 ≡ 1 → up_to_last_one (bits b) (suc k) ≡ suc k
  unfolding bit
  bit_found one_bit = found (bits b) k (bit_at b k ∙ eq-eqb (get_or b (k / 8) 0 / 2 ^ (7 - k % 8) % 2) 1 one_bit)

-- no bit stands before the first one
pub before_first : (x : List Bool) → pred (up_to_last_one x 1) ≡ 0
before_first x = omega (arith, at_most x 1)

-- ---- and byte by byte

module _ (b : List ℕ) (k : ℕ) where
  -- bit i of byte k, counted from the lowest
  same-bit : (i : ℕ) → i < 8 → get_or b ((k * 8 + (7 - i)) / 8) 0 / 2 ^ (7 - (k * 8 + (7 - i)) % 8) % 2 ≡ get_or b k 0 / 2 ^ i % 2
  same-bit i h =
      let e : (k * 8 + (7 - i)) / 8 ≡ k = omega arith in
      let f : 7 - (k * 8 + (7 - i)) % 8 ≡ i = omega arith in
      rw (e, f)

  zeros-passed : (i : ℕ) → i ≤ 8 → ((j : ℕ) → j < i → get_or b k 0 / 2 ^ j % 2 ≡ 0) → up_to_last_one (bits b) (k * 8 + 8) ≡ up_to_last_one (bits b) (k * 8 + (8 - i))
  zeros-passed zero h zeros = refl
  zeros-passed (suc i) h zeros =
      let e : k * 8 + (8 - i) ≡ suc (k * 8 + (7 - i)) = omega arith in
      let f : k * 8 + (7 - i) ≡ k * 8 + (8 - suc i) = omega arith in
      zeros-passed i (omega arith) (λ j l. zeros j (omega arith))
      ∙ ap (up_to_last_one (bits b)) e
      ∙ bit-passed b (k * 8 + (7 - i)) (λ one. omega (arith, same-bit i (omega arith), one, zeros i (omega arith)))
      ∙ ap (up_to_last_one (bits b)) f

  pub byte-passed : get_or b k 0 ≡ 0 → up_to_last_one (bits b) (k * 8 + 8) ≡ up_to_last_one (bits b) (k * 8)
  byte-passed none =
      let e : k * 8 + (8 - 8) ≡ k * 8 = omega arith in
      zeros-passed 8 (omega arith) (λ j l. rw (none, zero-div)) ∙ ap (up_to_last_one (bits b)) e

  pub one_in_byte : (get_or b k 0 ≡ 0 → ⊥) → get_or b k 0 < 256
      → let t = trailing_zeros w8 (get_or b k 0) in
      (t < 8) × (up_to_last_one (bits b) (k * 8 + 8) ≡ k * 8 + (8 - t))
  one_in_byte some byte =
      let t = trailing_zeros w8 (get_or b k 0) in
      let (small, one, zeros) = bit_at-trailing_zeros w8 (get_or b k 0) (omega arith) byte in
      let e : k * 8 + (8 - t) ≡ suc (k * 8 + (7 - t)) = omega arith in (
        small,
        zeros-passed t (omega arith) zeros
            ∙ ap (up_to_last_one (bits b)) e
            ∙ bit_found b (k * 8 + (7 - t)) (same-bit t small ∙ one)
            ∙ sym e,
      )

-- ---- the last block

-- of a text that a slice holds: as it is read, and what its padding leaves
module _ (s : List ℕ) (count : ℕ) (there : count ≤ 8 * length s) (block : 128 ≤ count) where
  last-read : last_block (fed_text s count) ≡ take 128 (drop (count - 128) (bits s))
  unfolding last_block fed_text
  last-read =
      let e : count ≡ (count - 128) + 128 = omega arith in
      rw (length_fed s count there, ap (λ (k : ℕ). take k (bits s)) e, take-add (count - 128) 128 (bits s))
      (drop_at (take (count - 128) (bits s)) (take 128 (drop (count - 128) (bits s))) (count - 128)
      (length-take-le (count - 128) (bits s) (rw length-bits (omega arith))))

  block_read : bits (pack_to 16 (take 128 (drop (count - 128) (bits s)))) ≡ last_block (fed_text s count)
  block_read =
      rw last-read
      (bits-pack_to 16 (take 128 (drop (count - 128) (bits s))) (length-take-le 128 (drop (count - 128) (bits s)) (rw (length-drop, length-bits) (omega arith))))

  pub bits_left : {b : List ℕ} {n : ℕ} → b ≡ pack_to 16 (take 128 (drop (count - 128) (bits s))) → n ≡ 128 - pred (up_to_last_one (bits b) 128)
      → count - n ≡ unpadded_length (fed_text s count)
  unfolding unpadded_length
  bits_left read padding =
      rw (padding, read, block_read, length_fed s count there) (omega (arith, at_most (last_block (fed_text s count)) 128))
