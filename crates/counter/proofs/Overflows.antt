-- The counter, byte by byte from the last one, each overflowing into the one before it: what a store into one byte does
-- to the number, and when the block is the next one. Assumes nothing.
use mathlib.Core.Path.{◌≡◌, sym, ap, ◌∙◌}
use mathlib.Core.List.{List, [], ◌∷◌}
use Prim.Native.Nat.{ℕ, zero, suc, ◌+◌, ◌-◌, ◌*◌, ◌/◌, ◌%◌, ◌^◌, ◌<◌, ◌≤◌}
use native.Mathlib.Nat.{add-zero, add-mul, mul-one, mul_assoc, pow-succ', one-le-pow, mul-add-div_right, mul-add-mod_self_right, mul-div_cancel, mul-mod_left, mod-eq_of_lt, div-add-mod', zero-lt-suc}
use native.Mathlib.Omega.{arith}
use lib.Arith.{digits_div}
use lib.Dec.{lit<}
use lib.ListN.{length, get_or, set, length-set}
use lib.Pow.{pow-add}
use Rattle.bits.specs.Blocks.{Bytes, Block}
use Rattle.bits.specs.Counter.{number, plus_one, increment}
use Rattle.bits.proofs.Texts.{cons_bytes, tail_bytes}
use Rattle.bits.proofs.Counter.{number_lt, number-bytes, number_bytes-same}
use Rattle.bits.proofs.Counting.{plus_one_lt, plus_one_overflow, plus_one_stop, plus_one_byte}

-- ---- one byte

set_bytes : (bs : List ℕ) (j v : ℕ) → Bytes bs → v < 256 → Bytes (set bs j v)
set_bytes [] j v h l = h
set_bytes (b ∷ bs) zero v h l = cons_bytes l (tail_bytes h)
set_bytes (b ∷ bs) (suc j) v h l = cons_bytes (h.byte 0) (set_bytes bs j v (tail_bytes h) l)

set-block : (bs : List ℕ) (j v : ℕ) → Block bs → v < 256 → Block (set bs j v)
set-block bs j v h l = record { size = length-set bs j v ∙ h.size; bytes = set_bytes bs j v h.bytes l }

pow_256_pos : (k : ℕ) → 0 < 256 ^ k
pow_256_pos k = one-le-pow k 256 (zero-lt-suc 255)

-- byte j, which k bytes follow, is worth its value times 256^k
number-set : (bs : List ℕ) (j v k : ℕ) → j + suc k ≡ length bs → number (set bs j v) + get_or bs j 0 * 256 ^ k ≡ number bs + v * 256 ^ k
unfolding number
number-set [] j v k e = absurd (omega arith)
number-set (b ∷ bs) zero v k e = let n : length bs ≡ k = omega arith in rw n (omega arith)
number-set (b ∷ bs) (suc j) v k e =
    let same : b * 256 ^ length (set bs j v) ≡ b * 256 ^ length bs = ap (λ (n : ℕ). b * 256 ^ n) (length-set bs j v) in
    omega (arith, number-set bs j v k (omega arith))

-- and is that digit of the number
number_at : (bs : List ℕ) (j k : ℕ) → Bytes bs → j + suc k ≡ length bs → number bs / 256 ^ k % 256 ≡ get_or bs j 0
unfolding number
number_at [] j k h e = absurd (omega arith)
number_at (b ∷ bs) zero k h e =
    let n : length bs ≡ k = omega arith in
    rw (n, digits_div b (rw n at (number_lt bs (tail_bytes h))), mod-eq_of_lt (h.byte 0))
number_at (b ∷ bs) (suc j) k h e =
    let n : length bs ≡ j + suc k = omega arith in
    let high : b * 256 ^ length bs ≡ b * 256 ^ j * 256 * 256 ^ k = rw (n, pow-add 256 j (suc k), pow-succ' 256 k) (simp mul_assoc) in
    rw (high, mul-add-div_right (pow_256_pos k), mul-add-mod_self_right) (number_at bs j k (tail_bytes h) (omega arith))

-- ---- the loop

-- The last k bytes of `out` are 00, and done. The number before them still takes 1 in its lowest `left` bits.
pub record Overflowing (m : ℕ) (block out : List ℕ) (left k : ℕ) : Type 0 where
  pub whole : Block out
  pub above : ℕ
  pub value : number out ≡ above * 256 ^ k
  pub next : plus_one m (number block) ≡ plus_one left above * 256 ^ k

pub start : {m left : ℕ} {block : List ℕ} → Block block → left ≡ m → Overflowing m block block left 0
start {block = block} h e = record { whole = h; above = number block; value = sym (mul-one _); next = rw e (sym (mul-one _)) }

next_block : (m : ℕ) (block out : List ℕ) → Block out → number out % 256 ^ 16 ≡ plus_one m (number block) % 256 ^ 16
    → out ≡ increment m block
unfolding increment
next_block m block out h e = sym (rw h.size at (number-bytes out h.bytes)) ∙ number_bytes-same 16 _ _ e

-- an overflow out of the block is lost
pub over : (m : ℕ) (block out : List ℕ) (left : ℕ) → Overflowing m block out left 16 → out ≡ increment m block
over m block out left c =
    next_block m block out c.whole (rw (c.value, c.next) (mul-mod_left _ (256 ^ 16) ∙ sym (mul-mod_left _ (256 ^ 16))))

-- The turn at byte i, the last one of `above`.
module _ {m : ℕ} {block out : List ℕ} {left k : ℕ} (i : ℕ) (place : i + suc k ≡ 16) (c : Overflowing m block out left k) where
  abbrev byte : ℕ
  byte = get_or out i 0

  upper : ℕ
  upper = c.above / 256

  parts : c.above ≡ upper * 256 + byte
  unfolding upper
  parts =
      let digit = number_at out i k c.whole.bytes (place ∙ sym c.whole.size) in
      let last_byte : c.above % 256 ≡ byte = rw (c.value, mul-div_cancel c.above (pow_256_pos k)) at digit in
      omega (arith, div-add-mod' c.above 256)

  stored : (v : ℕ) → number (set out i v) ≡ (upper * 256 + v) * 256 ^ k
  stored v =
      let store = number-set out i v k (place ∙ sym c.whole.size) in
      let before : number out ≡ (upper * 256 + byte) * 256 ^ k = c.value ∙ ap (λ (x : ℕ). x * 256 ^ k) parts in
      omega (arith, add-mul (upper * 256) v (256 ^ k), add-mul (upper * 256) byte (256 ^ k))

  next-parts : plus_one m (number block) ≡ plus_one left (upper * 256 + byte) * 256 ^ k
  next-parts = c.next ∙ ap (λ (x : ℕ). plus_one left x * 256 ^ k) parts

  next-stored : (v : ℕ) → v < 256 → plus_one left (upper * 256 + byte) ≡ upper * 256 + v → set out i v ≡ increment m block
  next-stored v l e = next_block m block (set out i v) (set-block out i v c.whole l) (rw (next-parts, e, stored v))

  -- a byte of which fewer than eight bits count drops its overflow
  pub last : left < 8 → {v : ℕ} → v ≡ plus_one left byte → set out i v ≡ increment m block
  last few e =
      let fits = plus_one_lt 8 left (omega arith) (c.whole.bytes.byte i) in
      rw e (next-stored (plus_one left byte) fits (plus_one_byte left upper byte few))

  -- a byte that is not ff takes the 1
  pub stop : 8 ≤ left → byte < 255 → set out i (byte + 1) ≡ increment m block
  stop eight l =
      let e : left - 8 + 8 ≡ left = omega arith in
      next-stored (byte + 1) (omega arith) (rw e at (plus_one_stop (left - 8) upper byte l))

  -- a byte ff becomes 00, and the 1 goes to the bytes before it
  pub overflow : 8 ≤ left → byte ≡ 255 → Overflowing m block (set out i 0) (left - 8) (suc k)
  overflow eight ff =
      let e : left - 8 + 8 ≡ left = omega arith in
      let up : plus_one left (upper * 256 + 255) ≡ plus_one (left - 8) upper * 256 = rw e at (plus_one_overflow (left - 8) upper) in
      record {
        whole = set-block out i 0 c.whole (lit< tt);
        above = upper;
        value = rw (stored 0, add-zero, pow-succ' 256 k, mul_assoc);
        next = rw (next-parts, ff, up, pow-succ' 256 k, mul_assoc);
      }
