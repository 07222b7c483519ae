-- The byte at any bit of a text: the two bytes that it lies in, shifted. Assumes nothing.
use mathlib.Core.Path.{◌≡◌, refl, sym, ap, ◌∙◌}
use mathlib.Core.Bool.{Bool, true, false}
use mathlib.Core.List.{List, [], ◌∷◌}
use Prim.Native.Nat.{ℕ, zero, suc, ◌+◌, ◌-◌, ◌*◌, ◌/◌, ◌%◌, ◌^◌, ◌≤◌, ◌<◌}
use native.Mathlib.Nat.{add-zero, zero-div}
use native.Mathlib.Omega.{arith}
use lib.Dec.{ltb, leb-zero, leb-suc-zero, leb-suc-suc, lit≤}
use lib.ListN.{get_or, take, drop, get_or-append}
use lib.Seq.{get_or-drop, drop-drop}
use Rattle.bits.specs.Texts.{bit, bits, byte_bits, digit, byte_of}
use Rattle.bits.specs.Blocks.{Bytes}
use Rattle.bits.proofs.Tables.{both}
use Rattle.bits.proofs.Texts.{length-byte_bits, get_or-byte_bits, drop_bits, byte_of_front, drop_bytes}

-- a rule for each number of bits up to a byte's, from its nine cases
pub up_to8 : (P : ℕ → Type 0) → P 0 → P 1 → P 2 → P 3 → P 4 → P 5 → P 6 → P 7 → P 8 → (i : ℕ) → i ≤ 8 → P i
up_to8 P p0 p1 p2 p3 p4 p5 p6 p7 p8 zero h = p0
up_to8 P p0 p1 p2 p3 p4 p5 p6 p7 p8 (suc zero) h = p1
up_to8 P p0 p1 p2 p3 p4 p5 p6 p7 p8 (suc (suc zero)) h = p2
up_to8 P p0 p1 p2 p3 p4 p5 p6 p7 p8 (suc (suc (suc zero))) h = p3
up_to8 P p0 p1 p2 p3 p4 p5 p6 p7 p8 (suc (suc (suc (suc zero)))) h = p4
up_to8 P p0 p1 p2 p3 p4 p5 p6 p7 p8 (suc (suc (suc (suc (suc zero))))) h = p5
up_to8 P p0 p1 p2 p3 p4 p5 p6 p7 p8 (suc (suc (suc (suc (suc (suc zero)))))) h = p6
up_to8 P p0 p1 p2 p3 p4 p5 p6 p7 p8 (suc (suc (suc (suc (suc (suc (suc zero))))))) h = p7
up_to8 P p0 p1 p2 p3 p4 p5 p6 p7 p8 (suc (suc (suc (suc (suc (suc (suc (suc zero)))))))) h = p8
up_to8 P p0 p1 p2 p3 p4 p5 p6 p7 p8 (suc (suc (suc (suc (suc (suc (suc (suc (suc i))))))))) h = absurd (omega arith)

digit_le : (b : Bool) → digit b ≤ 1
unfolding digit
digit_le false = lit≤ tt
digit_le true = lit≤ tt

-- the digits of a text's first two bytes
record Digits (x : List Bool) : Type 0 where
  d0 : digit (get_or x 0 false) ≤ 1
  d1 : digit (get_or x 1 false) ≤ 1
  d2 : digit (get_or x 2 false) ≤ 1
  d3 : digit (get_or x 3 false) ≤ 1
  d4 : digit (get_or x 4 false) ≤ 1
  d5 : digit (get_or x 5 false) ≤ 1
  d6 : digit (get_or x 6 false) ≤ 1
  d7 : digit (get_or x 7 false) ≤ 1
  d8 : digit (get_or x 8 false) ≤ 1
  d9 : digit (get_or x 9 false) ≤ 1
  d10 : digit (get_or x 10 false) ≤ 1
  d11 : digit (get_or x 11 false) ≤ 1
  d12 : digit (get_or x 12 false) ≤ 1
  d13 : digit (get_or x 13 false) ≤ 1
  d14 : digit (get_or x 14 false) ≤ 1
  d15 : digit (get_or x 15 false) ≤ 1

digits : (x : List Bool) → Digits x
digits x = search digit_le

pub shift : (x : List Bool) (r : ℕ) → r ≤ 8 → byte_of (drop r x) ≡ (byte_of x * 256 + byte_of (drop 8 x)) / 2 ^ (8 - r) % 256
unfolding byte_of
shift x =
    let d = digits x in
    up_to8 (λ r. byte_of (drop r x) ≡ (byte_of x * 256 + byte_of (drop 8 x)) / 2 ^ (8 - r) % 256)
    (simp get_or-drop (omega arith)) (simp get_or-drop (omega arith)) (simp get_or-drop (omega arith))
    (simp get_or-drop (omega arith)) (simp get_or-drop (omega arith)) (simp get_or-drop (omega arith))
    (simp get_or-drop (omega arith)) (simp get_or-drop (omega arith)) (simp get_or-drop (omega arith))

-- a bit of a text that is cut off
neither : (b : Bool) → both b false ≡ false
neither true = refl
neither false = refl

get_or-cut : (k : ℕ) (x : List Bool) (i : ℕ) → get_or (take k x) i false ≡ both (ltb i k) (get_or x i false)
get_or-cut zero x i = rw leb-suc-zero
get_or-cut (suc k) [] i = sym (neither (ltb i (suc k)))
get_or-cut (suc k) (a ∷ x) zero = rw (leb-suc-suc, leb-zero)
get_or-cut (suc k) (a ∷ x) (suc i) = rw leb-suc-suc (get_or-cut k x i)

-- only the first k bits of a byte
pub keep : (x : List Bool) (k : ℕ) → k ≤ 8 → byte_of (take k x) ≡ byte_of x / 2 ^ (8 - k) * 2 ^ (8 - k)
unfolding byte_of digit
keep x =
    let d = digits x in
    up_to8 (λ k. byte_of (take k x) ≡ byte_of x / 2 ^ (8 - k) * 2 ^ (8 - k))
    (omega arith) (simp get_or-cut (omega arith)) (simp get_or-cut (omega arith))
    (simp get_or-cut (omega arith)) (simp get_or-cut (omega arith)) (simp get_or-cut (omega arith))
    (simp get_or-cut (omega arith)) (simp get_or-cut (omega arith)) (simp get_or-cut (omega arith))

-- the first byte
first_byte : (s : List ℕ) → Bytes s → byte_of (bits s) ≡ get_or s 0 0
unfolding byte_of digit bits
first_byte [] h = refl
first_byte (b ∷ s) h = byte_of_front b (bits s) (h.byte 0)

pub byte_at : (s : List ℕ) → Bytes s → (q : ℕ) → byte_of (drop (q * 8) (bits s)) ≡ get_or s q 0
byte_at s h q = rw (drop_bits, first_byte (drop q s) (drop_bytes q h), get_or-drop, add-zero)

pub window_byte : (s : List ℕ) → Bytes s → (q r : ℕ) → r ≤ 8
    → byte_of (drop (q * 8 + r) (bits s)) ≡ (get_or s q 0 * 256 + get_or s (q + 1) 0) / 2 ^ (8 - r) % 256
window_byte s h q r l =
    let e : q * 8 + 8 ≡ (q + 1) * 8 = omega arith in
    rw (← drop-drop, shift (drop (q * 8) (bits s)) r l, drop-drop, e, byte_at s h q, byte_at s h (q + 1))

-- byte i of the text that starts at bit `offset`
pub window_at : (s : List ℕ) → Bytes s → (offset i : ℕ)
    → byte_of (drop (i * 8) (drop offset (bits s))) ≡ (get_or s (offset / 8 + i) 0 * 256 + get_or s (offset / 8 + i + 1) 0) / 2 ^ (8 - offset % 8) % 256
window_at s h offset i =
    let e : offset + i * 8 ≡ (offset / 8 + i) * 8 + offset % 8 = omega arith in
    rw (drop-drop, e, window_byte s h (offset / 8 + i) (offset % 8) (omega arith))

-- ---- one bit

no_bit : (i : ℕ) → false ≡ bit 0 i
unfolding bit
no_bit i = rw zero-div

first_bit : (s : List ℕ) (i : ℕ) → i < 8 → get_or (bits s) i false ≡ bit (get_or s 0 0) i
unfolding bits
first_bit [] i h = no_bit i
first_bit (b ∷ s) i h =
    get_or-append (byte_bits b) (bits s) false i (rw length-byte_bits h) ∙ get_or-byte_bits b i h

pub bit_at : (s : List ℕ) (k : ℕ) → get_or (bits s) k false ≡ bit (get_or s (k / 8) 0) (k % 8)
bit_at s k =
    let e : k ≡ k / 8 * 8 + k % 8 = omega arith in
    ap (λ (n : ℕ). get_or (bits s) n false) e
    ∙ rw (← get_or-drop, drop_bits, first_bit (drop (k / 8) s) (k % 8) (omega arith), get_or-drop, add-zero)
