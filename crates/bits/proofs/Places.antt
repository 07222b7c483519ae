-- Bits put into bytes that are there already: each byte written is made of two neighbours, and the whole is `put_bits`.
-- Assumes nothing.
use mathlib.Core.Path.{◌≡◌, refl, sym, ap, ◌∙◌}
use mathlib.Core.Bool.{Bool}
use mathlib.Core.List.{List, ◌∷◌, ◌++◌, append_assoc}
use Prim.Native.Nat.{ℕ, zero, suc, ◌+◌, ◌-◌, ◌*◌, ◌/◌, ◌%◌, ◌^◌, ◌≤◌, ◌<◌}
use native.Mathlib.Nat.{div-div-eq-div-mul, div-one, zero-add, mod-eq_of_lt, suc-add, lt_of_le_of_lt, add_assoc, le_refl, le_of_eq}
use native.Mathlib.Numerals.{add-one}
use native.Mathlib.Omega.{arith}
use lib.ListN.{length, get_or, take, drop, set, length-append, length-drop}
use lib.Pow.{shr_le}
use lib.Seq.{drop-drop, drop-append-le, take-append-le, drop-cons, paste, take_all, take-add, take-append-add, length-take-le}
use Rattle.bits.specs.Texts.{bit, byte_bits, bits, byte_of, pack_to, pack, bytes_for, put_bits}
use Rattle.bits.specs.Blocks.{Bytes, Block}
use Rattle.bits.proofs.Texts.{cons_bytes, length-byte_bits, length-bits, take-bits, drop_bits, take_bytes, pack_to-length, pack-append, pack-bits, pack_to-bits, bits-block}
use Rattle.bits.proofs.Windows.{up_to8, window_byte}
use Rattle.bits.proofs.Packed.{pack_to-cut, pack_to_last}
use Rattle.bits.proofs.Fills.{pasted_next}

-- ---- the bits that stay

-- a byte's first r bits, moved to its end
moved : (b r : ℕ) → r ≤ 8 → drop (8 - r) (byte_bits (b / 2 ^ (8 - r))) ≡ take r (byte_bits b)
unfolding byte_bits bit
moved b =
    up_to8 (λ r. drop (8 - r) (byte_bits (b / 2 ^ (8 - r))) ≡ take r (byte_bits b)) refl
    (simp div-div-eq-div-mul) (simp div-div-eq-div-mul) (simp div-div-eq-div-mul) (simp div-div-eq-div-mul)
    (simp div-div-eq-div-mul) (simp div-div-eq-div-mul) (simp div-div-eq-div-mul) (simp div-one)

-- the bits from a byte on, its first r kept
behind : (old : List ℕ) (first r : ℕ) (seg : List ℕ) → first < length old → r ≤ 8
    → take r (bits (drop first old)) ++ bits seg ≡ drop (8 - r) (bits (get_or old first 0 / 2 ^ (8 - r) ∷ seg))
unfolding bits
behind old first r seg h l =
    let b = get_or old first 0 in
    let kept : r ≤ length (byte_bits b) = rw length-byte_bits l in
    let gone : 8 - r ≤ length (byte_bits (b / 2 ^ (8 - r))) = rw length-byte_bits (omega arith) in
    rw (
      drop-cons old first 0 h,
      take-append-le r (byte_bits b) (bits (drop (suc first) old)) kept,
      drop-append-le (8 - r) (byte_bits (b / 2 ^ (8 - r))) (bits seg) gone,
      moved b r l,
    )

-- byte i of them, from the two bytes that it lies in
pub next_byte : (old : List ℕ) (first r : ℕ) (seg : List ℕ) (i : ℕ) {high low : ℕ} → first < length old → r ≤ 8 → get_or old first 0 < 256 → Bytes seg
    → high ≡ get_or (get_or old first 0 / 2 ^ (8 - r) ∷ seg) i 0 → low ≡ get_or seg i 0
    → (high * 256 + low) / 2 ^ (8 - (8 - r)) % 256 ≡ byte_of (drop (i * 8) (take r (bits (drop first old)) ++ bits seg))
next_byte old first r seg i h l byte bytes eh el =
    let kept = get_or old first 0 / 2 ^ (8 - r) in
    let all : Bytes (kept ∷ seg) = cons_bytes (lt_of_le_of_lt (shr_le (get_or old first 0) (8 - r)) byte) bytes in
    let e : 8 - r + i * 8 ≡ i * 8 + (8 - r) = omega arith in
    let next : get_or (kept ∷ seg) (i + 1) 0 ≡ get_or seg i 0 = ap (λ (n : ℕ). get_or (kept ∷ seg) n 0) (add-one i) in
    rw (eh, el) (sym (rw (behind old first r seg h l, drop-drop, e, window_byte (kept ∷ seg) all i (8 - r) (omega arith), next)))

pub none_before : (b k : ℕ) → b < 256 → (0 * 256 + b) / 2 ^ k % 256 ≡ b / 2 ^ k
none_before b k h = rw zero-add (mod-eq_of_lt (lt_of_le_of_lt (shr_le b k) h))

-- ---- the whole

bytes_for_add : (k n : ℕ) → bytes_for (k * 8 + n) ≡ k + bytes_for n
unfolding bytes_for
bytes_for_add k n = omega arith

take-pack_to : (k : ℕ) (x : List Bool) → take k (pack_to k x) ≡ pack_to k x
take-pack_to k x = take_all k (pack_to k x) (le_of_eq (pack_to-length k x))

front_pack_to : (k j : ℕ) (x : List Bool) → take k (pack_to (k + j) x) ≡ pack_to k x
unfolding pack_to
front_pack_to zero j x = refl
front_pack_to (suc k) j x = rw suc-add (ap (λ (t : List ℕ). byte_of x ∷ t) (front_pack_to k j (drop 8 x)))

-- the bits of byte `first` that stay
abbrev stay : List ℕ → ℕ → ℕ → List Bool
stay old first r = take r (bits (drop first old))

module _ (old : List ℕ) (first r : ℕ) (room : first * 8 + r ≤ length old * 8) (part : r < 8) where
  length-stay : length (stay old first r) ≡ r
  length-stay = length-take-le r (bits (drop first old)) (rw (length-bits, length-drop) (omega arith))

  written : (x : List Bool) → pack (stay old first r ++ x) ≡ pack_to (bytes_for (r + length x)) (stay old first r ++ x)
  unfolding pack
  written x = rw (length-append, length-stay)

  before : length (bits (take first old)) ≡ first * 8
  before = length-bits (take first old) ∙ ap (λ (n : ℕ). n * 8) (length-take-le first old (omega arith))

  all-bits : (x : List Bool) → take (first * 8 + r) (bits old) ++ x ≡ bits (take first old) ++ (stay old first r ++ x)
  all-bits x = rw (take-add, take-bits, drop_bits, append_assoc)

  -- the bytes before, then those that are written, then those after
  putBits-is : Bytes old → (x : List Bool)
      → put_bits old (first * 8 + r) x ≡ paste old first (pack_to (bytes_for (r + length x)) (stay old first r ++ x)) (bytes_for (r + length x))
  unfolding put_bits
  putBits-is bytes x =
      rw (
        all-bits x,
        pack-append first (bits (take first old)) (stay old first r ++ x) before,
        pack-bits (take first old) (take_bytes first bytes),
        written x,
        add_assoc,
        bytes_for_add,
        take-pack_to,
      )

  cut : (n : ℕ) (x : List Bool) → take (r + n) (stay old first r ++ x) ≡ stay old first r ++ take n x
  cut n x = rw length-stay at (take-append-add (stay old first r) x n)

  -- whole bytes are written; where the text ends with them, they hold no bit past the text's
  pub put_full : (n : ℕ) (x : List Bool) {l : List ℕ} → (r + n) % 8 ≡ 0
      → l ≡ paste old first (pack_to ((r + n) / 8) (stay old first r ++ x)) ((r + n) / 8)
      → l ≡ paste old first (pack_to (bytes_for (r + n)) (stay old first r ++ take n x)) (bytes_for (r + n))
  unfolding bytes_for
  put_full n x full e =
      let k = bytes_for (r + n) in
      let same : (r + n) / 8 ≡ k = omega arith in
      rw same at e ∙ ap (λ (t : List ℕ). paste old first t k)
      (sym (pack_to-cut k (r + n) (stay old first r ++ x) (omega arith)) ∙ ap (pack_to k) (cut n x))

  -- else one byte more, of which only the text's own bits are kept
  pub put_last : (n : ℕ) (x : List Bool) {l : List ℕ} {b v : ℕ} → ((r + n) % 8 ≡ 0 → ⊥)
      → l ≡ paste old first (pack_to ((r + n) / 8) (stay old first r ++ x)) ((r + n) / 8)
      → b ≡ byte_of (drop ((r + n) / 8 * 8) (stay old first r ++ x)) → v ≡ b / 2 ^ (8 - (r + n) % 8) * 2 ^ (8 - (r + n) % 8)
      → first + (r + n) / 8 < length old
      → set l (first + (r + n) / 8) v ≡ paste old first (pack_to (bytes_for (r + n)) (stay old first r ++ take n x)) (bytes_for (r + n))
  unfolding bytes_for
  put_last n x {l} {b} {v} some e eb ev inside =
      let j = (r + n) / 8 in
      let text = stay old first r ++ x in
      let whole = pack_to (j + 1) (take (r + n) text) in
      let more : bytes_for (r + n) ≡ j + 1 = omega arith in
      let so_far : l ≡ paste old first whole j =
      e ∙ ap (λ (t : List ℕ). (take first old ++ t) ++ drop (first + j) old) (take-pack_to j text ∙ sym (front_pack_to j 1 (take (r + n) text) ∙ pack_to-cut j (r + n) text (omega arith))) in
      let last : v ≡ get_or whole j 0 =
      ev ∙ ap (λ (w : ℕ). w / 2 ^ (8 - (r + n) % 8) * 2 ^ (8 - (r + n) % 8)) eb ∙ sym (pack_to_last (j + 1) (r + n) text (omega arith)) in
      rw more (pasted_next old first whole j so_far last inside (rw pack_to-length (omega arith)) ∙ ap (λ (t : List Bool). paste old first (pack_to (j + 1) t) (j + 1)) (cut n x))

-- the first n bits of a block
module _ (old : List ℕ) (bytes : Bytes old) (at : ℕ) (seg : List ℕ) (block : Block seg) where
  pub put-segment : (n : ℕ) → n ≤ 128 → at + n ≤ length old * 8
      → put_bits old at (take n (bits seg))
      ≡ paste old (at / 8) (pack_to (bytes_for (at % 8 + n)) (stay old (at / 8) (at % 8) ++ take n (bits seg))) (bytes_for (at % 8 + n))
  put-segment n small room =
      let x = take n (bits seg) in
      let whole : at ≡ at / 8 * 8 + at % 8 = omega arith in
      let n-bits : length x ≡ n = length-take-le n (bits seg) (rw (bits-block block) small) in
      ap (λ (a : ℕ). put_bits old a x) whole
      ∙ putBits-is old (at / 8) (at % 8) (omega arith) (omega arith) bytes x
      ∙ ap (λ (m : ℕ). paste old (at / 8) (pack_to (bytes_for (at % 8 + m)) (stay old (at / 8) (at % 8) ++ x)) (bytes_for (at % 8 + m))) n-bits

  pub put-aligned : at % 8 ≡ 0 → at + 128 ≤ length old * 8 → put_bits old at (take 128 (bits seg)) ≡ paste old (at / 8) seg 16
  unfolding bytes_for
  put-aligned aligned room =
      put-segment 128 (le_refl 128) room
      ∙ rw (aligned, pack_to-cut 16 128 (bits seg) (le_refl 128), rw block.size at (pack_to-bits seg block.bytes))
