-- Bytes as bits and bits as bytes: lengths, the two ways round, whole bytes at a seam, and the spare bits of the last
-- byte. Assumes nothing.
use mathlib.Core.Path.{◌≡◌, refl, sym, ap, ap₂, ◌∙◌}
use mathlib.Core.Bool.{Bool, true, false}
use mathlib.Core.List.{List, [], ◌∷◌, ◌++◌, append_assoc}
use Prim.Native.Nat.{ℕ, zero, suc, ◌+◌, ◌-◌, ◌*◌, ◌/◌, ◌%◌, ◌^◌, ◌≤◌, ◌<◌}
use native.Mathlib.Nat.{add-sub_of_le, zero-add, suc-mul, suc-add}
use native.Mathlib.Numerals.{add_eight}
use native.Mathlib.Omega.{arith}
use lib.Dec.{eqb, eqb→eq, lit<, lit≤}
use lib.ListN.{length, get_or, take, drop, replicate, length-append, length-drop, length-replicate, take-append-drop}
use lib.ListN.{get_or-append}
use lib.Seq.{length-take-le, ext_get_or, take-nil, drop-nil, get_or-take, get_or-drop}
use lib.Seq.{take-append-le, take-append_seam, drop-append-le, drop-append-add, drop-drop}
use Rattle.bits.specs.Texts.{bit, byte_bits, bits, digit, byte_of, pack_to, bytes_for, pack, put_bits}
use Rattle.bits.specs.Blocks.{Bytes, Block}
use Rattle.bits.proofs.Tables.{below}

-- ---- from bytes to bits

pub length-byte_bits : (b : ℕ) → length (byte_bits b) ≡ 8
unfolding byte_bits
length-byte_bits b = refl

pub length-bits : (bs : List ℕ) → length (bits bs) ≡ length bs * 8
unfolding bits byte_bits
length-bits [] = refl
length-bits (b ∷ bs) = omega (arith, length-bits bs)

pub bits-append : (xs ys : List ℕ) → bits (xs ++ ys) ≡ bits xs ++ bits ys
unfolding bits
bits-append [] ys = refl
bits-append (x ∷ xs) ys = ap (λ (t : List Bool). byte_bits x ++ t) (bits-append xs ys) ∙ sym (append_assoc (byte_bits x) (bits xs) (bits ys))

eight_more : (k : ℕ) → suc k * 8 ≡ suc (suc (suc (suc (suc (suc (suc (suc (k * 8))))))))
eight_more k = suc-mul k 8 ∙ add_eight (k * 8)

pub drop_bits : (k : ℕ) (bs : List ℕ) → drop (k * 8) (bits bs) ≡ bits (drop k bs)
unfolding bits byte_bits
drop_bits zero bs = refl
drop_bits (suc k) [] = drop-nil (suc k * 8)
drop_bits (suc k) (b ∷ bs) = rw eight_more (drop_bits k bs)

pub take-bits : (k : ℕ) (bs : List ℕ) → take (k * 8) (bits bs) ≡ bits (take k bs)
unfolding bits byte_bits
take-bits zero bs = refl
take-bits (suc k) [] = take-nil (suc k * 8)
take-bits (suc k) (b ∷ bs) = rw (eight_more, take-bits k bs)

-- ---- one byte

-- a rule for each place in a byte, from its eight cases
places : (P : ℕ → Type 0) → P 0 → P 1 → P 2 → P 3 → P 4 → P 5 → P 6 → P 7 → (i : ℕ) → i < 8 → P i
places P p0 p1 p2 p3 p4 p5 p6 p7 zero h = p0
places P p0 p1 p2 p3 p4 p5 p6 p7 (suc zero) h = p1
places P p0 p1 p2 p3 p4 p5 p6 p7 (suc (suc zero)) h = p2
places P p0 p1 p2 p3 p4 p5 p6 p7 (suc (suc (suc zero))) h = p3
places P p0 p1 p2 p3 p4 p5 p6 p7 (suc (suc (suc (suc zero)))) h = p4
places P p0 p1 p2 p3 p4 p5 p6 p7 (suc (suc (suc (suc (suc zero))))) h = p5
places P p0 p1 p2 p3 p4 p5 p6 p7 (suc (suc (suc (suc (suc (suc zero)))))) h = p6
places P p0 p1 p2 p3 p4 p5 p6 p7 (suc (suc (suc (suc (suc (suc (suc zero))))))) h = p7
places P p0 p1 p2 p3 p4 p5 p6 p7 (suc (suc (suc (suc (suc (suc (suc (suc i)))))))) h = absurd (omega arith)

pub get_or-byte_bits : (b i : ℕ) → i < 8 → get_or (byte_bits b) i false ≡ bit b i
unfolding byte_bits
get_or-byte_bits b = places (λ i. get_or (byte_bits b) i false ≡ bit b i) refl refl refl refl refl refl refl refl

digit_le : (b : Bool) → digit b ≤ 1
unfolding digit
digit_le false = lit≤ tt
digit_le true = lit≤ tt

-- the eight digits of a text's first byte
record Digits (x : List Bool) : Type 0 where
  d0 : digit (get_or x 0 false) ≤ 1
  d1 : digit (get_or x 1 false) ≤ 1
  d2 : digit (get_or x 2 false) ≤ 1
  d3 : digit (get_or x 3 false) ≤ 1
  d4 : digit (get_or x 4 false) ≤ 1
  d5 : digit (get_or x 5 false) ≤ 1
  d6 : digit (get_or x 6 false) ≤ 1
  d7 : digit (get_or x 7 false) ≤ 1

digits : (x : List Bool) → Digits x
digits x = search digit_le

pub byte_of_lt : (x : List Bool) → byte_of x < 256
unfolding byte_of
byte_of_lt x = omega (arith, digits x)

digit_byte_of : (x : List Bool) (i : ℕ) → i < 8 → byte_of x / 2 ^ (7 - i) % 2 ≡ digit (get_or x i false)
unfolding byte_of
digit_byte_of x =
    let d = digits x in
    places (λ i. byte_of x / 2 ^ (7 - i) % 2 ≡ digit (get_or x i false)) (omega arith) (omega arith) (omega arith) (omega arith)
    (omega arith) (omega arith) (omega arith) (omega arith)

eqb_digit : (b : Bool) → eqb (digit b) 1 ≡ b
unfolding digit
eqb_digit true = refl
eqb_digit false = refl

pub bit_byte_of : (x : List Bool) (i : ℕ) → i < 8 → bit (byte_of x) i ≡ get_or x i false
unfolding bit
bit_byte_of x i h = ap (λ (n : ℕ). eqb n 1) (digit_byte_of x i h) ∙ eqb_digit (get_or x i false)

pub byte_bits_byte_of : (x : List Bool) → length x ≡ 8 → byte_bits (byte_of x) ≡ x
byte_bits_byte_of x e =
    let n : length (byte_bits (byte_of x)) ≡ 8 = length-byte_bits (byte_of x) in
    ext_get_or false (byte_bits (byte_of x)) x (cc)
    (λ i h. let h8 : i < 8 = omega arith in get_or-byte_bits (byte_of x) i h8 ∙ bit_byte_of x i h8)

byte_of_byte_bits : (b : ℕ) → b < 256 → byte_of (byte_bits b) ≡ b
unfolding byte_of byte_bits bit digit
byte_of_byte_bits b h = eqb→eq (byte_of (byte_bits b)) b (below (λ n. eqb (byte_of (byte_bits n)) n) 256 tt b h)

pub byte_of_front : (b : ℕ) (x : List Bool) → b < 256 → byte_of (byte_bits b ++ x) ≡ b
unfolding byte_of byte_bits
byte_of_front b x h = byte_of_byte_bits b h

-- the first eight bits decide
byte_of_ext : (x y : List Bool) → ((i : ℕ) → i < 8 → get_or x i false ≡ get_or y i false) → byte_of x ≡ byte_of y
unfolding byte_of
byte_of_ext x y h =
    cc (
      h 0 (lit< tt),
      h 1 (lit< tt),
      h 2 (lit< tt),
      h 3 (lit< tt),
      h 4 (lit< tt),
      h 5 (lit< tt),
      h 6 (lit< tt),
      h 7 (lit< tt),
    )

pub byte_of_take : (x : List Bool) → byte_of (take 8 x) ≡ byte_of x
byte_of_take x = byte_of_ext (take 8 x) x (λ i h. get_or-take 8 x i false h)

byte_of_append : (x y : List Bool) → 8 ≤ length x → byte_of (x ++ y) ≡ byte_of x
byte_of_append x y h = byte_of_ext (x ++ y) x (λ i l. get_or-append x y false i (omega arith))

byte_bits_front : (x : List Bool) → 8 ≤ length x → byte_bits (byte_of x) ≡ take 8 x
byte_bits_front x h = ap byte_bits (sym (byte_of_take x)) ∙ byte_bits_byte_of (take 8 x) (length-take-le 8 x h)

-- ---- lists of bytes

pub bytes_nil : Bytes []
bytes_nil = record { byte = λ i. lit< tt }

cons_at : {b : ℕ} {bs : List ℕ} → b < 256 → Bytes bs → (i : ℕ) → get_or (b ∷ bs) i 0 < 256
cons_at h bytes zero = h
cons_at h bytes (suc i) = bytes.byte i

pub cons_bytes : {b : ℕ} {bs : List ℕ} → b < 256 → Bytes bs → Bytes (b ∷ bs)
cons_bytes h bytes = record { byte = cons_at h bytes }

pub tail_bytes : {b : ℕ} {bs : List ℕ} → Bytes (b ∷ bs) → Bytes bs
tail_bytes bytes = record { byte = λ i. bytes.byte (suc i) }

pub append_bytes : {xs ys : List ℕ} → Bytes xs → Bytes ys → Bytes (xs ++ ys)
append_bytes {xs = []} hx hy = hy
append_bytes {xs = x ∷ xs} hx hy = cons_bytes (hx.byte 0) (append_bytes (tail_bytes hx) hy)

pub drop_bytes : (k : ℕ) {bs : List ℕ} → Bytes bs → Bytes (drop k bs)
drop_bytes k {bs} h = record { byte = λ i. rw get_or-drop (h.byte (k + i)) }

pub take_bytes : (k : ℕ) {bs : List ℕ} → Bytes bs → Bytes (take k bs)
take_bytes zero {bs} h = bytes_nil
take_bytes (suc k) {bs = []} h = bytes_nil
take_bytes (suc k) {bs = b ∷ bs} h = cons_bytes (h.byte 0) (take_bytes k (tail_bytes h))

-- ---- the first k bytes of a text

pub pack_to-length : (k : ℕ) (x : List Bool) → length (pack_to k x) ≡ k
unfolding pack_to
pack_to-length zero x = refl
pack_to-length (suc k) x = ap suc (pack_to-length k (drop 8 x))

pub pack_to_bytes : (k : ℕ) (x : List Bool) → Bytes (pack_to k x)
unfolding pack_to
pack_to_bytes zero x = bytes_nil
pack_to_bytes (suc k) x = cons_bytes (byte_of_lt x) (pack_to_bytes k (drop 8 x))

pub pack_to-bits : (bs : List ℕ) → Bytes bs → pack_to (length bs) (bits bs) ≡ bs
unfolding pack_to bits byte_bits
pack_to-bits [] h = refl
pack_to-bits (b ∷ bs) h = ap₂ (λ (x : ℕ) (xs : List ℕ). x ∷ xs) (byte_of_front b (bits bs) (h.byte 0)) (pack_to-bits bs (tail_bytes h))

pub bits-pack_to : (k : ℕ) (x : List Bool) → length x ≡ k * 8 → bits (pack_to k x) ≡ x
unfolding pack_to bits
bits-pack_to zero [] e = refl
bits-pack_to zero (a ∷ x) e = absurd (omega arith)
bits-pack_to (suc k) x e =
    ap₂ (λ (a b : List Bool). a ++ b) (byte_bits_front x (omega arith)) (bits-pack_to k (drop 8 x) (simp length-drop (omega arith)))
    ∙ take-append-drop 8 x

pub pack_to-append : (k j : ℕ) (x y : List Bool) → length x ≡ k * 8 → pack_to (k + j) (x ++ y) ≡ pack_to k x ++ pack_to j y
unfolding pack_to
pack_to-append zero j [] y e = rw zero-add
pack_to-append zero j (a ∷ x) y e = absurd (omega arith)
pack_to-append (suc k) j x y e =
    rw (
      suc-add,
      byte_of_append x y (omega arith),
      drop-append-le 8 x y (omega arith),
      pack_to-append k j (drop 8 x) y (simp length-drop (omega arith)),
    )

-- ---- a text as bytes

pub bytes_for_whole : (k : ℕ) → bytes_for (k * 8) ≡ k
unfolding bytes_for
bytes_for_whole k = omega arith

pub length-pack : (x : List Bool) → length (pack x) ≡ bytes_for (length x)
unfolding pack
length-pack x = pack_to-length (bytes_for (length x)) x

pub pack_bytes : (x : List Bool) → Bytes (pack x)
unfolding pack
pack_bytes x = pack_to_bytes (bytes_for (length x)) x

-- a text of whole bytes
pack_whole : (k : ℕ) (x : List Bool) → length x ≡ k * 8 → pack x ≡ pack_to k x
unfolding pack
pack_whole k x e = rw (e, bytes_for_whole)

pub pack-bits : (bs : List ℕ) → Bytes bs → pack (bits bs) ≡ bs
pack-bits bs h = pack_whole (length bs) (bits bs) (length-bits bs) ∙ pack_to-bits bs h

pub bits-pack : (k : ℕ) (x : List Bool) → length x ≡ k * 8 → bits (pack x) ≡ x
bits-pack k x e = ap bits (pack_whole k x e) ∙ bits-pack_to k x e

bytes_for_add : (k n : ℕ) → bytes_for (k * 8 + n) ≡ k + bytes_for n
unfolding bytes_for
bytes_for_add k n = omega arith

pub pack-append : (k : ℕ) (x y : List Bool) → length x ≡ k * 8 → pack (x ++ y) ≡ pack x ++ pack y
unfolding pack
pack-append k x y e = rw (length-append, e, bytes_for_add, bytes_for_whole) (pack_to-append k (bytes_for (length y)) x y e)

-- ---- the spare bits

get_or_zeros : (n i : ℕ) → get_or (replicate n false) i false ≡ false
get_or_zeros zero i = refl
get_or_zeros (suc n) zero = refl
get_or_zeros (suc n) (suc i) = get_or_zeros n i

-- bits that a text lacks are 0
get_or_pad : (x : List Bool) (n i : ℕ) → get_or (x ++ replicate n false) i false ≡ get_or x i false
get_or_pad [] n i = get_or_zeros n i
get_or_pad (a ∷ x) n zero = refl
get_or_pad (a ∷ x) n (suc i) = get_or_pad x n i

pack_to_ext : (k : ℕ) (x y : List Bool) → ((i : ℕ) → get_or x i false ≡ get_or y i false) → pack_to k x ≡ pack_to k y
unfolding pack_to
pack_to_ext zero x y h = refl
pack_to_ext (suc k) x y h =
    ap₂ (λ (b : ℕ) (bs : List ℕ). b ∷ bs) (byte_of_ext x y (λ i l. h i))
    (pack_to_ext k (drop 8 x) (drop 8 y) (λ i. simp get_or-drop (h (8 + i))))

pub bits-pack_to_pad : (k : ℕ) (x : List Bool) → length x ≤ k * 8 → bits (pack_to k x) ≡ x ++ replicate (k * 8 - length x) false
bits-pack_to_pad k x h =
    ap bits (pack_to_ext k x (x ++ replicate (k * 8 - length x) false) (λ i. sym (get_or_pad x (k * 8 - length x) i)))
    ∙ bits-pack_to k (x ++ replicate (k * 8 - length x) false) (simp (length-append, length-replicate) (omega arith))

bytes_for_enough : (n : ℕ) → n ≤ bytes_for n * 8
unfolding bytes_for
bytes_for_enough n = omega arith

pub bits-pack_pad : (x : List Bool) → bits (pack x) ≡ x ++ replicate (bytes_for (length x) * 8 - length x) false
unfolding pack
bits-pack_pad x = bits-pack_to_pad (bytes_for (length x)) x (bytes_for_enough (length x))

pub take-bits-pack : (x : List Bool) → take (length x) (bits (pack x)) ≡ x
take-bits-pack x = rw bits-pack_pad (take-append_seam x (replicate (bytes_for (length x) * 8 - length x) false))

-- ---- blocks

pub pack-block : (x : List Bool) → length x ≡ 128 → Block (pack x)
unfolding bytes_for
pack-block x e = record { size = length-pack x ∙ ap bytes_for e; bytes = pack_bytes x }

pub bits-block : {b : List ℕ} → Block b → length (bits b) ≡ 128
bits-block {b} h = length-bits b ∙ ap (λ (n : ℕ). n * 8) h.size

pub block-bits-pack : (x : List Bool) → length x ≡ 128 → bits (pack x) ≡ x
block-bits-pack x e = bits-pack 16 x e

pub block-pack-bits : {b : List ℕ} → Block b → pack (bits b) ≡ b
block-pack-bits {b} h = pack-bits b h.bytes

-- ---- bits into bytes that are there already

bytes_for_mono : (m n : ℕ) → bytes_for m ≤ bytes_for (m + n)
unfolding bytes_for
bytes_for_mono m n = omega arith

-- the bits of a text's bytes begin with the text, whatever bytes follow
pub take-bits_packed : (x : List Bool) (rest : List ℕ) → take (length x) (bits (pack x ++ rest)) ≡ x
take-bits_packed x rest =
    rw bits-append
    (take-append-le (length x) (bits (pack x)) (bits rest)
    (rw (length-bits, length-pack) (bytes_for_enough (length x)))
    ∙ take-bits-pack x)

-- past a front that is replaced by one as long nothing changes
pub drop_front : (p o : List ℕ) {n m : ℕ} → length p ≡ n → n ≤ m → drop m (p ++ drop n o) ≡ drop m o
drop_front p o {n} {m} e h =
    rw (e, add-sub_of_le h) at (drop-append-add p (drop n o) (m - n) ∙ drop-drop (m - n) n o)

-- what a writing loop does: after the text x, of any length, comes the text s
pub put_after : (x s : List Bool) (o : List ℕ)
    → put_bits (pack x ++ drop (bytes_for (length x)) o) (length x) s ≡ pack (x ++ s) ++ drop (bytes_for (length x + length s)) o
unfolding put_bits
put_after x s o =
    ap₂ (λ (t : List Bool) (u : List ℕ). pack (t ++ s) ++ u)
    (take-bits_packed x (drop (bytes_for (length x)) o))
    (drop_front (pack x) o (length-pack x) (bytes_for_mono (length x) (length s)))
