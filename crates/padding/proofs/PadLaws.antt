-- A padded text: its length, the bytes that hold it, and what writing it leaves. Assumes nothing.
use Prim.Native.Nat.{ℕ, zero, suc, ◌+◌, ◌-◌, ◌*◌, ◌/◌, ◌%◌, ◌^◌, ◌≤◌, ◌<◌}
use mathlib.Core.Path.{◌≡◌, refl, sym, ap, ap₂, ◌∙◌}
use mathlib.Core.Bool.{Bool, true, false}
use mathlib.Core.List.{List, ◌∷◌, ◌++◌, append_assoc}
use native.Mathlib.Omega.{arith}
use lib.Bits.{bit_or}
use lib.Dec.{eqb, eqb→eq}
use lib.ListN.{length, get_or, take, drop, set, replicate, length-append, length-take, length-drop, length-replicate}
use lib.Seq.{length-take-le, take-take, take-append-le, take-add, drop-append-add, drop-append-le, drop-cons, paste, set_split}
use Rattle.std.proofs.lemmas.List.{replicate-append-replicate, drop-replicate}
use Rattle.bits.specs.Texts.{bit, byte_bits, bits, digit, byte_of, bytes_for, pack_to, pack}
use Rattle.bits.specs.Blocks.{Bytes}
use Rattle.bits.proofs.Tables.{every_below, below}
use Rattle.bits.proofs.Texts.{length-bits, length-byte_bits, bits-append, take-bits, drop_bits, length-pack, pack-append, pack-bits, bytes_for_whole, drop_front, take_bytes}
use Rattle.questions.specs.Questions.{max_bits}
use Rattle.modes.specs.Sessions.{fed_text, written}
use Rattle.modes.proofs.WrittenLaws.{written-text, written-size}
use Rattle.padding.specs.Padding.{zeros_for, padded, padded_length, max_pad_bits}

-- ---- lengths

pub padded_whole : (n : ℕ) → padded_length n % 128 ≡ 0
unfolding padded_length zeros_for
padded_whole n = omega arith

pub padded_limit : (n : ℕ) → n ≤ max_pad_bits → padded_length n ≤ max_bits
unfolding padded_length zeros_for
padded_limit n h = omega arith

pub length-padded : (x : List Bool) → length (padded x) ≡ padded_length (length x)
unfolding padded padded_length
length-padded x = simp (length-append, length-replicate)

pub length_fed : (s : List ℕ) (count : ℕ) → count ≤ 8 * length s → length (fed_text s count) ≡ count
unfolding fed_text
length_fed s count h = length-take-le count (bits s) (rw length-bits (omega arith))

pub padded_bytes : (s : List ℕ) (count : ℕ) → count ≤ 8 * length s → length (pack (padded (fed_text s count))) ≡ bytes_for (padded_length count)
padded_bytes s count h = rw (length-pack, length-padded, length_fed s count h)

-- ---- a 1 bit and 0 bits after a text

-- a byte's first r bits, then a 1 bit, then 0 bits
abbrev pub marked : ℕ → ℕ → List Bool
marked b r = take r (byte_bits b) ++ true ∷ replicate (7 - r) false

-- as shifts make it
pub marked_byte : (b r : ℕ) → b < 256 → r < 8 → bit_or (b / 2 ^ (7 - r)) 1 * 2 ^ (7 - r) % 256 ≡ byte_of (marked b r)
unfolding byte_of byte_bits bit digit
marked_byte b r hb hr =
    let f : ℕ → ℕ → Bool = λ q n. eqb (bit_or (n / 2 ^ (7 - q)) 1 * 2 ^ (7 - q) % 256) (byte_of (marked n q)) in
    eqb→eq (bit_or (b / 2 ^ (7 - r)) 1 * 2 ^ (7 - r) % 256) (byte_of (marked b r))
    (below (f r) 256 (below (λ q. every_below (f q) 256) 8 tt r hr) b hb)

zero_bytes : (m : ℕ) → pack_to m (replicate (m * 8) false) ≡ replicate m 0
unfolding pack_to byte_of digit
zero_bytes zero = refl
zero_bytes (suc m) =
    let e : suc m * 8 ≡ suc (suc (suc (suc (suc (suc (suc (suc (m * 8)))))))) = omega arith in
    rw e (ap (λ (l : List ℕ). 0 ∷ l) (zero_bytes m))

byte_and_zeros : (x : List Bool) (m : ℕ) → length x ≡ 1 * 8 → pack (x ++ replicate (m * 8) false) ≡ byte_of x ∷ replicate m 0
unfolding pack pack_to
byte_and_zeros x m e =
    pack-append 1 x (replicate (m * 8) false) e
    ∙ rw (e, length-replicate, bytes_for_whole 1, bytes_for_whole m) (ap (λ (l : List ℕ). byte_of x ∷ l) (zero_bytes m))

pub more_bytes : (count : ℕ) → bytes_for count ≤ bytes_for (padded_length count)
unfolding padded_length bytes_for
more_bytes count = omega arith

-- The first bits of a list that goes on, padded: the bytes before that of the 1 bit, that byte, and bytes 0.
module _ (l : List ℕ) (count : ℕ) (more : count / 8 < length l) (bytes : Bytes (take (count / 8) l)) where
  first-bits : take count (bits l) ≡ bits (take (count / 8) l) ++ take (count % 8) (byte_bits (get_or l (count / 8) 0))
  unfolding bits
  first-bits =
      let k = count / 8 in
      let b = byte_bits (get_or l k 0) in
      let all : count ≡ k * 8 + count % 8 = omega arith in
      ap (λ (n : ℕ). take n (bits l)) all
      ∙ rw (
        take-add,
        take-bits,
        drop_bits,
        drop-cons l k 0 more,
        take-append-le (count % 8) b (bits (drop (suc k) l)) (rw length-byte_bits (omega arith)),
      )

  whole-byte : length (marked (get_or l (count / 8) 0) (count % 8)) ≡ 1 * 8
  whole-byte = simp (length-append, length-replicate, length-take, length-byte_bits) (omega arith)

  padded-bits : padded (take count (bits l)) ≡ bits (take (count / 8) l) ++ (marked (get_or l (count / 8) 0) (count % 8) ++ replicate ((15 - count / 8 % 16) * 8) false)
  unfolding padded zeros_for
  padded-bits =
      let k = count / 8 in
      let r = count % 8 in
      let first = take r (byte_bits (get_or l k 0)) in
      let ones = true ∷ replicate (7 - r) false in
      let rest = replicate ((15 - k % 16) * 8) false in
      let size : length (take count (bits l)) ≡ count = length-take-le count (bits l) (rw length-bits (omega arith)) in
      let zeros : 127 - count % 128 ≡ (7 - r) + (15 - k % 16) * 8 = omega arith in
      rw (size, zeros, first-bits, ← replicate-append-replicate (7 - r) ((15 - k % 16) * 8) false, append_assoc (bits (take k l)) first (ones ++ rest))
      (ap (λ (t : List Bool). bits (take k l) ++ t) (sym (append_assoc first ones rest)))

  pub padded-bytes : pack (padded (take count (bits l))) ≡ take (count / 8) l ++ byte_of (marked (get_or l (count / 8) 0) (count % 8)) ∷ replicate (15 - count / 8 % 16) 0
  padded-bytes =
      let k = count / 8 in
      let byte = marked (get_or l k 0) (count % 8) in
      let m = 15 - k % 16 in
      ap pack padded-bits
      ∙ pack-append k (bits (take k l)) (byte ++ replicate (m * 8) false) (length-bits (take k l) ∙ ap (λ (n : ℕ). n * 8) (length-take-le k l (omega arith)))
      ∙ ap₂ (λ (a b : List ℕ). a ++ b) (pack-bits (take k l) bytes) (byte_and_zeros byte m whole-byte)

-- an output whose block of the 1 bit is cleared
abbrev pub cleared : List ℕ → ℕ → List ℕ
cleared o count = paste o (count / 128 * 16) (replicate 16 0) 16

module _ (s o : List ℕ) (count : ℕ) (there : count ≤ 8 * length s) where
  -- the text's bits, wherever its bytes were copied to
  copied-text : take count (bits (take (bytes_for count) s ++ drop (bytes_for count) o)) ≡ fed_text s count
  unfolding fed_text bytes_for
  copied-text =
      rw (
        bits-append,
        take-append-le count (bits (take (bytes_for count) s)) (bits (drop (bytes_for count) o)) (simp (length-bits, length-take) (omega arith)),
        ← take-bits,
        take-take count (bytes_for count * 8) (bits s) (omega arith),
      )

  whole-bytes : take (count / 8) (take (bytes_for count) s ++ drop (bytes_for count) o) ≡ take (count / 8) s
  unfolding bytes_for
  whole-bytes =
      take-append-le (count / 8) (take (bytes_for count) s) (drop (bytes_for count) o) (simp length-take (omega arith))
      ∙ take-take (count / 8) (bytes_for count) s (omega arith)

  behind : drop (suc (count / 8)) (take (bytes_for count) s ++ drop (bytes_for count) o) ≡ drop (suc (count / 8)) o
  unfolding bytes_for
  behind = drop_front (take (bytes_for count) s) o {m = suc (count / 8)} (length-take-le (bytes_for count) s (omega arith)) (omega arith)

cleared-behind : (o : List ℕ) (count : ℕ) → bytes_for (padded_length count) ≤ length o
    → drop (suc (count / 8)) (cleared o count) ≡ replicate (15 - count / 8 % 16) 0 ++ drop (bytes_for (padded_length count)) o
unfolding bytes_for padded_length zeros_for
cleared-behind o count room =
    let at = count / 128 * 16 in
    let j = suc (count / 8 % 16) in
    let rest = drop (at + 16) o in
    let front : length (take at o) ≡ at = length-take-le at o (omega arith) in
    let place : suc (count / 8) ≡ at + j = omega arith in
    let left : 16 - j ≡ 15 - count / 8 % 16 = omega arith in
    let end : at + 16 ≡ (count + suc (127 - count % 128) + 7) / 8 = omega arith in
    rw (place, append_assoc (take at o) (replicate 16 0) rest)
    (rw front at (drop-append-add (take at o) (replicate 16 0 ++ rest) j)
    ∙ drop-append-le j (replicate 16 0) rest (omega arith)
    ∙ rw (drop-replicate, left, end))

module _ (s o : List ℕ) (count : ℕ) (there : count ≤ 8 * length s) (room : bytes_for (padded_length count) ≤ length o) (bytes : Bytes s) where
  pub mark-set : {l : List ℕ} {v : ℕ} → l ≡ take (bytes_for count) s ++ drop (bytes_for count) (cleared o count)
      → v ≡ byte_of (marked (get_or l (count / 8) 0) (count % 8)) → count / 8 < length l
      → set l (count / 8) v ≡ pack (padded (fed_text s count)) ++ drop (bytes_for (padded_length count)) o
  mark-set {l} {v} copied byte inside =
      let k = count / 8 in
      let zeros = replicate (15 - k % 16) 0 in
      let rest = drop (bytes_for (padded_length count)) o in
      let front : take k l ≡ take k s = ap (take k) copied ∙ whole-bytes s (cleared o count) count there in
      let text : take count (bits l) ≡ fed_text s count = ap (λ (m : List ℕ). take count (bits m)) copied ∙ copied-text s (cleared o count) count there in
      let after : drop (suc k) l ≡ zeros ++ rest = ap (drop (suc k)) copied ∙ behind s (cleared o count) count there ∙ cleared-behind o count room in
      let packed = padded-bytes l count inside (rw front (take_bytes k bytes)) in
      set_split l k v inside
      ∙ rw (after, byte) (sym (append_assoc (take k l) (byte_of (marked (get_or l k 0) (count % 8)) ∷ zeros) rest))
      ∙ ap (λ (m : List ℕ). m ++ rest) (sym packed ∙ ap (λ (x : List Bool). pack (padded x)) text)

-- ---- a text written into an output, read back from there
module _ (out : List ℕ) (place : ℕ) (x : List Bool) (inside : place ≤ length out) (room : bytes_for (length x) ≤ length out - place) where
  pub written-fed : fed_text (drop place (written out place x)) (length x) ≡ x
  unfolding fed_text
  written-fed = written-text out place x inside

  pub written-there : length x ≤ 8 * length (drop place (written out place x))
  unfolding bytes_for
  written-there = rw (length-drop, written-size out place x inside room) (omega arith)
