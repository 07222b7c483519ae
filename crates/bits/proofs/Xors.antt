-- XOR of texts and of lists of bytes: lengths, parts, commutativity, and that the same key twice is gone. The bits of
-- an XOR are the XOR of the bits. Assumes nothing.
use mathlib.Core.Path.{◌≡◌, refl, sym, ap, ap₂, ◌∙◌}
use mathlib.Core.Bool.{Bool, true, false}
use mathlib.Core.List.{List, [], ◌∷◌, ◌++◌}
use Prim.Native.Nat.{ℕ, zero, suc, ◌-◌, ◌/◌, ◌%◌, ◌^◌, ◌≤◌, ◌<◌}
use native.Mathlib.Nat.{suc_inj, le_of_suc-le-suc, not-suc-le-zero}
use native.Mathlib.Omega.{arith}
use lib.Dec.{eqb}
use lib.ListN.{length, get_or, take, drop}
use Rattle.bits.specs.Xor.{xor, xor_bytes}
use Rattle.bits.specs.Texts.{bit, byte_bits, bits, xor_bit, xor_bits}
use Rattle.bits.specs.Blocks.{Bytes, Block}
use Rattle.bits.proofs.Xor as Xor
use Rattle.bits.proofs.Texts.{length-byte_bits, cons_bytes, tail_bytes}

-- ---- one bit

pub xor_bit_comm : (a b : Bool) → xor_bit a b ≡ xor_bit b a
unfolding xor_bit
xor_bit_comm false false = refl
xor_bit_comm false true = refl
xor_bit_comm true false = refl
xor_bit_comm true true = refl

pub xor_bit_undo : (a k : Bool) → xor_bit (xor_bit a k) k ≡ a
unfolding xor_bit
xor_bit_undo false false = refl
xor_bit_undo false true = refl
xor_bit_undo true false = refl
xor_bit_undo true true = refl

pub xor_bit_cancel : (a b k : Bool) → xor_bit a k ≡ xor_bit b k → a ≡ b
xor_bit_cancel a b k e = sym (xor_bit_undo a k) ∙ ap (λ (x : Bool). xor_bit x k) e ∙ xor_bit_undo b k

-- ---- texts

pub length-xor_bits : (x y : List Bool) → length x ≤ length y → length (xor_bits x y) ≡ length x
unfolding xor_bits
length-xor_bits [] y h = refl
length-xor_bits (a ∷ x) [] h = absurd (not-suc-le-zero h)
length-xor_bits (a ∷ x) (b ∷ y) h = ap suc (length-xor_bits x y (le_of_suc-le-suc h))

pub xor_bits_comm : (x y : List Bool) → xor_bits x y ≡ xor_bits y x
unfolding xor_bits
xor_bits_comm [] [] = refl
xor_bits_comm [] (b ∷ y) = refl
xor_bits_comm (a ∷ x) [] = refl
xor_bits_comm (a ∷ x) (b ∷ y) = rw (xor_bit_comm a b, xor_bits_comm x y)

pub xor_bits_undo : (x k : List Bool) → length x ≤ length k → xor_bits (xor_bits x k) k ≡ x
unfolding xor_bits
xor_bits_undo [] k h = refl
xor_bits_undo (a ∷ x) [] h = absurd (not-suc-le-zero h)
xor_bits_undo (a ∷ x) (b ∷ k) h = rw (xor_bit_undo, xor_bits_undo x k (le_of_suc-le-suc h))

pub get_or-xor_bits : (x y : List Bool) (i : ℕ) → i < length x → i < length y
    → get_or (xor_bits x y) i false ≡ xor_bit (get_or x i false) (get_or y i false)
unfolding xor_bits
get_or-xor_bits [] y i hx hy = absurd (not-suc-le-zero hx)
get_or-xor_bits (a ∷ x) [] i hx hy = absurd (not-suc-le-zero hy)
get_or-xor_bits (a ∷ x) (b ∷ y) zero hx hy = refl
get_or-xor_bits (a ∷ x) (b ∷ y) (suc i) hx hy = get_or-xor_bits x y i (le_of_suc-le-suc hx) (le_of_suc-le-suc hy)

pub take-xor_bits : (k : ℕ) (x y : List Bool) → take k (xor_bits x y) ≡ xor_bits (take k x) (take k y)
unfolding xor_bits
take-xor_bits zero x y = refl
take-xor_bits (suc k) [] y = refl
take-xor_bits (suc k) (a ∷ x) [] = refl
take-xor_bits (suc k) (a ∷ x) (b ∷ y) = ap (λ (t : List Bool). xor_bit a b ∷ t) (take-xor_bits k x y)

pub drop-xor_bits : (k : ℕ) (x y : List Bool) → drop k (xor_bits x y) ≡ xor_bits (drop k x) (drop k y)
unfolding xor_bits
drop-xor_bits zero x y = refl
drop-xor_bits (suc k) [] y = refl
drop-xor_bits (suc k) (a ∷ x) [] = xor_bits_comm [] (drop k x)
drop-xor_bits (suc k) (a ∷ x) (b ∷ y) = drop-xor_bits k x y

pub xor_bits-append : (a b x y : List Bool) → length a ≡ length x → xor_bits (a ++ b) (x ++ y) ≡ xor_bits a x ++ xor_bits b y
unfolding xor_bits
xor_bits-append [] b [] y e = refl
xor_bits-append [] b (c ∷ x) y e = absurd (omega arith)
xor_bits-append (c ∷ a) b [] y e = absurd (omega arith)
xor_bits-append (c ∷ a) b (d ∷ x) y e = ap (λ (t : List Bool). xor_bit c d ∷ t) (xor_bits-append a b x y (suc_inj e))

-- ---- bytes

pub length-xor_bytes : (a b : List ℕ) → length a ≡ length b → length (xor_bytes a b) ≡ length a
unfolding xor_bytes
length-xor_bytes [] b e = refl
length-xor_bytes (x ∷ a) [] e = absurd (omega arith)
length-xor_bytes (x ∷ a) (y ∷ b) e = ap suc (length-xor_bytes a b (suc_inj e))

pub xor_bytes_comm : (a b : List ℕ) → xor_bytes a b ≡ xor_bytes b a
unfolding xor_bytes
xor_bytes_comm [] [] = refl
xor_bytes_comm [] (y ∷ b) = refl
xor_bytes_comm (x ∷ a) [] = refl
xor_bytes_comm (x ∷ a) (y ∷ b) = rw (Xor.comm x y, xor_bytes_comm a b)

pub xor_bytes_undo : (a k : List ℕ) → length a ≡ length k → xor_bytes (xor_bytes a k) k ≡ a
unfolding xor_bytes
xor_bytes_undo [] k e = refl
xor_bytes_undo (x ∷ a) [] e = absurd (omega arith)
xor_bytes_undo (x ∷ a) (y ∷ k) e = rw (Xor.undo, xor_bytes_undo a k (suc_inj e))

pub xor_bytes_bytes : {a b : List ℕ} → Bytes a → Bytes b → Bytes (xor_bytes a b)
unfolding xor_bytes
xor_bytes_bytes {a = []} {b} ha hb = ha
xor_bytes_bytes {a = x ∷ a} {b = []} ha hb = hb
xor_bytes_bytes {a = x ∷ a} {b = y ∷ b} ha hb =
    cons_bytes (Xor.width 8 (ha.byte 0) (hb.byte 0)) (xor_bytes_bytes (tail_bytes ha) (tail_bytes hb))

pub xor_bytes-block : {a b : List ℕ} → Block a → Block b → Block (xor_bytes a b)
xor_bytes-block {a} {b} ha hb =
    record { size = length-xor_bytes a b (ha.size ∙ sym hb.size) ∙ ha.size; bytes = xor_bytes_bytes ha.bytes hb.bytes }

-- ---- the bits of an XOR of bytes

-- digits 0 and 1 differ as their tests do
xor-digit : (m n : ℕ) → m < 2 → n < 2 → eqb (xor m n) 1 ≡ xor_bit (eqb m 1) (eqb n 1)
unfolding xor xor_bit
xor-digit zero zero hm hn = refl
xor-digit zero (suc zero) hm hn = refl
xor-digit (suc zero) zero hm hn = refl
xor-digit (suc zero) (suc zero) hm hn = refl
xor-digit zero (suc (suc n)) hm hn = absurd (omega arith)
xor-digit (suc zero) (suc (suc n)) hm hn = absurd (omega arith)
xor-digit (suc (suc m)) n hm hn = absurd (omega arith)

pub bit_xor : (a b i : ℕ) → bit (xor a b) i ≡ xor_bit (bit a i) (bit b i)
unfolding bit
bit_xor a b i =
    rw (Xor.high (7 - i) a b, Xor.low 1 (a / 2 ^ (7 - i)) (b / 2 ^ (7 - i)))
    (xor-digit (a / 2 ^ (7 - i) % 2) (b / 2 ^ (7 - i) % 2) (omega arith) (omega arith))

pub byte_bits-xor : (a b : ℕ) → byte_bits (xor a b) ≡ xor_bits (byte_bits a) (byte_bits b)
unfolding byte_bits xor_bits
byte_bits-xor a b = simp bit_xor

pub bits-xor_bytes : (a b : List ℕ) → Bytes a → Bytes b → bits (xor_bytes a b) ≡ xor_bits (bits a) (bits b)
unfolding bits xor_bytes xor_bits
bits-xor_bytes [] b ha hb = refl
bits-xor_bytes (x ∷ a) [] ha hb = xor_bits_comm [] (byte_bits x ++ bits a)
bits-xor_bytes (x ∷ a) (y ∷ b) ha hb =
    ap₂ (λ (s t : List Bool). s ++ t) (byte_bits-xor x y) (bits-xor_bytes a b (tail_bytes ha) (tail_bytes hb))
    ∙ sym (xor_bits-append (byte_bits x) (bits a) (byte_bits y) (bits b) (length-byte_bits x ∙ sym (length-byte_bits y)))
