-- Four bytes as one number: the operations on such a number work on each byte, so that doubling the number doubles each
-- of its bytes. Assumes nothing.
use mathlib.Core.Path.{◌≡◌, refl, sym, ap, ap₂, ◌∙◌}
use mathlib.Core.List.{List, [], ◌∷◌, map}
use Prim.Native.Nat.{ℕ, ◌+◌, ◌*◌, ◌/◌, ◌%◌, ◌^◌, ◌<◌}
use native.Mathlib.Nat.{div-one, div-div-eq-div-mul}
use native.Mathlib.Omega.{arith}
use lib.Bits.{bit_and, bit_xor, and_block, and_high}
use Rattle.bits.specs.Xor.{xor}
use Rattle.bits.specs.Counter.{number, number_bytes}
use Rattle.bits.proofs.Xor as Xor
use Rattle.bits.proofs.Tables.{agree}
use Rattle.field.specs.Field.{double}
use Rattle.field.specs.Rows.{four}
use Rattle.bits.proofs.Counter.{number-bytes}
use Rattle.field.proofs.Fours.{four_bytes}

abbrev quad : ℕ → ℕ → ℕ → ℕ → ℕ
quad a b c d = ((a * 256 + b) * 256 + c) * 256 + d

number-four : (a b c d : ℕ) → number (a ∷ b ∷ c ∷ d ∷ []) ≡ quad a b c d
unfolding number
number-four a b c d = omega arith

pub join_four : (f : ℕ → ℕ) → f 0 * 16777216 + f 1 * 65536 + f 2 * 256 + f 3 ≡ number (four f)
unfolding four
join_four f =
    let q : number (f 0 ∷ f 1 ∷ f 2 ∷ f 3 ∷ []) ≡ quad (f 0) (f 1) (f 2) (f 3) = number-four (f 0) (f 1) (f 2) (f 3) in
    omega arith

-- ---- byte by byte

xor_quad : (a b c d p q r s : ℕ) → b < 256 → c < 256 → d < 256 → q < 256 → r < 256 → s < 256
    → xor (quad a b c d) (quad p q r s) ≡ quad (xor a p) (xor b q) (xor c r) (xor d s)
xor_quad a b c d p q r s hb hc hd hq hr hs =
    Xor.block 8 ((a * 256 + b) * 256 + c) ((p * 256 + q) * 256 + r) d s hd hs
    ∙ ap (λ (x : ℕ). x * 256 + xor d s) (Xor.block 8 (a * 256 + b) (p * 256 + q) c r hc hr)
    ∙ ap (λ (x : ℕ). (x * 256 + xor c r) * 256 + xor d s) (Xor.block 8 a p b q hb hq)

and_quad : (a b c d p q r s : ℕ) → b < 256 → c < 256 → d < 256 → q < 256 → r < 256 → s < 256
    → bit_and (quad a b c d) (quad p q r s) ≡ quad (bit_and a p) (bit_and b q) (bit_and c r) (bit_and d s)
and_quad a b c d p q r s hb hc hd hq hr hs =
    and_block 8 ((a * 256 + b) * 256 + c) ((p * 256 + q) * 256 + r) d s hd hs
    ∙ ap (λ (x : ℕ). x * 256 + bit_and d s) (and_block 8 (a * 256 + b) (p * 256 + q) c r hc hr)
    ∙ ap (λ (x : ℕ). (x * 256 + bit_and c r) * 256 + bit_and d s) (and_block 8 a p b q hb hq)

-- the highest bit of a byte, and the byte without it
top : (b : ℕ) → bit_and b 128 ≡ b / 128 % 2 * 128
top b = and_high b 1 7

rest : (b : ℕ) → b < 256 → xor b (b / 128 % 2 * 128) ≡ b % 128
unfolding xor
rest b h = agree (λ b. bit_xor b (b / 128 % 2 * 128)) (λ b. b % 128) 256 tt b h

tops : (a b c d : ℕ) → b < 256 → c < 256 → d < 256
    → bit_and (quad a b c d) 0x8080_8080 ≡ quad (a / 128 % 2 * 128) (b / 128 % 2 * 128) (c / 128 % 2 * 128) (d / 128 % 2 * 128)
tops a b c d hb hc hd =
    and_quad a b c d 128 128 128 128 hb hc hd (omega arith) (omega arith) (omega arith)
    ∙ ap₂ (λ (x y : ℕ). quad x y (bit_and c 128) (bit_and d 128)) (top a) (top b)
    ∙ ap₂ (λ (x y : ℕ). quad (a / 128 % 2 * 128) (b / 128 % 2 * 128) x y) (top c) (top d)

-- ---- doubling

-- what the code computes of the number x
unfoldable pub doubled : ℕ → ℕ
doubled x = xor (bit_and x 0x8080_8080 / 128 * 27) (xor x (bit_and x 0x8080_8080) * 2 % 2 ^ 32)

bottoms : (a b c d : ℕ) → a < 256 → b < 256 → c < 256 → d < 256
    → xor (quad a b c d) (bit_and (quad a b c d) 0x8080_8080) ≡ quad (a % 128) (b % 128) (c % 128) (d % 128)
bottoms a b c d ha hb hc hd =
    ap (xor (quad a b c d)) (tops a b c d hb hc hd)
    ∙ xor_quad a b c d (a / 128 % 2 * 128) (b / 128 % 2 * 128) (c / 128 % 2 * 128) (d / 128 % 2 * 128) hb hc hd (omega arith) (omega arith) (omega arith)
    ∙ ap₂ (λ (x y : ℕ). quad x y (xor c (c / 128 % 2 * 128)) (xor d (d / 128 % 2 * 128))) (rest a ha) (rest b hb)
    ∙ ap₂ (λ (x y : ℕ). quad (a % 128) (b % 128) x y) (rest c hc) (rest d hd)

doubled_quad : (a b c d : ℕ) → a < 256 → b < 256 → c < 256 → d < 256 → doubled (quad a b c d) ≡ quad (double a) (double b) (double c) (double d)
unfolding doubled double
doubled_quad a b c d ha hb hc hd =
    ap₂ xor
    (ap (λ (x : ℕ). x / 128 * 27) (tops a b c d hb hc hd) ∙ tops-reduced (a / 128 % 2) (b / 128 % 2) (c / 128 % 2) (d / 128 % 2))
    (ap (λ (x : ℕ). x * 2 % 2 ^ 32) (bottoms a b c d ha hb hc hd)
    ∙ moved (a % 128) (b % 128) (c % 128) (d % 128) (omega arith) (omega arith) (omega arith) (omega arith))
    ∙ xor_quad (a / 128 % 2 * 27) (b / 128 % 2 * 27) (c / 128 % 2 * 27) (d / 128 % 2 * 27) (a % 128 * 2) (b % 128 * 2) (c % 128 * 2) (d % 128 * 2)
    (omega arith) (omega arith) (omega arith) (omega arith) (omega arith) (omega arith)
  where
    tops-reduced : (s t u v : ℕ) → quad (s * 128) (t * 128) (u * 128) (v * 128) / 128 * 27 ≡ quad (s * 27) (t * 27) (u * 27) (v * 27)
    tops-reduced s t u v = omega arith

    moved : (s t u v : ℕ) → s < 128 → t < 128 → u < 128 → v < 128
        → quad s t u v * 2 % 2 ^ 32 ≡ quad (s * 2) (t * 2) (u * 2) (v * 2)
    moved s t u v hs ht hu hv = omega arith

pub split_four : (x : ℕ) → number_bytes 4 x ≡ x / 16777216 % 256 ∷ x / 65536 % 256 ∷ x / 256 % 256 ∷ x % 256 ∷ []
unfolding number_bytes
split_four x = ap (λ (y : ℕ). x / 16777216 % 256 ∷ x / 65536 % 256 ∷ x / 256 % 256 ∷ y % 256 ∷ []) (div-one x)

whole : (x : ℕ) → x < 2 ^ 32 → quad (x / 16777216 % 256) (x / 65536 % 256) (x / 256 % 256) (x % 256) ≡ x
whole x h =
    let e : x / 65536 ≡ x / 256 / 256 = sym (div-div-eq-div-mul x 256 256) in
    let f : x / 16777216 ≡ x / 256 / 256 / 256 = sym (ap (λ (y : ℕ). y / 256) (div-div-eq-div-mul x 256 256) ∙ div-div-eq-div-mul x 65536 256) in
    rw (e, f) (digits (x / 256) (x / 256 / 256) (omega arith) refl refl)
  where
    digits : (y z : ℕ) → z / 256 < 256 → y / 256 ≡ z → x / 256 ≡ y → quad (z / 256 % 256) (z % 256) (y % 256) (x % 256) ≡ x
    digits y z hz p q = omega arith

pub doubled_row : (x : ℕ) → x < 2 ^ 32 → doubled x ≡ number (map double (number_bytes 4 x))
doubled_row x h =
    ap doubled (sym (whole x h))
    ∙ doubled_quad (x / 16777216 % 256) (x / 65536 % 256) (x / 256 % 256) (x % 256) (omega arith) (omega arith) (omega arith) (omega arith)
    ∙ sym (number-four (double (x / 16777216 % 256)) (double (x / 65536 % 256)) (double (x / 256 % 256)) (double (x % 256)))
    ∙ ap (λ (l : List ℕ). number (map double l)) (sym (split_four x))

-- the bits that leave a byte are few enough to multiply
pub tops_fit : (x : ℕ) → x < 2 ^ 32 → bit_and x 0x8080_8080 / 128 * 27 < 2 ^ 32
tops_fit x h =
    let e : bit_and x 0x8080_8080 ≡ quad (x / 16777216 % 256 / 128 % 2 * 128) (x / 65536 % 256 / 128 % 2 * 128) (x / 256 % 256 / 128 % 2 * 128) (x % 256 / 128 % 2 * 128) = ap (λ (y : ℕ). bit_and y 0x8080_8080) (sym (whole x h)) ∙ tops (x / 16777216 % 256) (x / 65536 % 256) (x / 256 % 256) (x % 256) (omega arith) (omega arith) (omega arith) in
    omega arith

-- ---- rows of bytes, by their places

-- a row's number has the row's bytes
pub split_joined : (f : ℕ → ℕ) → ((i : ℕ) → f i < 256) → number_bytes 4 (number (four f)) ≡ four f
unfolding four
split_joined f h = number-bytes (four f) (four_bytes f h)

pub xor-joined : (f g : ℕ → ℕ) → ((i : ℕ) → f i < 256) → ((i : ℕ) → g i < 256)
    → xor (number (four f)) (number (four g)) ≡ number (four (λ i. xor (f i) (g i)))
unfolding four
xor-joined f g hf hg =
    ap₂ xor (number-four (f 0) (f 1) (f 2) (f 3)) (number-four (g 0) (g 1) (g 2) (g 3))
    ∙ xor_quad (f 0) (f 1) (f 2) (f 3) (g 0) (g 1) (g 2) (g 3) (hf 1) (hf 2) (hf 3) (hg 1) (hg 2) (hg 3)
    ∙ sym (number-four (xor (f 0) (g 0)) (xor (f 1) (g 1)) (xor (f 2) (g 2)) (xor (f 3) (g 3)))

pub double-joined : (f : ℕ → ℕ) → ((i : ℕ) → f i < 256) → number (map double (number_bytes 4 (number (four f)))) ≡ number (four (λ i. double (f i)))
unfolding four
double-joined f h = ap (λ l. number (map double l)) (split_joined f h) ∙ mapped
  where
    mapped : number (map double (four f)) ≡ number (four (λ i. double (f i)))
    mapped = refl
