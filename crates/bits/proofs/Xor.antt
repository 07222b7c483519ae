-- XOR is a commutative group in which each number is its own inverse; it keeps widths, and works on the low digits and
-- on the rest separately. Assumes nothing.
use mathlib.Core.Path.{◌≡◌, refl, sym, ap, ap₂, ◌∙◌}
use Prim.Native.Nat.{ℕ, zero, suc, ◌+◌, ◌*◌, ◌/◌, ◌%◌, ◌^◌, ◌<◌}
use native.Mathlib.Nat.{zero-lt-suc, mod-lt, le_of_suc-le-suc, not-suc-le-zero}
use lib.Arith.{bin_ind}
use lib.Bits.{bit_xor, differ, xor_step, xor_comm, xor_self, xor_zero_l, xor_zero_r, xor_lt, xor_shr, xor_mod, xor_block}
use Rattle.bits.specs.Xor.{xor}

pub comm : (a b : ℕ) → xor a b ≡ xor b a
unfolding xor
comm a b = xor_comm a b

pub self : (a : ℕ) → xor a a ≡ 0
unfolding xor
self a = xor_self a

pub zero_left : (b : ℕ) → xor 0 b ≡ b
unfolding xor
zero_left b = xor_zero_l b

pub zero_right : (a : ℕ) → xor a 0 ≡ a
unfolding xor
zero_right a = xor_zero_r a

pub width : (k : ℕ) {a b : ℕ} → a < 2 ^ k → b < 2 ^ k → xor a b < 2 ^ k
unfolding xor
width k {a} {b} ha hb = xor_lt k a b ha hb

-- the low k digits, and the rest
pub low : (k a b : ℕ) → xor a b % 2 ^ k ≡ xor (a % 2 ^ k) (b % 2 ^ k)
unfolding xor
low k a b = xor_mod a b k

pub high : (k a b : ℕ) → xor a b / 2 ^ k ≡ xor (a / 2 ^ k) (b / 2 ^ k)
unfolding xor
high k a b = xor_shr a b k

pub block : (k a b r s : ℕ) → r < 2 ^ k → s < 2 ^ k → xor (a * 2 ^ k + r) (b * 2 ^ k + s) ≡ xor a b * 2 ^ k + xor r s
unfolding xor
block k a b r s hr hs = xor_block k a b r s hr hs

digit_assoc : (x y z : ℕ) → x < 2 → y < 2 → z < 2 → differ (bit_xor x y) z ≡ differ x (bit_xor y z)
digit_assoc zero zero z hx hy hz = refl
digit_assoc zero (suc zero) zero hx hy hz = refl
digit_assoc zero (suc zero) (suc zero) hx hy hz = refl
digit_assoc zero (suc zero) (suc (suc z)) hx hy hz = absurd (not-suc-le-zero (le_of_suc-le-suc (le_of_suc-le-suc hz)))
digit_assoc (suc zero) zero zero hx hy hz = refl
digit_assoc (suc zero) zero (suc zero) hx hy hz = refl
digit_assoc (suc zero) zero (suc (suc z)) hx hy hz = absurd (not-suc-le-zero (le_of_suc-le-suc (le_of_suc-le-suc hz)))
digit_assoc (suc zero) (suc zero) zero hx hy hz = refl
digit_assoc (suc zero) (suc zero) (suc zero) hx hy hz = refl
digit_assoc (suc zero) (suc zero) (suc (suc z)) hx hy hz = absurd (not-suc-le-zero (le_of_suc-le-suc (le_of_suc-le-suc hz)))
digit_assoc (suc zero) (suc (suc y)) z hx hy hz = absurd (not-suc-le-zero (le_of_suc-le-suc (le_of_suc-le-suc hy)))
digit_assoc zero (suc (suc y)) z hx hy hz = absurd (not-suc-le-zero (le_of_suc-le-suc (le_of_suc-le-suc hy)))
digit_assoc (suc (suc x)) y z hx hy hz = absurd (not-suc-le-zero (le_of_suc-le-suc (le_of_suc-le-suc hx)))

odd_lt : (n : ℕ) → n % 2 < 2
odd_lt n = mod-lt n (zero-lt-suc 1)

bit_assoc : (a b c : ℕ) → bit_xor (bit_xor a b) c ≡ bit_xor a (bit_xor b c)
bit_assoc =
    bin_ind (λ (n : ℕ). (b c : ℕ) → bit_xor (bit_xor n b) c ≡ bit_xor n (bit_xor b c))
    (λ b c. ap (λ (x : ℕ). bit_xor x c) (xor_zero_l b) ∙ sym (xor_zero_l (bit_xor b c)))
    (λ n ih b c.
    xor_step (bit_xor n b) c
    ∙ ap₂ (λ (x y : ℕ). x * 2 + y)
    (ap (λ (x : ℕ). bit_xor x (c / 2)) (xor_shr n b 1) ∙ ih (b / 2) (c / 2)
    ∙ ap (λ (x : ℕ). bit_xor (n / 2) x) (sym (xor_shr b c 1)))
    (ap (λ (x : ℕ). differ x (c % 2)) (xor_mod n b 1)
    ∙ digit_assoc (n % 2) (b % 2) (c % 2) (odd_lt n) (odd_lt b) (odd_lt c)
    ∙ ap (λ (x : ℕ). differ (n % 2) x) (sym (xor_mod b c 1)))
    ∙ sym (xor_step n (bit_xor b c)))

pub assoc : (a b c : ℕ) → xor (xor a b) c ≡ xor a (xor b c)
unfolding xor
assoc a b c = bit_assoc a b c

pub left_comm : (a b c : ℕ) → xor a (xor b c) ≡ xor b (xor a c)
left_comm a b c = sym (assoc a b c) ∙ ap (λ (x : ℕ). xor x c) (comm a b) ∙ assoc b a c

-- sums of several terms are put in the same order by these three
pub ruleset sorted = (assoc, comm, left_comm)

-- what is added twice is gone
pub undo : (a k : ℕ) → xor (xor a k) k ≡ a
undo a k = assoc a k k ∙ ap (xor a) (self k) ∙ zero_right a

pub cancel : (a b : ℕ) → xor a (xor a b) ≡ b
cancel a b = sym (assoc a a b) ∙ ap (λ (x : ℕ). xor x b) (self a) ∙ zero_left b
