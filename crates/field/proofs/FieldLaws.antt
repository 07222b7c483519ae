-- Doubling and the product are linear: they go through XOR, and keep bytes. Assumes nothing.
use mathlib.Core.Path.{◌≡◌, sym, ap, ap₂, ◌∙◌}
use Prim.Native.Nat.{ℕ, zero, suc, ◌+◌, ◌-◌, ◌*◌, ◌/◌, ◌%◌, ◌<◌}
use native.Mathlib.Nat.{zero-lt-suc, mod-lt, add-zero, zero-mul, one-mul, le_of_suc-le-suc, not-suc-le-zero}
use native.Mathlib.Numerals.{sub-one}
use native.Mathlib.Omega.{arith}
use Rattle.bits.specs.Xor.{xor}
use Rattle.bits.proofs.Xor as Xor
use Rattle.field.specs.Field.{double, shift_add, product}

-- shifted up by one digit
shifted : (a b : ℕ) → xor a b * 2 ≡ xor (a * 2) (b * 2)
shifted a b =
    sym
    (sym (ap₂ xor (add-zero (a * 2)) (add-zero (b * 2))) ∙ Xor.block 1 a b 0 0 (omega arith) (omega arith)
    ∙ ap (λ (x : ℕ). xor a b * 2 + x) (Xor.self 0) ∙ add-zero (xor a b * 2))

-- a digit times a number
digit_times : (s t k : ℕ) → s < 2 → t < 2 → xor s t * k ≡ xor (s * k) (t * k)
digit_times zero t k hs ht = ap (λ (x : ℕ). x * k) (Xor.zero_left t) ∙ sym (ap (λ (x : ℕ). xor x (t * k)) (zero-mul k) ∙ Xor.zero_left (t * k))
digit_times (suc zero) zero k hs ht =
    ap (λ (x : ℕ). x * k) (Xor.zero_right 1) ∙ sym (ap (λ (x : ℕ). xor (1 * k) x) (zero-mul k) ∙ Xor.zero_right (1 * k))
digit_times (suc zero) (suc zero) k hs ht = ap (λ (x : ℕ). x * k) (Xor.self 1) ∙ zero-mul k ∙ sym (Xor.self (1 * k))
digit_times (suc zero) (suc (suc t)) k hs ht = absurd (not-suc-le-zero (le_of_suc-le-suc (le_of_suc-le-suc ht)))
digit_times (suc (suc s)) t k hs ht = absurd (not-suc-le-zero (le_of_suc-le-suc (le_of_suc-le-suc hs)))

low_digit : (b : ℕ) → b % 2 < 2
low_digit b = mod-lt b (zero-lt-suc 1)

-- the two parts of a doubled sum meet: (s + t) + (u + v) is (s + u) + (t + v)
cross : (s t u v : ℕ) → xor (xor s t) (xor u v) ≡ xor (xor s u) (xor t v)
cross s t u v = simp Xor.sorted

pub double-xor : (a b : ℕ) → double (xor a b) ≡ xor (double a) (double b)
unfolding double
double-xor a b =
    ap₂ xor
    (ap (λ (x : ℕ). x % 2 * 0x1b) (Xor.high 7 a b) ∙ ap (λ (x : ℕ). x * 0x1b) (Xor.low 1 (a / 128) (b / 128))
    ∙ digit_times (a / 128 % 2) (b / 128 % 2) 0x1b (low_digit (a / 128)) (low_digit (b / 128)))
    (ap (λ (x : ℕ). x * 2) (Xor.low 7 a b) ∙ shifted (a % 128) (b % 128))
    ∙ cross (a / 128 % 2 * 0x1b) (b / 128 % 2 * 0x1b) (a % 128 * 2) (b % 128 * 2)

digit_over : (s a b : ℕ) → s < 2 → s * xor a b ≡ xor (s * a) (s * b)
digit_over zero a b h = zero-mul (xor a b) ∙ sym (ap₂ xor (zero-mul a) (zero-mul b) ∙ Xor.self 0)
digit_over (suc zero) a b h = one-mul (xor a b) ∙ sym (ap₂ xor (one-mul a) (one-mul b))
digit_over (suc (suc s)) a b h = absurd (not-suc-le-zero (le_of_suc-le-suc (le_of_suc-le-suc h)))

shift_add-xor : (k c a b : ℕ) → shift_add k c (xor a b) ≡ xor (shift_add k c a) (shift_add k c b)
unfolding shift_add
shift_add-xor zero c a b = sym (Xor.self 0)
shift_add-xor (suc k) c a b =
    ap₂ xor (digit_over (c % 2) a b (low_digit c))
    (ap (shift_add k (c / 2)) (double-xor a b) ∙ shift_add-xor k (c / 2) (double a) (double b))
    ∙ cross (c % 2 * a) (c % 2 * b) (shift_add k (c / 2) (double a)) (shift_add k (c / 2) (double b))

-- a number times a sum is the sum of the products
pub product-xor : (c a b : ℕ) → product c (xor a b) ≡ xor (product c a) (product c b)
unfolding product
product-xor c a b = shift_add-xor 8 c a b

pub double_byte : (b : ℕ) → double b < 256
unfolding double
double_byte b = Xor.width 8 (omega arith) (omega arith)

pub digit_byte : (s b : ℕ) → b < 256 → s % 2 * b < 256
digit_byte s b h = go (s % 2) (low_digit s)
  where
    go : (d : ℕ) → d < 2 → d * b < 256
    go zero hd = omega (arith, zero-mul b)
    go (suc zero) hd = omega (arith, one-mul b)
    go (suc (suc d)) hd = absurd (not-suc-le-zero (le_of_suc-le-suc (le_of_suc-le-suc hd)))

shift_add_byte : (k c b : ℕ) → b < 256 → shift_add k c b < 256
unfolding shift_add
shift_add_byte zero c b h = zero-lt-suc 255
shift_add_byte (suc k) c b h = Xor.width 8 (digit_byte c b h) (shift_add_byte k (c / 2) (double b) (double_byte b))

pub product_byte : (c b : ℕ) → b < 256 → product c b < 256
unfolding product
product_byte c b h = shift_add_byte 8 c b h

-- one digit more, after what is added already
pub shift_add_step : (k sum c b : ℕ) → 0 < k → xor (xor sum (c % 2 * b)) (shift_add (k - 1) (c / 2) (double b)) ≡ xor sum (shift_add k c b)
unfolding shift_add
shift_add_step zero sum c b h = absurd (not-suc-le-zero h)
shift_add_step (suc k) sum c b h =
    Xor.assoc sum (c % 2 * b) (shift_add (suc k - 1) (c / 2) (double b)) ∙ ap (λ (j : ℕ). xor sum (xor (c % 2 * b) (shift_add j (c / 2) (double b)))) (sub-one (suc k))

pub shift_add_none : (k sum c b : ℕ) → k ≡ 0 → xor sum (shift_add k c b) ≡ sum
unfolding shift_add
shift_add_none k sum c b e = rw e (Xor.zero_right sum)

-- ---- the products that MixColumns makes

pub times_one : (b : ℕ) → product 1 b ≡ b
unfolding product shift_add
times_one b = simp (zero-mul, one-mul, Xor.zero_left, Xor.zero_right)

pub times_two : (b : ℕ) → product 2 b ≡ double b
unfolding product shift_add
times_two b = simp (zero-mul, one-mul, Xor.zero_left, Xor.zero_right)

pub times_three : (b : ℕ) → product 3 b ≡ xor b (double b)
unfolding product shift_add
times_three b = simp (zero-mul, one-mul, Xor.zero_left, Xor.zero_right)

-- 09, 0b, 0d and 0e of InvMixColumns, by b and its first three doublings
pub times_nine : (b : ℕ) → product 9 b ≡ xor b (double (double (double b)))
unfolding product shift_add
times_nine b = simp (zero-mul, one-mul, Xor.zero_left, Xor.zero_right)

pub times_eleven : (b : ℕ) → product 11 b ≡ xor b (xor (double b) (double (double (double b))))
unfolding product shift_add
times_eleven b = simp (zero-mul, one-mul, Xor.zero_left, Xor.zero_right)

pub times_thirteen : (b : ℕ) → product 13 b ≡ xor b (xor (double (double b)) (double (double (double b))))
unfolding product shift_add
times_thirteen b = simp (zero-mul, one-mul, Xor.zero_left, Xor.zero_right)

pub times_fourteen : (b : ℕ) → product 14 b ≡ xor (double b) (xor (double (double b)) (double (double (double b))))
unfolding product shift_add
times_fourteen b = simp (zero-mul, one-mul, Xor.zero_left, Xor.zero_right)
