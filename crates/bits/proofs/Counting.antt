-- The counter's increment, on numbers: the bits above the lowest m stay, and the count goes on byte by byte. Assumes
-- nothing.
use mathlib.Core.Path.{◌≡◌, sym, ◌∙◌}
use mathlib.Core.List.{List}
use Prim.Native.Nat.{ℕ, ◌+◌, ◌-◌, ◌*◌, ◌/◌, ◌%◌, ◌^◌, ◌<◌, ◌≤◌}
use native.Mathlib.Nat.{add-zero, add_assoc, add-mul, mul_assoc, mul-add-div_right, mul-add-mod_self_right, mod-lt, mod-eq_of_lt, mod-add-mod, mod-mod, mul-div_cancel, mul-mod_left, zero-lt-suc}
use native.Mathlib.Omega.{arith}
use lib.Arith.{digits_lt, digits_div, digits_mod, mod-mul}
use lib.Pow.{pow_pos, pow-add, split, shr_lt}
use Rattle.bits.specs.Blocks.{Block}
use Rattle.bits.specs.Counter.{number, plus_one, increment, WholeBlockCounts}
use Rattle.bits.proofs.Counter.{number_lt, number-number_bytes, number_bytes-same}

-- ---- the bits that stay, and those that count

pub plus_one_upper : (m x : ℕ) → plus_one m x / 2 ^ m ≡ x / 2 ^ m
unfolding plus_one
plus_one_upper m x = digits_div (x / 2 ^ m) (mod-lt (x % 2 ^ m + 1) (pow_pos m))

pub plus_one_lower : (m x : ℕ) → plus_one m x % 2 ^ m ≡ (x % 2 ^ m + 1) % 2 ^ m
unfolding plus_one
plus_one_lower m x = digits_mod (x / 2 ^ m) (mod-lt (x % 2 ^ m + 1) (pow_pos m))

-- multiples of 2^m stay
pub plus_one_above : (m c x : ℕ) → plus_one m (c * 2 ^ m + x) ≡ c * 2 ^ m + plus_one m x
unfolding plus_one
plus_one_above m c x =
    rw (mul-add-div_right (pow_pos m) c x, mul-add-mod_self_right c (2 ^ m) x, add-mul c (x / 2 ^ m) (2 ^ m)) (omega arith)

-- at most as many bits as there were
pub plus_one_lt : (w m : ℕ) {x : ℕ} → m ≤ w → x < 2 ^ w → plus_one m x < 2 ^ w
unfolding plus_one
plus_one_lt w m {x} h l =
    let e : w ≡ w - m + m = omega arith in
    rw (e, pow-add 2 (w - m) m) (digits_lt (shr_lt (w - m) m (rw e at l)) (mod-lt (x % 2 ^ m + 1) (pow_pos m)))

-- ---- byte by byte

-- the lowest byte, where l bits above it count
lowest : (l y : ℕ) {b : ℕ} → b < 256
    → plus_one (l + 8) (y * 256 + b) ≡ y / 2 ^ l * 2 ^ l * 256 + (y % 2 ^ l * 256 + b + 1) % (2 ^ l * 256)
unfolding plus_one
lowest l y {b} h =
    let e : y * 256 + b ≡ y / 2 ^ l * (2 ^ l * 256) + (y % 2 ^ l * 256 + b) =
    omega (arith, split y l, mul_assoc (y / 2 ^ l) (2 ^ l) 256)
    in
    let low : y % 2 ^ l * 256 + b < 2 ^ l * 256 = digits_lt (mod-lt y (pow_pos l)) h in
    rw (pow-add 2 l 8, e, digits_div (y / 2 ^ l) low, digits_mod (y / 2 ^ l) low, mul_assoc)

scaled : (x : ℕ) {q : ℕ} → 0 < q → x * 256 % (q * 256) ≡ x % q * 256
scaled x h = rw (mod-mul (x * 256) h (zero-lt-suc 255), mul-div_cancel x (zero-lt-suc 255), mul-mod_left) (add-zero _)

-- a byte ff becomes 00, and the 1 goes to the bits above
pub plus_one_overflow : (l y : ℕ) → plus_one (l + 8) (y * 256 + 255) ≡ plus_one l y * 256
unfolding plus_one
plus_one_overflow l y =
    let sum : y % 2 ^ l * 256 + 255 + 1 ≡ (y % 2 ^ l + 1) * 256 = omega arith in
    lowest l y (omega arith) ∙ rw (sum, scaled (y % 2 ^ l + 1) (pow_pos l)) (omega arith)

-- any other byte takes the 1
pub plus_one_stop : (l y b : ℕ) → b < 255 → plus_one (l + 8) (y * 256 + b) ≡ y * 256 + (b + 1)
plus_one_stop l y b h =
    let low : y % 2 ^ l * 256 + (b + 1) < 2 ^ l * 256 = digits_lt (mod-lt y (pow_pos l)) (omega arith) in
    lowest l y (omega arith) ∙ rw (add_assoc (y % 2 ^ l * 256) b 1, mod-eq_of_lt low) (omega (arith, split y l))

-- a byte of which fewer than eight bits count drops its overflow
pub plus_one_byte : (l y b : ℕ) → l < 8 → plus_one l (y * 256 + b) ≡ y * 256 + plus_one l b
plus_one_byte l y b h =
    let eight : 8 - l + l ≡ 8 = omega arith in
    let e : y * 2 ^ (8 - l) * 2 ^ l ≡ y * 256 = rw (mul_assoc, ← pow-add 2 (8 - l) l, eight) in
    rw e at (plus_one_above l (y * 2 ^ (8 - l)) b)

-- ---- of a block

pub increment-number : (m : ℕ) → m ≤ 128 → (r : List ℕ) → Block r → number (increment m r) ≡ plus_one m (number r)
unfolding increment
increment-number m h r whole =
    let small : number r < 2 ^ 128 = rw whole.size at (number_lt r whole.bytes) in
    number-number_bytes 16 (plus_one m (number r)) ∙ mod-eq_of_lt (plus_one_lt 128 m h small)

pub whole_block_counts : WholeBlockCounts
unfolding WholeBlockCounts increment
whole_block_counts r =
    number_bytes-same 16 _ _ (plus_one_lower 128 (number r) ∙ mod-add-mod (number r) (2 ^ 128) 1 ∙ sym (mod-mod (number r + 1) (2 ^ 128)))
