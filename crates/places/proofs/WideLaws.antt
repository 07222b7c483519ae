-- A block as a number of 128 bits: read from its bytes and written into them, and two such numbers compared above
-- their lowest m bits and subtracted in these. Assumes nothing.
use mathlib.Core.Path.{◌≡◌, refl, sym, ap, ap₂, ◌∙◌}
use mathlib.Core.Bool.{true}
use mathlib.Core.List.{List, ◌∷◌}
use Prim.Native.Nat.{ℕ, zero, suc, ◌+◌, ◌-◌, ◌*◌, ◌/◌, ◌%◌, ◌^◌, ◌<◌, ◌≤◌}
use native.Mathlib.Nat.{add-mul, one-mul, div-one, mod-lt, mod-add-mod, add-mul-mod_self_right, mul-mod_left, div-eq_of_lt, div-add-mod', div-lt_iff_lt-mul}
use native.Mathlib.Omega.{arith}
use lib.ListN.{length, get_or, drop, length-drop, drop_of_length-le}
use lib.Pow.{pow_pos, pow-add, pow_mono, high, mod-pow-add, mod-mod-pow}
use lib.Seq.{drop-cons}
use Rattle.std.specs.Int.{w128, byte_at, byte_worth, bytes_high_first, sum_through, from_be_bytes}
use Rattle.std.proofs.lemmas.Nat.{shl-shr}
use Rattle.bits.specs.Blocks.{Block}
use Rattle.bits.specs.Counter.{number, number_bytes}
use Rattle.bits.proofs.Counter.{number_lt}
use Rattle.places.specs.Answers.{upper_same, increments_between}

-- ---- read and written

worth : (i b : ℕ) → byte_worth i b ≡ b * 256 ^ i
worth zero b = omega arith
worth (suc i) b = refl

module _ {b : List ℕ} (h : Block b) where
  -- byte i, and those behind it
  step : (i : ℕ) → i < 16 → number (drop i b) ≡ get_or b i 0 * 256 ^ (15 - i) + number (drop (suc i) b)
  unfolding number
  step i inside =
      let behind : length (drop (suc i) b) ≡ 15 - i = rw (length-drop, h.size) (omega arith) in
      rw (drop-cons b i 0 (omega (arith, h.size)), behind) refl

  summed : (k : ℕ) → k < 16 → sum_through (λ i. byte_worth (15 - i) (get_or b i 0)) k + number (drop (suc k) b) ≡ number b
  summed zero inside = omega (arith, step 0 inside)
  summed (suc k) inside = omega (arith, worth (15 - suc k) (get_or b (suc k) 0), step (suc k) inside, summed k (omega arith))

  pub read : from_be_bytes w128 b ≡ number b
  unfolding number
  read =
      let none = drop_of_length-le b {i = 16} (omega (arith, h.size)) in
      let all = summed 15 (omega arith) in
      omega (arith, rw none at all)

  pub below : number b < 2 ^ 128
  below = rw h.size at (number_lt b h.bytes)

byte : (k n : ℕ) → byte_at k n ≡ n / 256 ^ k % 256
byte zero n = rw div-one refl
byte (suc k) n = refl

pub written : (k n : ℕ) → bytes_high_first k n ≡ number_bytes k n
unfolding number_bytes
written zero n = refl
written (suc k) n = ap₂ (λ (b : ℕ) (bs : List ℕ). b ∷ bs) (byte k n) (written k n)

-- ---- above the lowest m bits

pub none_above : {m : ℕ} {iv block : List ℕ} → Block iv → Block block → 128 ≤ m → upper_same m iv block ≡ true
unfolding upper_same
none_above {m} {iv} {block} hiv hblock all =
    let of-iv : number iv / 2 ^ m ≡ 0 = div-eq_of_lt (omega (arith, below hiv, pow_mono all)) in
    let of-block : number block / 2 ^ m ≡ 0 = div-eq_of_lt (omega (arith, below hblock, pow_mono all)) in
    rw (of-iv, of-block) refl

-- ---- in the lowest m bits

-- shifted up and down again, the lowest m bits are left
kept : (m a z : ℕ) → z * 2 ^ a % 2 ^ (m + a) / 2 ^ a ≡ z % 2 ^ m
kept m a z = rw (mod-pow-add (z * 2 ^ a) m a, shl-shr z a, mul-mod_left z (2 ^ a)) (high (z % 2 ^ m) a (pow_pos a))

-- what x lacks of k times p, modulo p
complement : (k p x : ℕ) → 0 < p → x < k * p → k * p - x ≡ (p - x % p) + (k - 1 - x / p) * p
complement k p x some small =
    let q = x / p in
    let t = k - 1 - q in
    let inside : q < k = (div-lt_iff_lt-mul {x = x} {y = k} some).1 small in
    let e : k ≡ q + t + 1 = omega arith in
    let sum : k * p ≡ (q + t + 1) * p = ap (λ i. i * p) e in
    omega (arith, sum, add-mul (q + t) 1 p, add-mul q t p, one-mul p, div-add-mod' x p, mod-lt x some)

pub subtracted : {m : ℕ} {iv : List ℕ} → m ≤ 128 → Block iv → (block : List ℕ)
    → (number block + (2 ^ 128 - number iv)) % 2 ^ 128 * 2 ^ (128 - m) % 2 ^ 128 / 2 ^ (128 - m) ≡ increments_between m iv block
unfolding increments_between
subtracted {m} {iv} fits hiv block =
    let x = number iv in
    let y = number block in
    let p = 2 ^ m in
    let a = 128 - m in
    let parts : a + m ≡ 128 = omega arith in
    let whole : 2 ^ 128 ≡ 2 ^ a * p = sym (ap (λ i. 2 ^ i) parts) ∙ pow-add 2 a m in
    let lacks : 2 ^ 128 - x ≡ (p - x % p) + (2 ^ a - 1 - x / p) * p = rw whole (complement (2 ^ a) p x (pow_pos m) (rw whole at (below hiv))) in
    let regroup : y + (2 ^ 128 - x) ≡ y + (p - x % p) + (2 ^ a - 1 - x / p) * p = omega (arith, lacks) in
    let turned : m + a ≡ 128 = omega arith in
    rw turned at (kept m a ((y + (2 ^ 128 - x)) % 2 ^ 128))
    ∙ rw parts at (mod-mod-pow (y + (2 ^ 128 - x)) a m)
    ∙ ap (λ n. n % p) regroup
    ∙ add-mul-mod_self_right (y + (p - x % p)) (2 ^ a - 1 - x / p) p
    ∙ sym (mod-add-mod y p (p - x % p))
