-- A block as a number and back: each number below 256^k is k bytes in exactly one way, and the counter's next block is
-- a block. Assumes nothing.
use mathlib.Core.Path.{◌≡◌, refl, sym, ap, ap₂, ◌∙◌}
use mathlib.Core.List.{List, [], ◌∷◌}
use Prim.Native.Nat.{ℕ, zero, suc, ◌+◌, ◌*◌, ◌/◌, ◌%◌, ◌^◌, ◌<◌}
use native.Mathlib.Nat.{suc_inj, pow-succ', one-le-pow, mod-one, mod-lt, mod-eq_of_lt, zero-lt-suc}
use native.Mathlib.Omega.{arith}
use lib.Arith.{digits_lt, digits_div, digits_mod, mod-mul}
use lib.Dec.{lit<}
use lib.ListN.{length}
use Rattle.bits.specs.Blocks.{Bytes, Block}
use Rattle.bits.specs.Counter.{number, number_bytes, increment}
use Rattle.bits.proofs.Texts.{bytes_nil, cons_bytes, tail_bytes}

-- ---- the bytes of a number

pub number_bytes-length : (k x : ℕ) → length (number_bytes k x) ≡ k
unfolding number_bytes
number_bytes-length zero x = refl
number_bytes-length (suc k) x = ap suc (number_bytes-length k x)

pub number_bytes_bytes : (k x : ℕ) → Bytes (number_bytes k x)
unfolding number_bytes
number_bytes_bytes zero x = bytes_nil
number_bytes_bytes (suc k) x = cons_bytes (mod-lt (x / 256 ^ k) (zero-lt-suc 255)) (number_bytes_bytes k x)

pub increment-block : (m : ℕ) (r : List ℕ) → Block (increment m r)
unfolding increment
increment-block m r = record { size = number_bytes-length 16 _; bytes = number_bytes_bytes 16 _ }

-- ---- the number of some bytes

pub number_lt : (bs : List ℕ) → Bytes bs → number bs < 256 ^ length bs
unfolding number
number_lt [] h = lit< tt
number_lt (b ∷ bs) h = rw pow-succ' (digits_lt (h.byte 0) (number_lt bs (tail_bytes h)))

pub digits_inj : (m : ℕ) {q r q' r' : ℕ} → r < m → r' < m → q * m + r ≡ q' * m + r' → (q ≡ q') × (r ≡ r')
digits_inj m {q} {r} {q'} {r'} h h' e =
    (sym (digits_div q h) ∙ ap (λ (n : ℕ). n / m) e ∙ digits_div q' h', sym (digits_mod q h) ∙ ap (λ (n : ℕ). n % m) e ∙ digits_mod q' h')

-- the same number is the same bytes
pub number_inj : (a b : List ℕ) → Bytes a → Bytes b → length a ≡ length b → number a ≡ number b → a ≡ b
unfolding number
number_inj [] [] ha hb l e = refl
number_inj [] (y ∷ b) ha hb l e = absurd (omega arith)
number_inj (x ∷ a) [] ha hb l e = absurd (omega arith)
number_inj (x ∷ a) (y ∷ b) ha hb l e =
    let n : length b ≡ length a = sym (suc_inj l) in
    let d : (x ≡ y) × (number a ≡ number b) =
    digits_inj (256 ^ length a) (number_lt a (tail_bytes ha)) (rw n at (number_lt b (tail_bytes hb))) (rw n at e)
    in
    ap₂ (λ (z : ℕ) (zs : List ℕ). z ∷ zs) d.0 (number_inj a b (tail_bytes ha) (tail_bytes hb) (suc_inj l) d.1)

-- ---- there and back

pub number-number_bytes : (k x : ℕ) → number (number_bytes k x) ≡ x % 256 ^ k
unfolding number number_bytes
number-number_bytes zero x = sym (mod-one x)
number-number_bytes (suc k) x =
    rw (number_bytes-length k x, number-number_bytes k x, pow-succ') (sym (mod-mul x (zero-lt-suc 255) (one-le-pow k 256 (zero-lt-suc 255))))

pub number-bytes : (bs : List ℕ) → Bytes bs → number_bytes (length bs) (number bs) ≡ bs
number-bytes bs h =
    number_inj (number_bytes (length bs) (number bs)) bs (number_bytes_bytes (length bs) (number bs)) h
    (number_bytes-length (length bs) (number bs))
    (number-number_bytes (length bs) (number bs) ∙ mod-eq_of_lt (number_lt bs h))

-- only the lowest k bytes of a number are asked for
pub number_bytes-same : (k x y : ℕ) → x % 256 ^ k ≡ y % 256 ^ k → number_bytes k x ≡ number_bytes k y
number_bytes-same k x y e =
    number_inj (number_bytes k x) (number_bytes k y) (number_bytes_bytes k x) (number_bytes_bytes k y)
    (number_bytes-length k x ∙ sym (number_bytes-length k y))
    (number-number_bytes k x ∙ e ∙ sym (number-number_bytes k y))
