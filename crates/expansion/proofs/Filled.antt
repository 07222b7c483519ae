-- A list and zeros after it, 240 numbers in all: what a store and a run of stores after the list make. Assumes nothing.
use mathlib.Core.Path.{◌≡◌, sym, ap, ap₂, ◌∙◌}
use mathlib.Core.List.{List, ◌++◌}
use Prim.Native.Nat.{ℕ, zero, suc, ◌+◌, ◌-◌, ◌≤◌}
use native.Mathlib.Nat.{sub-zero, zero-sub, zero-lt-suc, suc-sub-suc}
use native.Mathlib.Omega.{arith}
use lib.ListN.{length, take, drop, replicate, length-append, length-replicate}
use lib.Seq.{take-append_seam, drop-append-add}
use Rattle.bits.specs.Blocks.{Bytes}
use Rattle.bits.proofs.Texts.{bytes_nil, cons_bytes, append_bytes}

unfoldable pub filled : List ℕ → List ℕ
filled x = x ++ replicate (240 - length x) 0

pub drop-replicate : (a n m : ℕ) → drop n (replicate m a) ≡ replicate (m - n) a
drop-replicate a zero m = ap (λ k. replicate k a) (sym (sub-zero m))
drop-replicate a (suc n) zero = ap (λ k. replicate k a) (sym (zero-sub (suc n)))
drop-replicate a (suc n) (suc m) = drop-replicate a n m ∙ ap (λ k. replicate k a) (sym (suc-sub-suc m n))

pub filled-length : (x : List ℕ) → length x ≤ 240 → length (filled x) ≡ 240
unfolding filled
filled-length x h = simp (length-append, length-replicate) (omega arith)

pub zeros_bytes : (n : ℕ) → Bytes (replicate n 0)
zeros_bytes zero = bytes_nil
zeros_bytes (suc n) = cons_bytes (zero-lt-suc 255) (zeros_bytes n)

pub filled_bytes : {x : List ℕ} → Bytes x → Bytes (filled x)
unfolding filled
filled_bytes {x} h = append_bytes h (zeros_bytes (240 - length x))

-- y written after x
pub filled_more : (x y : List ℕ) (at n : ℕ) → length x ≡ at → length y ≡ n → take at (filled x) ++ y ++ drop (at + n) (filled x) ≡ filled (x ++ y)
unfolding filled
filled_more x y at n p q =
    rw (← p, ← q)
    (ap₂ (λ (s t : List ℕ). s ++ y ++ t) (take-append_seam x (replicate (240 - length x) 0))
    (drop-append-add x (replicate (240 - length x) 0) (length y) ∙ drop-replicate 0 (length y) (240 - length x)
    ∙ ap (λ k. replicate k 0) (left ∙ ap (λ k. 240 - k) (sym (length-append x y)))))
  where
    left : 240 - length x - length y ≡ 240 - (length x + length y)
    left = omega arith
