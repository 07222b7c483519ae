-- Two maps that go through XOR agree at every byte when they agree at the eight bytes with one digit. Assumes nothing.
use mathlib.Core.Path.{◌≡◌, sym, ap, ap₂, ◌∙◌}
use Prim.Native.Nat.{ℕ, zero, suc, ◌+◌, ◌*◌, ◌/◌, ◌%◌, ◌^◌, ◌<◌}
use native.Mathlib.Nat.{mod-lt, div-add-mod', zero-mul, one-mul, zero-add, add-zero, pow-suc, div-lt_iff_lt-mul, le_of_suc-le-suc, not-suc-le-zero, mul_comm, le_step, lt-suc_self}
use native.Mathlib.Omega.{arith}
use lib.Pow.{pow_pos}
use Rattle.bits.specs.Xor.{xor}
use Rattle.bits.proofs.Xor as Xor

abbrev pub Linear : (ℕ → ℕ) → Type 0
Linear f = (a b : ℕ) → f (xor a b) ≡ xor (f a) (f b)

at_zero : (f : ℕ → ℕ) → Linear f → f 0 ≡ 0
at_zero f h = ap f (sym (Xor.self 0)) ∙ h 0 0 ∙ Xor.self (f 0)

-- the digit k, and the digits below it
parted : (k b : ℕ) → xor (b / 2 ^ k * 2 ^ k) (b % 2 ^ k) ≡ b
parted k b =
    ap₂ xor (sym (add-zero (b / 2 ^ k * 2 ^ k))) (sym (zero-add (b % 2 ^ k)) ∙ ap (λ (x : ℕ). x + b % 2 ^ k) (sym (zero-mul (2 ^ k))))
    ∙ Xor.block k (b / 2 ^ k) 0 0 (b % 2 ^ k) (pow_pos k) (mod-lt b (pow_pos k))
    ∙ ap₂ (λ (x y : ℕ). x * 2 ^ k + y) (Xor.zero_right (b / 2 ^ k)) (Xor.zero_left (b % 2 ^ k)) ∙ div-add-mod' b (2 ^ k)

module _ (f g : ℕ → ℕ) (hf : Linear f) (hg : Linear g) where
  digit : (k d : ℕ) → d < 2 → f (2 ^ k) ≡ g (2 ^ k) → f (d * 2 ^ k) ≡ g (d * 2 ^ k)
  digit k zero h e = ap f (zero-mul (2 ^ k)) ∙ at_zero f hf ∙ sym (ap g (zero-mul (2 ^ k)) ∙ at_zero g hg)
  digit k (suc zero) h e = ap f (one-mul (2 ^ k)) ∙ e ∙ ap g (sym (one-mul (2 ^ k)))
  digit k (suc (suc d)) h e = absurd (not-suc-le-zero (le_of_suc-le-suc (le_of_suc-le-suc h)))

  pub linear-ext : (k : ℕ) → ((i : ℕ) → i < k → f (2 ^ i) ≡ g (2 ^ i)) → (b : ℕ) → b < 2 ^ k → f b ≡ g b
  linear-ext zero e b h =
      let z : b ≡ 0 = omega arith in
      rw z (at_zero f hf ∙ sym (at_zero g hg))
  linear-ext (suc k) e b h =
      ap f (sym (parted k b)) ∙ hf (b / 2 ^ k * 2 ^ k) (b % 2 ^ k)
      ∙ ap₂ xor (digit k (b / 2 ^ k) ((div-lt_iff_lt-mul (pow_pos k)).1 (omega (arith, pow-suc 2 k, h, mul_comm 2 (2 ^ k)))) (e k (lt-suc_self k)))
      (linear-ext k (λ i hi. e i (le_step hi)) (b % 2 ^ k) (mod-lt b (pow_pos k)))
      ∙ sym (ap g (sym (parted k b)) ∙ hg (b / 2 ^ k * 2 ^ k) (b % 2 ^ k))
