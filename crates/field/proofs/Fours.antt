-- Four of a kind, place by place. Assumes nothing.
use mathlib.Core.Path.{◌≡◌, refl}
use Prim.Native.Nat.{ℕ, zero, suc, ◌<◌}
use native.Mathlib.Nat.{le_of_suc-le-suc, not-suc-le-zero, zero-lt-suc}
use native.Mathlib.Omega.{arith}
use lib.ListN.{get_or}
use Rattle.bits.specs.Blocks.{Bytes}
use Rattle.field.specs.Rows.{four}

no_fifth : {i : ℕ} → suc (suc (suc (suc i))) < 4 → ⊥
no_fifth h = not-suc-le-zero (le_of_suc-le-suc (le_of_suc-le-suc (le_of_suc-le-suc (le_of_suc-le-suc h))))

-- a rule at each of the four places
pub places : (P : ℕ → Type 0) → P 0 → P 1 → P 2 → P 3 → (i : ℕ) → i < 4 → P i
places P p q r s zero h = p
places P p q r s (suc zero) h = q
places P p q r s (suc (suc zero)) h = r
places P p q r s (suc (suc (suc zero))) h = s
places P p q r s (suc (suc (suc (suc i)))) h = absurd (no_fifth h)

pub four-at : {A : Type 0} (d : A) (f : ℕ → A) (i : ℕ) → i < 4 → get_or (four f) i d ≡ f i
unfolding four
four-at d f = places (λ i. get_or (four f) i d ≡ f i) refl refl refl refl

pub four_ext : {A : Type 0} (f g : ℕ → A) → ((i : ℕ) → i < 4 → f i ≡ g i) → four f ≡ four g
unfolding four
four_ext f g h = rw (h 0 (omega arith), h 1 (omega arith), h 2 (omega arith), h 3 (omega arith))

pub four_bytes : (f : ℕ → ℕ) → ((i : ℕ) → f i < 256) → Bytes (four f)
unfolding four
four_bytes f h = record { byte = go }
  where
    go : (i : ℕ) → get_or (four f) i 0 < 256
    go zero = h 0
    go (suc zero) = h 1
    go (suc (suc zero)) = h 2
    go (suc (suc (suc zero))) = h 3
    go (suc (suc (suc (suc i)))) = zero-lt-suc 255
