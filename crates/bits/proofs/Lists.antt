-- A list of a known length is its elements, written out. Assumes nothing.
use mathlib.Core.Path.{◌≡◌, refl, ap, subst}
use mathlib.Core.List.{List, [], ◌∷◌}
use Prim.Native.Nat.{ℕ, zero, suc}
use lib.ListN.{length, get_or}

-- f 0, f 1, .. f (n - 1)
abbrev pub spread : {A : Type 0} → ℕ → (ℕ → A) → List A
spread zero f = []
spread (suc n) f = f 0 ∷ spread n (λ i. f (suc i))

spread_get_or : {A : Type 0} (d : A) (l : List A) → spread (length l) (λ i. get_or l i d) ≡ l
spread_get_or d [] = refl
spread_get_or d (x ∷ l) = ap (λ t. x ∷ t) (spread_get_or d l)

pub listed : {A : Type 0} (d : A) (n : ℕ) (l : List A) → length l ≡ n → spread n (λ i. get_or l i d) ≡ l
listed d n l e = subst (λ (k : ℕ). spread k (λ i. get_or l i d) ≡ l) e (spread_get_or d l)
