-- What an array's `map` and `array::from_fn` make, by a closure that no call changes. Assumes nothing.
use Rattle.std.proofs.Common.{◌≡◌, refl, sym, ap, ap₂, subst, ◌∙◌, ℕ, zero, suc, ◌+◌, ◌<◌, List, ◌∷◌, get_or, arith}
use Rattle.std.specs.Array.{MapsFrom, IsMapOf, IsFromFnResult}
use Rattle.bits.proofs.Lists.{spread, listed}
use Rattle.bits.proofs.Made.{made_each}
use denote.Param.Members.{Mut, Called}

spread_ext : {A : Type 0} (n : ℕ) (f g : ℕ → A) → ((i : ℕ) → i < n → f i ≡ g i) → spread n f ≡ spread n g
spread_ext zero f g h = refl
spread_ext (suc n) f g h = ap₂ (λ x xs. x ∷ xs) (h 0 (omega arith)) (spread_ext n (λ i. f (suc i)) (λ i. g (suc i)) (λ i p. h (suc i) (omega arith)))

module _ {F A B : Type 0} (g : Mut F (A × Unit {0}) B) (h : A → B) (f : F) (call : (x : A) (y : B) (f' : F) → Called g f (x, tt) y f' → (y ≡ h x) × (f' ≡ f)) where
  -- k counts from the place i
  mapped_from : (n i k : ℕ) (q : F) (xs : List A) (ys : List B) → q ≡ f → MapsFrom g q xs ys i n → k < n → (j : ℕ) → j ≡ i + k → (d : A) (e : B) → get_or ys j e ≡ h (get_or xs j d)
  mapped_from zero i k q xs ys s m p j t d e = absurd (omega arith)
  mapped_from (suc n) i zero q xs ys s m p j t d e =
      let here : j ≡ i = omega arith in
      let first = call m.1 m.2 m.0 (subst (λ (p : F). Called g p (m.1, tt) m.2 m.0) s m.5) in rw here (m.4.1 e ∙ first.0 ∙ ap h (sym (m.3.1 d)))
  mapped_from (suc n) i (suc k) q xs ys s m p j t d e =
      let first = call m.1 m.2 m.0 (subst (λ (p : F). Called g p (m.1, tt) m.2 m.0) s m.5) in mapped_from n (i + 1) k m.0 xs ys first.1 m.6 (omega arith) j (omega arith) d e

  pub mapped : (d : A) (e : B) {xs : List A} {ys : List B} {n : ℕ} → IsMapOf g f xs ys n → ys ≡ spread n (λ i. h (get_or xs i d))
  mapped d e {xs} {ys} {n} m =
      sym (listed e n ys m.long) ∙ spread_ext n (λ i. get_or ys i e) (λ i. h (get_or xs i d)) (λ i p. mapped_from n 0 i f xs ys refl m.each p i (omega arith) d e)

module _ {F B : Type 0} (g : Mut F (ℕ × Unit {0}) B) (h : ℕ → B) (f : F) (call : (x : ℕ) (y : B) (f' : F) → Called g f (x, tt) y f' → (y ≡ h x) × (f' ≡ f)) where
  pub made-at : {ys : List B} {n : ℕ} → IsFromFnResult g f ys n → (i : ℕ) → i < n → (e : B) → get_or ys i e ≡ h i
  made-at {ys} {n} m i p e = made_each e (λ k y. y ≡ h k) m (λ k b. call k) i p

  pub made : (e : B) {ys : List B} {n : ℕ} → IsFromFnResult g f ys n → ys ≡ spread n h
  made e {ys} {n} m = sym (listed e n ys m.long) ∙ spread_ext n (λ i. get_or ys i e) h (λ i p. made-at m i p e)
