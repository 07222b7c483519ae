-- What `array::from_fn` makes of a closure that no call changes: each element is what a call gives, so that the array
-- is the list of which that holds. Assumes nothing.
use mathlib.Core.Path.{◌≡◌, refl, subst}
use mathlib.Core.List.{List}
use Prim.Native.Nat.{ℕ, zero, suc, ◌+◌, ◌<◌}
use native.Mathlib.Nat.{zero-add}
use native.Mathlib.Omega.{arith}
use denote.Param.Members.{Mut}
use lib.ListN.{length, get_or}
use lib.Seq.{ext_get_or}
use Rattle.std.specs.Array.{IsFromFnResult, IsFromFnResultFrom}
use Rattle.std.specs.Fn.{Called}

module _ {F A : Type 0} (g : Mut F (ℕ × Unit {0}) A) (f : F) (d : A) (P : ℕ → A → Type 0) (ys : List A) where
  -- a call at k gives an element of which P holds
  abbrev pub Gives : ℕ → Type 0
  Gives k = (y : A) (q : F) → Called g f (k, tt) y q → P k y × (q ≡ f)

  element : (p : F) → p ≡ f → (i n : ℕ) → ((k : ℕ) → k < i + n → Gives k) → IsFromFnResultFrom g p ys i n → (k : ℕ) → k < n → P (i + k) (get_or ys (i + k) d)
  element p e i zero h r k b = absurd (omega arith)
  element p e i (suc n) h r zero b =
      let here : i + 0 ≡ i = omega arith in
      let call = subst (λ (s : F). Called g s (i, tt) r.1 r.0) e r.3 in
      rw (here, r.2.1 d) (h i (omega arith) r.1 r.0 call).0
  element p e i (suc n) h r (suc k) b =
      let next : i + suc k ≡ i + 1 + k = omega arith in
      let call = subst (λ (s : F). Called g s (i, tt) r.1 r.0) e r.3 in
      rw next (element r.0 (h i (omega arith) r.1 r.0 call).1 (i + 1) n (λ j c. h j (omega arith)) r.4 k (omega arith))

pub made_each : {F A : Type 0} {g : Mut F (ℕ × Unit {0}) A} {f : F} (d : A) (P : ℕ → A → Type 0) {ys : List A} {n : ℕ} → IsFromFnResult g f ys n
    → ((k : ℕ) → k < n → Gives g f d P ys k) → (k : ℕ) → k < n → P k (get_or ys k d)
made_each {g = g} {f = f} d P {ys} r h k b = rw zero-add at (element g f d P ys f refl 0 _ (λ j c. h j (omega arith)) r.each k b)

pub made : {F A : Type 0} {g : Mut F (ℕ × Unit {0}) A} {f : F} (d : A) (l : List A) {ys : List A} {n : ℕ} → IsFromFnResult g f ys n
    → length l ≡ n → ((k : ℕ) → k < n → Gives g f d (λ i y. y ≡ get_or l i d) ys k) → ys ≡ l
made d l {ys} {n} r e h =
    let same : length ys ≡ length l = omega (arith, r.long) in
    ext_get_or d ys l same (λ k b. made_each d (λ i y. y ≡ get_or l i d) r h k (omega arith))
