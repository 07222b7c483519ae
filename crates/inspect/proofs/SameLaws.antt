-- What the comparison of the first bytes of two lists means, and `==` of them as that comparison. Assumes nothing.
use Prim.Native.Nat.{ℕ, zero, suc, ◌≤◌}
use mathlib.Core.Path.{◌≡◌, refl, sym, ap, ap₂, ◌∙◌}
use mathlib.Core.Bool.{Bool, true, false, and-eq-true_iff}
use mathlib.Core.List.{List, [], ◌∷◌, ◌++◌}
use native.Mathlib.Nat.{le_refl, le_of_lt, le_of_eq}
use native.Mathlib.Omega.{arith}
use borrow.Author.Tests.{eq-eqb, eqb-true}
use lib.Dec.{eqb}
use lib.ListN.{length, get_or, take}
use lib.Pointwise.{pointwise, bytes_decides}
use lib.Seq.{take_all, take-suc, take-take, get_or-take}
use Rattle.inspect.specs.Alike.{same_first}

module _ (a b : List ℕ) where
  pub same-means : (k : ℕ) → k ≤ length a → k ≤ length b → same_first k a b ≡ true → take k a ≡ take k b
  unfolding same_first
  same-means zero ha hb e = refl
  same-means (suc k) ha hb e =
      let (here, rest) = (and-eq-true_iff (eqb (get_or a k 0) (get_or b k 0)) (same_first k a b)).0 e in
      take-suc a k 0 ha
      ∙ ap₂ (λ (l : List ℕ) (v : ℕ). l ++ v ∷ []) (same-means k (le_of_lt ha) (le_of_lt hb) rest) (eqb-true (get_or a k 0) (get_or b k 0) here)
      ∙ sym (take-suc b k 0 hb)

  pub means-same : (k : ℕ) → take k a ≡ take k b → same_first k a b ≡ true
  unfolding same_first
  means-same zero e = refl
  means-same (suc k) e =
      rw (
        eq-eqb (get_or a k 0) (get_or b k 0)
            (sym (get_or-take (suc k) a k 0 (le_refl (suc k))) ∙ ap (λ (l : List ℕ). get_or l k 0) e ∙ get_or-take (suc k) b k 0 (le_refl (suc k))),
        means-same k (sym (take-take k (suc k) a (omega arith)) ∙ ap (take k) e ∙ take-take k (suc k) b (omega arith)),
      )

-- ---- `==` at slices

both : (r s : Bool) → (r ≡ true → s ≡ true) → (s ≡ true → r ≡ true) → r ≡ s
both true s f g = sym (f refl)
both false true f g = g refl
both false false f g = refl

pub first_equal : (k : ℕ) (a b : List ℕ) → k ≤ length a → k ≤ length b → pointwise eqb (take k a) (take k b) ≡ same_first k a b
first_equal k a b ha hb =
    let (same, equal) = bytes_decides (take k a) (take k b) in
    both (pointwise eqb (take k a) (take k b)) (same_first k a b) (λ e. means-same a b k (same e)) (λ e. equal (same-means a b k ha hb e))

pub whole_equal : (k : ℕ) (a b : List ℕ) → length a ≡ k → length b ≡ k → pointwise eqb a b ≡ same_first k a b
whole_equal k a b ha hb =
    ap₂ (pointwise eqb) (sym (take_all k a (le_of_eq ha))) (sym (take_all k b (le_of_eq hb)))
    ∙ first_equal k a b (le_of_eq (sym ha)) (le_of_eq (sym hb))
