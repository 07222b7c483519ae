-- A text read byte by byte from its front: how far the first `stop` is, what a test of each byte gives, and what a
-- count of decimal digits says of the rest from byte i on, one byte further and at the end. Assumes nothing.
use mathlib.Core.Path.{◌≡◌, refl, ap}
use mathlib.Core.Bool.{Bool, true, false, not, cond, ◌&&◌}
use mathlib.Core.List.{List, [], ◌∷◌}
use Prim.Native.Nat.{ℕ, suc, ◌+◌, ◌*◌, ◌≤◌, ◌<◌}
use native.Mathlib.Numerals.{add-one}
use borrow.Author.Tests.{ltb-false}
use lib.Dec.{eqb, ltb}
use native.Mathlib.Omega.{arith}
use lib.ListN.{length, get_or, drop, drop_of_length-le}
use lib.Seq.{drop-cons}
use Rattle.std.specs.List.{list_all, position_or_len}
use Rattle.std.specs.Option.{unwrap_or}
use Rattle.std.proofs.Common.{Some, None}
use Rattle.digits.specs.Texts.{up_to, all, value, count_on}

pub all_listed : (p : ℕ → Bool) (s : List ℕ) → list_all p s ≡ all p s
unfolding all
all_listed p [] = refl
all_listed p (b ∷ s) = ap (λ (t : Bool). p b && t) (all_listed p s)

-- the place of the first `stop`, or the length
up_to_place : (stop : ℕ) (s : List ℕ) → position_or_len (λ b. eqb b stop) s ≡ up_to stop s
unfolding up_to
up_to_place stop [] = refl
up_to_place stop (b ∷ s) = go (eqb b stop) (up_to_place stop s)
  where
    go : (t : Bool) {m n : ℕ} → m ≡ n → cond (not t) (1 + m) 0 ≡ cond t 0 (suc n)
    go true e = refl
    go false e = omega arith

up_to_le : (stop : ℕ) (s : List ℕ) → up_to stop s ≤ length s
unfolding up_to
up_to_le stop [] = omega arith
up_to_le stop (b ∷ s) = go (eqb b stop) (up_to_le stop s)
  where
    go : (t : Bool) {n : ℕ} → n ≤ length s → cond t 0 (suc n) ≤ suc (length s)
    go true h = omega arith
    go false h = omega arith

pub upTo-position : (stop : ℕ) (s : List ℕ)
    → unwrap_or (cond (ltb (position_or_len (λ b. eqb b stop) s) (length s)) (Some (position_or_len (λ b. eqb b stop) s)) None) (length s) ≡ up_to stop s
upTo-position stop s = rw (up_to_place stop s) (go (ltb (up_to stop s) (length s)) refl)
  where
    go : (t : Bool) → ltb (up_to stop s) (length s) ≡ t → unwrap_or (cond t (Some (up_to stop s)) None) (length s) ≡ up_to stop s
    go true e = refl
    go false e =
        let far : length s ≤ up_to stop s = ltb-false (up_to stop s) (length s) e in
        omega (arith, up_to_le stop s)

module _ (s : List ℕ) (i : ℕ) where
  pub all_here : (p : ℕ → Bool) → i < length s → p (get_or s i 0) ≡ false → all p (drop i s) ≡ false
  unfolding all
  all_here p h e = rw (drop-cons s i 0 h, e)

  pub all-on : (p : ℕ → Bool) → i < length s → p (get_or s i 0) ≡ true → all p (drop i s) ≡ all p (drop (i + 1) s)
  unfolding all
  all-on p h e = rw (drop-cons s i 0 h, e, add-one)

  pub all_end : (p : ℕ → Bool) → length s ≤ i → all p (drop i s) ≡ true
  unfolding all
  all_end p h = rw (drop_of_length-le s {i = i} h)

  pub count-on : (n : ℕ) → i < length s → count_on n (drop i s) ≡ count_on (n * 10 + value (get_or s i 0)) (drop (i + 1) s)
  unfolding count_on
  count-on n h = rw (drop-cons s i 0 h, add-one)

  pub count-end : (n : ℕ) → length s ≤ i → count_on n (drop i s) ≡ n
  unfolding count_on
  count-end n h = rw (drop_of_length-le s {i = i} h)

-- ---- decimal digits
