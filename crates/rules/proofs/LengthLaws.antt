-- Which lengths a mode takes, in plain numbers: each test's 'yes' is its sentence. Assumes nothing.
use Prim.Native.Nat.{ℕ, ◌%◌}
use mathlib.Core.Path.{◌≡◌, refl}
use mathlib.Core.Logic.{◌↔◌, ◌⊎◌, inl, inr}
use mathlib.Core.Bool.{true, ◌&&◌, and-eq-true_iff}
use native.Mathlib.Omega.{arith}
use borrow.Author.Tests.{leb-true, le-leb, eqb-true, eq-eqb}
use lib.Dec.{leb, eqb}
use Rattle.rules.specs.declared.Mode.{Mode}
use Rattle.rules.specs.declared.Mode.TheVariants.{Ecb, Cbc, Cfb, Ofb, Ctr}
use Rattle.rules.specs.Lengths.{LengthIn, unit_length_ok, counter_length_ok, whole_units}

-- Two modes that are equal would make 0 and 1 equal.
pub clash : ◌≡◌ {A = ℕ} 0 1 → ⊥
clash e = omega arith

length_there : (own : Mode) (k : ℕ) → ((leb 1 k && leb k 128) ≡ true) ↔ LengthIn own own k
length_there own k = (
  λ e.
      let (some, short) = (and-eq-true_iff (leb 1 k) (leb k 128)).0 e in
      record { in_own = λ same. omega (arith, leb-true 1 k some, leb-true k 128 short); elsewhere = λ other. absurd (other refl) },
  λ h. rw (le-leb 1 k (omega (arith, (h.in_own refl).0)), le-leb k 128 (omega (arith, (h.in_own refl).1))),
)

length_elsewhere : {own mode : Mode} (k : ℕ) → (mode ≡ own → ⊥) → (eqb k 128 ≡ true) ↔ LengthIn own mode k
length_elsewhere k other =
    (λ e. record { in_own = λ same. absurd (other same); elsewhere = λ o. eqb-true k 128 e }, λ h. eq-eqb k 128 (h.elsewhere other))

pub unit_exactly : (mode : Mode) (n : ℕ) → (unit_length_ok mode n ≡ true) ↔ LengthIn Cfb mode n
unfolding unit_length_ok
unit_exactly Ecb n = length_elsewhere n (λ e. clash (cc))
unit_exactly Cbc n = length_elsewhere n (λ e. clash (cc))
unit_exactly Cfb n = length_there Cfb n
unit_exactly Ofb n = length_elsewhere n (λ e. clash (cc))
unit_exactly Ctr n = length_elsewhere n (λ e. clash (cc))

pub counter_exactly : (mode : Mode) (m : ℕ) → (counter_length_ok mode m ≡ true) ↔ LengthIn Ctr mode m
unfolding counter_length_ok
counter_exactly Ecb m = length_elsewhere m (λ e. clash (cc))
counter_exactly Cbc m = length_elsewhere m (λ e. clash (cc))
counter_exactly Cfb m = length_elsewhere m (λ e. clash (cc))
counter_exactly Ofb m = length_elsewhere m (λ e. clash (cc))
counter_exactly Ctr m = length_there Ctr m

-- Question 14 of an m of 128 is answered 'yes' in every mode.
pub whole_block : (mode : Mode) → counter_length_ok mode 128 ≡ true
unfolding counter_length_ok
whole_block Ecb = refl
whole_block Cbc = refl
whole_block Cfb = refl
whole_block Ofb = refl
whole_block Ctr = refl

abbrev Whole : Mode → Type 0
Whole mode = (mode ≡ Ecb) ⊎ (mode ≡ Cbc) ⊎ (mode ≡ Cfb)

whole_there : {mode : Mode} (rest : ℕ) → Whole mode → (eqb rest 0 ≡ true) ↔ (Whole mode → rest ≡ 0)
whole_there rest there = (λ e w. eqb-true rest 0 e, λ h. eq-eqb rest 0 (h there))

whole_elsewhere : {mode : Mode} (rest : ℕ) → (Whole mode → ⊥) → (true ≡ true) ↔ (Whole mode → rest ≡ 0)
whole_elsewhere rest other = (λ e w. absurd (other w), λ h. refl)

not_whole : {mode : Mode} → (mode ≡ Ecb → ⊥) → (mode ≡ Cbc → ⊥) → (mode ≡ Cfb → ⊥) → Whole mode → ⊥
not_whole a b c (inl e) = a e
not_whole a b c (inr (inl e)) = b e
not_whole a b c (inr (inr e)) = c e

pub whole_exactly : (mode : Mode) (n count : ℕ) → (whole_units mode n count ≡ true) ↔ (Whole mode → count % n ≡ 0)
unfolding whole_units
whole_exactly Ecb n count = whole_there (count % n) (inl refl)
whole_exactly Cbc n count = whole_there (count % n) (inr (inl refl))
whole_exactly Cfb n count = whole_there (count % n) (inr (inr refl))
whole_exactly Ofb n count = whole_elsewhere (count % n) (not_whole (λ e. clash (cc)) (λ e. clash (cc)) (λ e. clash (cc)))
whole_exactly Ctr n count = whole_elsewhere (count % n) (not_whole (λ e. clash (cc)) (λ e. clash (cc)) (λ e. clash (cc)))
