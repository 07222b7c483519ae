-- A feed's questions under a higher limit: no answer but 9 changes, and where it was 9 question 15 answers. Assumes
-- nothing.
use Prim.Native.Nat.{ℕ, ◌+◌, ◌≤◌, ◌<◌}
use mathlib.Core.Path.{◌≡◌, refl}
use mathlib.Core.Bool.{Bool, true, false, cond}
use mathlib.Core.List.{List, [], ◌∷◌, ◌++◌}
use native.Mathlib.Omega.{arith}
use borrow.Author.Tests.{leb-true, leb-false, le-leb}
use Rattle.rules.specs.declared.Mode.{Mode}
use Rattle.rules.specs.Rules.{units_in}
use Rattle.questions.specs.Questions.{Question, ask, session_ok, bits_ok, units_ok, counters_ok, max_bits, unit_limit, counter_limit, feed_questions_to8, feed_questions}
use Rattle.questions.specs.Promises.{AllYes}

-- ---- any list

-- No question of the list has the number k.
abbrev Without : ℕ → List Question → Type 0
Without k [] = Unit {0}
Without k (q ∷ qs) = (q.number ≡ k → ⊥) × Without k qs

module _ (q : Question) (rest : List Question) where
  -- where r says 'yes' wherever q does, and q's number was not the answer
  not-answered : (r : Question) (before : List Question) → (q.yes ≡ true → r.yes ≡ true) → (ask (before ++ q ∷ rest) ≡ q.number → ⊥)
      → ask (before ++ r ∷ rest) ≡ ask (before ++ q ∷ rest)
  unfolding ask
  not-answered r [] more other = by_answer q.yes refl
    where
      by_answer : (b : Bool) → q.yes ≡ b → cond r.yes (ask rest) r.number ≡ cond q.yes (ask rest) q.number
      by_answer true e = rw (e, more e)
      by_answer false e = absurd (other (rw e))
  not-answered r (p ∷ before) more other = by_answer (not-answered r before more) p.yes other
    where
      by_answer : {x y : ℕ} → ((y ≡ q.number → ⊥) → x ≡ y) → (b : Bool) → (cond b y p.number ≡ q.number → ⊥) → cond b x p.number ≡ cond b y p.number
      by_answer same true not-q = same not-q
      by_answer same false not-q = refl

  -- where it was, all before said 'yes' and q 'no'
  answered : (before : List Question) → Without q.number before → (ask rest ≡ q.number → ⊥) → ask (before ++ q ∷ rest) ≡ q.number
      → AllYes before × (q.yes ≡ false)
  unfolding ask
  answered [] others behind at-q = by_answer q.yes refl at-q
    where
      by_answer : (b : Bool) → q.yes ≡ b → cond b (ask rest) q.number ≡ q.number → Unit {0} × (q.yes ≡ false)
      by_answer true e rest-q = absurd (behind rest-q)
      by_answer false e rest-q = (tt, e)
  answered (p ∷ before) others behind at-q = by_answer (answered before others.1 behind) p.yes refl at-q
    where
      by_answer : {x : ℕ} → (x ≡ q.number → AllYes before × (q.yes ≡ false)) → (b : Bool) → p.yes ≡ b → cond b x p.number ≡ q.number → ((p.yes ≡ true) × AllYes before) × (q.yes ≡ false)
      by_answer later true e x-q = let (all, no-q) = later x-q in ((e, all), no-q)
      by_answer later false e x-q = absurd (others.0 x-q)

  -- where all say 'yes' up to q, those after it answer
  left_over : (before : List Question) → AllYes before → q.yes ≡ true → ask (before ++ q ∷ rest) ≡ ask rest
  unfolding ask
  left_over [] all allowed = rw allowed
  left_over (p ∷ before) all allowed = rw all.0 (left_over before all.1 allowed)

-- ---- a feed's list

module _ (mode : Mode) (rounds n m : ℕ) (closed : Bool) (units bytes count size place : ℕ) where
  abbrev before-9 : List Question
  before-9 = feed_questions_to8 mode rounds n m closed bytes count size place

  abbrev question-9 : ℕ → Question
  question-9 limit = unit_limit limit units (units_in n count)

  abbrev behind-9 : List Question
  behind-9 = counter_limit m units (units_in n count) ∷ []

  abbrev number : ℕ → ℕ
  number limit = ask (feed_questions limit mode rounds n m closed units bytes count size place)

  pub same-but-9 : (lower higher : ℕ) → lower ≤ higher → (number lower ≡ 9 → ⊥) → number higher ≡ number lower
  unfolding feed_questions units_ok
  same-but-9 lower higher le not-9 =
      not-answered (question-9 lower) behind-9 (question-9 higher) before-9
      (λ few. le-leb (units + units_in n count) higher (omega (arith, leb-true (units + units_in n count) lower few, le)))
      not-9

  -- What an answer of 9 shows.
  pub record At9 (limit : ℕ) : Type 0 where
    pub session_good : session_ok mode rounds n m ≡ true
    pub bits-good : bits_ok max_bits bytes count ≡ true
    pub past : limit < units + units_in n count
    -- a limit that allows the units leaves the answer to question 15
    pub by-15 : (higher : ℕ) → units + units_in n count ≤ higher → number higher ≡ cond (counters_ok m units (units_in n count)) 0 15

  pub at_9 : (limit : ℕ) → number limit ≡ 9 → At9 limit
  unfolding feed_questions units_ok ask
  at_9 limit e =
      let (all, no_9) = answered (question-9 limit) behind-9 before-9 without-9 (not-9 (counters_ok m units (units_in n count))) e in
      record {
        session_good = all.0;
        bits-good = all.1.1.0;
        past = leb-false (units + units_in n count) limit no_9;
        by-15 = λ higher few. left_over (question-9 higher) behind-9 before-9 all (le-leb (units + units_in n count) higher few);
      }
    where
      without-9 : Without 9 before-9
      without-9 = (λ e. omega arith, (λ e. omega arith, (λ e. omega arith, (λ e. omega arith, (λ e. omega arith, tt)))))

      not-9 : (b : Bool) → ◌≡◌ {A = ℕ} (cond b 0 15) 9 → ⊥
      not-9 true e = omega arith
      not-9 false e = omega arith
