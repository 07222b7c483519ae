-- The promises of request 06: what counting up from the IV does to its two parts, against the questions and the answer.
-- Assumes nothing.
use mathlib.Core.Path.{◌≡◌, refl, sym, ap, ap₂, ◌∙◌}
use mathlib.Core.Bool.{Bool, true, false}
use mathlib.Core.List.{List}
use Prim.Native.Nat.{ℕ, ◌+◌, ◌-◌, ◌*◌, ◌/◌, ◌%◌, ◌^◌, ◌<◌, ◌≤◌}
use native.Mathlib.Nat.{mod-lt, mod-mod, mod-eq_of_lt, add-mod-mod, add-mod_right, lt_of_lt_of_le}
use native.Mathlib.Omega.{arith}
use borrow.Author.Tests.{eq-eqb, eqb-true, ne_eqb}
use lib.Pow.{pow_pos, pow_mono, split}
use Rattle.bits.specs.Blocks.{Block}
use Rattle.bits.specs.Counter.{number, number_bytes}
use Rattle.bits.proofs.Counter.{number_inj, number-number_bytes}
use Rattle.rules.specs.declared.Mode.TheVariants.{Ctr}
use Rattle.rules.specs.Lengths.{counter_length_ok}
use Rattle.rules.specs.Standard.{counter}
use Rattle.rules.proofs.Counters.{counter-block, counter-number, counter-count}
use Rattle.rules.proofs.Taken.{counter_bounds}
use Rattle.places.specs.Answers.{Place}
use Rattle.places.specs.Answers.{upper_same, of_block_number, increments_between, ToldBy}
use Rattle.places.specs.Promises.{Answers, CountsUp, Unreached, NumbersTold}
use Rattle.places.proofs.AnswerLaws.{length_ok, answers-14, answers-16, answers-0, accepted_length, accepted-upper}

-- ---- counting up

below : (m : ℕ) (iv block : List ℕ) → increments_between m iv block < 2 ^ m
unfolding increments_between
below m iv block = mod-lt _ (pow_pos m)

-- the lowest m bits, after that many increments
lower : (m : ℕ) (iv block : List ℕ) → (number iv % 2 ^ m + increments_between m iv block) % 2 ^ m ≡ number block % 2 ^ m
unfolding increments_between
lower m iv block =
    let first : number iv % 2 ^ m < 2 ^ m = mod-lt (number iv) (pow_pos m) in
    let sum : number iv % 2 ^ m + (number block % 2 ^ m + (2 ^ m - number iv % 2 ^ m)) ≡ number block % 2 ^ m + 2 ^ m = omega arith in
    rw (add-mod-mod, sum, add-mod_right) (mod-mod (number block) (2 ^ m))

module _ {m : ℕ} (fits : m ≤ 128) {iv block : List ℕ} (hiv : Block iv) (hblock : Block block) where
  reaches : number iv / 2 ^ m ≡ number block / 2 ^ m → counter m iv (increments_between m iv block) ≡ block
  reaches upper =
      let k = increments_between m iv block in
      let reached = counter-block m hiv k in
      let (above, among) = counter-number fits hiv k in
      number_inj (counter m iv k) block reached.bytes hblock.bytes (reached.size ∙ sym hblock.size)
      (sym (split (number (counter m iv k)) m) ∙ ap₂ (λ q r. q * 2 ^ m + r) (above ∙ upper) (among ∙ lower m iv block) ∙ split (number block) m)

  -- a block that is reached has the IV's upper bits
  reached-upper : (k : ℕ) → counter m iv k ≡ block → upper_same m iv block ≡ true
  unfolding upper_same
  reached-upper k there = eq-eqb (number iv / 2 ^ m) (number block / 2 ^ m) (sym (rw there at (counter-number fits hiv k).0))

-- 16 bytes hold it
held : {m : ℕ} → m ≤ 128 → {k : ℕ} → k < 2 ^ m → number (number_bytes 16 k) ≡ k
held fits {k} l = number-number_bytes 16 k ∙ mod-eq_of_lt (lt_of_lt_of_le l (pow_mono fits))

-- ---- the answer

module _ {iv block : List ℕ} {m : ℕ} {r : Place} (hiv : Block iv) (hblock : Block block) (by : ToldBy iv block m r) where
  accepted : of_block_number iv block m ≡ 0 → Answers r (increments_between m iv block)
  accepted e = record { accepted = by.answer ∙ e; increments = rw (eq-eqb (of_block_number iv block m) 0 e) at by.increments }

  leads : r.number ≡ 0 → CountsUp m iv block (number r.increments)
  leads taken =
      let e = sym by.answer ∙ taken in
      let fits = (accepted_length iv block m e).1 in
      let k : number r.increments ≡ increments_between m iv block = ap number (accepted e).increments ∙ held fits (below m iv block) in
      rw k (record { below = omega (arith, below m iv block); there = reaches fits hiv hblock (accepted-upper iv block m e) })

  reached-0 : 1 ≤ m → m ≤ 128 → (k : ℕ) → counter m iv k ≡ block → of_block_number iv block m ≡ 0
  reached-0 least most k there = answers-0 iv block m (length_ok m least most) (reached-upper most hiv hblock k there)

  pub back : 1 ≤ m → m ≤ 128 → (k : ℕ) → CountsUp m iv block k → Answers r k
  unfolding increments_between
  back least most k up =
      let same : increments_between m iv block ≡ k = rw up.there at (counter-count most hiv k (omega (arith, up.below, pow_pos m))) in
      rw same at (accepted (reached-0 least most k up.there))

  -- ---- refused

  not-14 : 1 ≤ m → m ≤ 128 → (b : Bool) → upper_same m iv block ≡ b → r.number ≡ 14 → ⊥
  not-14 least most true same number = absurd (omega (arith, by.answer, answers-0 iv block m (length_ok m least most) same))
  not-14 least most false same number = absurd (omega (arith, by.answer, answers-16 iv block m (length_ok m least most) same))

  is-14 : (1 ≤ m → m ≤ 128 → ⊥) → (b : Bool) → counter_length_ok Ctr m ≡ b → r.number ≡ 14
  is-14 bad true ok = let (least, most) = counter_bounds Ctr m ok in absurd (bad least most)
  is-14 bad false ok = by.answer ∙ answers-14 iv block m ok

  from-16 : (b : Bool) → counter_length_ok Ctr m ≡ b → r.number ≡ 16 → Unreached m iv block
  unfolding Unreached
  from-16 true ok number j there = let (least, most) = counter_bounds Ctr m ok in absurd (omega (arith, by.answer, reached-0 least most j there))
  from-16 false ok number j there = absurd (omega (arith, by.answer, answers-14 iv block m ok))

  is-16 : 1 ≤ m → m ≤ 128 → Unreached m iv block → (b : Bool) → upper_same m iv block ≡ b → r.number ≡ 16
  unfolding Unreached upper_same
  is-16 least most none true same = absurd (none _ (reaches most hiv hblock (eqb-true _ _ same)))
  is-16 least most none false same = by.answer ∙ answers-16 iv block m (length_ok m least most) same

pub numbers_told : NumbersTold
unfolding NumbersTold
numbers_told iv block m r hiv hblock by =
    record {
      leads = leads hiv hblock by;
      back = back hiv hblock by;
      only_unreached = from-16 hiv hblock by (counter_length_ok Ctr m) refl;
      unreached = λ least most none. is-16 hiv hblock by least most none (upper_same m iv block) refl;
      bad_length = λ bad. is-14 hiv hblock by bad (counter_length_ok Ctr m) refl;
      good_length = λ least most. not-14 hiv hblock by least most (upper_same m iv block) refl;
      zeros = λ no_zero. rw (ne_eqb (of_block_number iv block m) 0 (λ e. no_zero (by.answer ∙ e))) at by.increments;
    }
