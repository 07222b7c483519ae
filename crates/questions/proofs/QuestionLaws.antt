-- What the first 'no' says: the number is its own, and at 0 every question was answered 'yes'. Assumes nothing.
use Prim.Native.Nat.{ℕ, ◌+◌, ◌-◌, ◌*◌, ◌^◌, ◌≤◌, ◌<◌}
use mathlib.Core.Path.{◌≡◌, refl}
use mathlib.Core.Bool.{Bool, true, false, cond, ◌&&◌}
use mathlib.Core.List.{List, [], ◌∷◌}
use native.Mathlib.Nat.{pow-le-pow_right, zero-lt-suc}
use native.Mathlib.Omega.{arith}
use borrow.Author.Tests.{leb-true, le-leb, not-true}
use lib.Dec.{leb}
use Rattle.bits.specs.Texts.{bytes_for}
use Rattle.cipher.specs.Cipher.{rounds_ok}
use Rattle.aes.specs.Calls.{key_ok}
use Rattle.rules.specs.declared.Mode.{Mode}
use Rattle.rules.specs.Lengths.{unit_length_ok, counter_length_ok, whole_units}
use Rattle.rules.specs.Rules.{units_in}
use Rattle.questions.specs.Questions.{Question, ask, iv_ok, session_ok, bits_ok, room_ok, units_ok, counters_ok, max_bits, max_units, open_questions, feed_questions}
use Rattle.questions.specs.Promises.{FirstNo, all_yes, here, later, NumberIsFirstNo, AcceptedExactly}

pub number_first_no : NumberIsFirstNo
unfolding NumberIsFirstNo ask
number_first_no [] = all_yes
number_first_no (q ∷ qs) = by_answer (number_first_no qs) q.yes refl
  where
    by_answer : FirstNo qs (ask qs) → (b : Bool) → q.yes ≡ b → FirstNo (q ∷ qs) (cond b (ask qs) q.number)
    by_answer rest true e = later e rest
    by_answer rest false e = here e

-- ---- at 0, every answer is 'yes'

pub both_true : (a b : Bool) → (a && b) ≡ true → (a ≡ true) × (b ≡ true)
both_true true b h = (refl, h)
both_true false b h = (h, cc)

pub first_yes : (q : Question) (qs : List Question) → 0 < q.number → ask (q ∷ qs) ≡ 0 → (q.yes ≡ true) × (ask qs ≡ 0)
unfolding ask
first_yes q qs numbered e = by_answer q.yes refl e
  where
    by_answer : (b : Bool) → q.yes ≡ b → cond b (ask qs) q.number ≡ 0 → (q.yes ≡ true) × (ask qs ≡ 0)
    by_answer true answer rest = (answer, rest)
    by_answer false answer rest = absurd (omega arith)

pub accepted_exactly : AcceptedExactly
unfolding AcceptedExactly ask
accepted_exactly [] above = (λ e. tt, λ all. refl)
accepted_exactly (q ∷ qs) above =
    let exactly = accepted_exactly qs above.1 in (
      λ e. let (first, rest) = first_yes q qs (omega (arith, above.0)) e in (first, exactly.0 rest),
      λ all. rw all.0 (exactly.1 all.1),
    )

-- ---- single answers

pub session_good : (mode : Mode) (rounds n m : ℕ) → session_ok mode rounds n m ≡ true
    → (rounds_ok rounds ≡ true) × (unit_length_ok mode n ≡ true) × (counter_length_ok mode m ≡ true)
unfolding session_ok
session_good mode rounds n m e =
    let (first, counter) = both_true (rounds_ok rounds && unit_length_ok mode n) (counter_length_ok mode m) e in
    let (rounds_good, unit) = both_true (rounds_ok rounds) (unit_length_ok mode n) first in
    (rounds_good, unit, counter)

pub bits_small : (limit bytes count : ℕ) → bits_ok limit bytes count ≡ true → count ≤ limit
unfolding bits_ok
bits_small limit bytes count e = leb-true count limit (both_true (leb count (8 * bytes)) (leb count limit) e).1

pub bits_there : (limit bytes count : ℕ) → bits_ok limit bytes count ≡ true → count ≤ 8 * bytes
unfolding bits_ok
bits_there limit bytes count e = leb-true count (8 * bytes) (both_true (leb count (8 * bytes)) (leb count limit) e).0

pub room_inside : (size place bytes : ℕ) → room_ok size place bytes ≡ true → place ≤ size
unfolding room_ok
room_inside size place bytes e = leb-true place size (both_true (leb place size) (leb bytes (size - place)) e).0

pub room_there : (size place bytes : ℕ) → room_ok size place bytes ≡ true → bytes ≤ size - place
unfolding room_ok
room_there size place bytes e = leb-true bytes (size - place) (both_true (leb place size) (leb bytes (size - place)) e).1

-- From m = 64 on there are more counter blocks than units.
pub counters_enough : (m done new : ℕ) → 64 ≤ m → units_ok max_units done new ≡ true → counters_ok m done new ≡ true
unfolding units_ok counters_ok
counters_enough m done new long few =
    let units : done + new ≤ max_units = leb-true _ _ few in
    let more : 2 ^ 64 ≤ 2 ^ m = pow-le-pow_right (zero-lt-suc 1) long in
    le-leb (done + new) (2 ^ m) (omega arith)

-- ---- all answers

-- What an accepted opening was asked.
pub record OpeningTaken (mode : Mode) (n m : ℕ) (key iv : List ℕ) : Type 0 where
  pub key_size : key_ok key ≡ true
  pub iv_size : iv_ok mode iv ≡ true
  pub unit : unit_length_ok mode n ≡ true
  pub counter : counter_length_ok mode m ≡ true

pub opening_taken : (mode : Mode) (n m : ℕ) (key iv : List ℕ) → ask (open_questions mode n m key iv) ≡ 0 → OpeningTaken mode n m key iv
unfolding AcceptedExactly open_questions
opening_taken mode n m key iv e =
    let (q1, (q2, (q3, (q14, end)))) = (accepted_exactly (open_questions mode n m key iv) (omega arith)).0 e in
    record { key_size = q1; iv_size = q2; unit = q3; counter = q14 }

-- What an accepted feed was asked, where a session may do `limit` units.
pub record FeedTaken (limit : ℕ) (mode : Mode) (rounds n m : ℕ) (closed : Bool) (units bytes count size place : ℕ) : Type 0 where
  pub rounds_good : rounds_ok rounds ≡ true
  pub unit : unit_length_ok mode n ≡ true
  pub counter : counter_length_ok mode m ≡ true
  pub not_closed : closed ≡ false
  pub there : count ≤ 8 * bytes
  pub small : count ≤ max_bits
  pub whole : whole_units mode n count ≡ true
  pub inside : place ≤ size
  pub room : bytes_for count ≤ size - place
  pub counted : units + units_in n count ≤ limit
  pub blocks : units + units_in n count ≤ 2 ^ m

pub feed_taken : (limit : ℕ) (mode : Mode) (rounds n m : ℕ) (closed : Bool) (units bytes count size place : ℕ)
    → ask (feed_questions limit mode rounds n m closed units bytes count size place) ≡ 0 → FeedTaken limit mode rounds n m closed units bytes count size place
unfolding AcceptedExactly feed_questions units_ok counters_ok
feed_taken limit mode rounds n m closed units bytes count size place e =
    let (q4, (q5, (q6, (q7, (q8, (q9, (q15, end))))))) = (accepted_exactly (feed_questions limit mode rounds n m closed units bytes count size place) (omega arith)).0 e in
    let good = session_good mode rounds n m q4 in
    record {
      rounds_good = good.0;
      unit = good.1;
      counter = good.2;
      not_closed = not-true closed q5;
      there = bits_there max_bits bytes count q6;
      small = bits_small max_bits bytes count q6;
      whole = q7;
      inside = room_inside size place (bytes_for count) q8;
      room = room_there size place (bytes_for count) q8;
      counted = leb-true _ _ q9;
      blocks = leb-true _ _ q15;
    }
