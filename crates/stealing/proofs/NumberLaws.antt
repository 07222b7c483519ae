-- The number: questions 1 and 2 are those of a CBC opening, whose question 3 is always answered 'yes'; 6, 13 and 8 are
-- the message's. Assumes nothing.
use Prim.Native.Nat.{ℕ, ◌+◌, ◌-◌, ◌*◌, ◌/◌, ◌%◌, ◌≤◌, ◌<◌}
use mathlib.Core.Path.{◌≡◌}
use mathlib.Core.Bool.{true, false}
use mathlib.Core.List.{List}
use native.Mathlib.Omega.{arith}
use borrow.Author.Tests.{eqb-true, ltb-true, eq-eqb, le-leb}
use lib.Dec.{eqb, ltb}
use Rattle.bits.specs.Texts.{bytes_for}
use Rattle.cipher.specs.Cipher.{rounds_ok}
use Rattle.aes.specs.Calls.{key_ok}
use Rattle.rules.specs.declared.Mode.TheVariants.{Cbc}
use Rattle.rules.specs.Rules.{units_in}
use Rattle.rules.specs.Lengths.{unit_length_ok, counter_length_ok, whole_units}
use Rattle.questions.proofs.QuestionLaws.{opening_taken, counters_enough, first_yes, accepted_exactly, both_true, bits_small, bits_there, room_inside, room_there}
use Rattle.questions.specs.Questions.{ask, max_bits, max_units, session_ok, bits_ok, room_ok, units_ok, feed_questions, iv_ok}
use Rattle.questions.specs.Promises.{AcceptedExactly}
use Rattle.modes.specs.Sessions.{open_number}
use Rattle.stealing.specs.Calls.{message_ok, message_questions, steal_questions, steal_number}

module _ (key iv : List ℕ) (bytes count size place : ℕ) where
  both_yes : key_ok key ≡ true → iv_ok Cbc iv ≡ true → steal_number key iv bytes count size place ≡ ask (message_questions bytes count size place)
  unfolding steal_number steal_questions ask
  both_yes q1 q2 = rw (q1, q2)

  pub opening-yes : open_number Cbc 128 128 key iv ≡ 0 → steal_number key iv bytes count size place ≡ ask (message_questions bytes count size place)
  unfolding open_number
  opening-yes e = let taken = opening_taken Cbc 128 128 key iv e in both_yes taken.key_size taken.iv_size

-- What the number 0 grants: of the message, and of the whole call.
pub record MessageTaken (bytes count size place : ℕ) : Type 0 where
  pub there : count ≤ 8 * bytes
  pub small : count ≤ max_bits
  pub whole_bytes : count % 8 ≡ 0
  pub more_than_16 : 128 < count
  pub inside : place ≤ size
  pub room : bytes_for count ≤ size - place

pub message_taken : (bytes count size place : ℕ) → ask (message_questions bytes count size place) ≡ 0 → MessageTaken bytes count size place
unfolding AcceptedExactly message_questions message_ok
message_taken bytes count size place e =
    let (q6, (q13, (q8, end))) = (accepted_exactly (message_questions bytes count size place) (omega arith)).0 e in
    let (whole, long) = both_true (eqb (count % 8) 0) (ltb 128 count) q13 in
    record {
      there = bits_there _ _ _ q6;
      small = bits_small _ _ _ q6;
      whole_bytes = eqb-true (count % 8) 0 whole;
      more_than_16 = ltb-true 128 count long;
      inside = room_inside _ _ _ q8;
      room = room_there _ _ _ q8;
    }

pub record StealTaken (key iv : List ℕ) (bytes count size place : ℕ) : Type 0 where
  pub key_yes : key_ok key ≡ true
  pub iv_yes : iv_ok Cbc iv ≡ true
  pub message : MessageTaken bytes count size place

pub steal_taken : (key iv : List ℕ) (bytes count size place : ℕ) → steal_number key iv bytes count size place ≡ 0 → StealTaken key iv bytes count size place
unfolding steal_number steal_questions
steal_taken key iv bytes count size place e1 =
    let (q1, e2) = first_yes _ _ (omega arith) e1 in
    let (q2, e6) = first_yes _ _ (omega arith) e2 in
    record { key_yes = q1; iv_yes = q2; message = message_taken bytes count size place e6 }

-- ---- the feed of the blocks before the last two

-- The bits before the last two blocks, and those of the end, as the code has them.
abbrev pub front_bits : ℕ → ℕ
front_bits count = ((count - 1) / 128 - 1) * 128

abbrev pub end_bits : ℕ → ℕ
end_bits count = count - (count - 1) / 128 * 128

front_room : (count size : ℕ) → bytes_for count ≤ size → room_ok size 0 (bytes_for (front_bits count)) ≡ true
unfolding room_ok bytes_for
front_room count size room = rw (le-leb 0 size (omega arith), le-leb ((front_bits count + 7) / 8) (size - 0) (omega arith))

front_units : (count : ℕ) → count ≤ max_bits → units_ok max_units 0 (units_in 128 (front_bits count)) ≡ true
unfolding units_ok units_in
front_units count small = le-leb (0 + (front_bits count + (128 - 1)) / 128) max_units (omega arith)

-- The feed of a message's front is asked for nothing that the message lacks.
pub front_number : (rounds bytes count size : ℕ) → rounds_ok rounds ≡ true → count ≤ 8 * bytes → count ≤ max_bits → bytes_for count ≤ size
    → ask (feed_questions max_units Cbc rounds 128 128 false 0 bytes (front_bits count) size 0) ≡ 0
unfolding feed_questions ask session_ok unit_length_ok counter_length_ok bits_ok whole_units
front_number rounds bytes count size good there small room =
    rw (
      good,
      le-leb (front_bits count) (8 * bytes) (omega arith),
      le-leb (front_bits count) max_bits (omega arith),
      eq-eqb (front_bits count % 128) 0 (omega arith),
      front_room count size room,
      front_units count small,
      counters_enough 128 0 (units_in 128 (front_bits count)) (omega arith) (front_units count small),
    )
