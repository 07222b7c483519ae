-- What pad and unpad answer: where the number is 0 and where it is not. Assumes nothing.
use Prim.Native.Nat.{ℕ, ◌-◌, ◌*◌, ◌%◌, ◌≤◌, ◌<◌}
use mathlib.Core.Path.{◌≡◌, sym}
use mathlib.Core.Bool.{true}
use mathlib.Core.List.{List}
use native.Mathlib.Omega.{arith}
use borrow.Author.Tests.{eq-eqb}
use lib.Dec.{eqb}
use lib.ListN.{length}
use Rattle.bits.specs.Texts.{bytes_for}
use Rattle.questions.specs.Questions.{ask, max_bits}
use Rattle.questions.specs.Promises.{AcceptedExactly}
use Rattle.modes.specs.Sessions.{fed_text, written}
use Rattle.questions.proofs.QuestionLaws.{accepted_exactly, bits_small, bits_there, room_inside, room_there}
use Rattle.padding.specs.Padding.{padded, padded_length, max_pad_bits, pad_questions, pad_number, PaddedBy, unpadded_length, unpad_questions, unpad_number, UnpaddedBy}
use Rattle.padding.proofs.NumberLaws.{taken, whole-blocks, blocks_there}
use Rattle.padding.proofs.PadLaws.{length-padded, length_fed}

-- ---- pad

-- what an accepted pad was asked
pub record PadTaken (bytes count size place : ℕ) : Type 0 where
  pub there : count ≤ 8 * bytes
  pub limit : count ≤ max_pad_bits
  pub inside : place ≤ size
  pub room : bytes_for (padded_length count) ≤ size - place

pub pad_taken : (bytes count size place : ℕ) → pad_number bytes count size place ≡ 0 → PadTaken bytes count size place
unfolding pad_number pad_questions AcceptedExactly
pad_taken bytes count size place e =
    let (q6, (q8, end)) = (accepted_exactly (pad_questions bytes count size place) (omega arith)).0 e in
    record { there = bits_there _ _ _ q6; limit = bits_small _ _ _ q6; inside = room_inside _ _ _ q8; room = room_there _ _ _ q8 }

module _ (input : List ℕ) (count : ℕ) (out : List ℕ) (place : ℕ) (zero : pad_number (length input) count (length out) place ≡ 0) where
  pub pad-accepted : {size : ℕ} {after : List ℕ} → size ≡ padded_length count → after ≡ written out place (padded (fed_text input count))
      → PaddedBy input count out place (record { number = 0; bits = size }) after
  pad-accepted size_is after_is =
      let e : eqb (pad_number (length input) count (length out) place) 0 ≡ true = eq-eqb _ 0 zero in
      let there = (pad_taken (length input) count (length out) place zero).there in
      record {
        answer = sym zero;
        size = rw (e, length-padded (fed_text input count), length_fed input count there) size_is;
        output = rw e after_is;
      }

-- ---- unpad

-- what an accepted unpad was asked
pub record UnpadTaken (bytes count : ℕ) : Type 0 where
  pub there : count ≤ 8 * bytes
  pub limit : count ≤ max_bits
  pub some : 128 ≤ count

pub unpad_taken : (bytes count : ℕ) → unpad_number bytes count ≡ 0 → UnpadTaken bytes count
unfolding unpad_number unpad_questions AcceptedExactly
unpad_taken bytes count e =
    let (q6, (q7, end)) = (accepted_exactly (unpad_questions bytes count) (omega arith)).0 e in
    record { there = bits_there _ _ _ q6; limit = bits_small _ _ _ q6; some = blocks_there count q7 }

pub unpad_takes : (bytes count : ℕ) → 0 < count → count % 128 ≡ 0 → count ≤ 8 * bytes → count ≤ max_bits → unpad_number bytes count ≡ 0
unfolding unpad_number unpad_questions ask
unpad_takes bytes count some whole there limit = rw (taken max_bits bytes count limit (omega arith), whole-blocks count (omega arith) whole)

module _ (input : List ℕ) (count : ℕ) (zero : unpad_number (length input) count ≡ 0) where
  pub unpad-accepted : {size : ℕ} → size ≡ unpadded_length (fed_text input count) → UnpaddedBy input count (record { number = 0; bits = size })
  unpad-accepted size_is =
      let e : eqb (unpad_number (length input) count) 0 ≡ true = eq-eqb _ 0 zero in
      record { answer = sym zero; size = rw e size_is }
