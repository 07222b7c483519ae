-- Document 01, "Padding, one block, comparison", as request 02 changed it, and questions 6, 7 and 8 for pad and unpad:
-- the number, the length in bits and every byte of the output, for all arguments.
use Rattle.std.specs.Prelude.{ℕ, zero, suc, pred, ◌+◌, ◌-◌, ◌%◌, ◌≡◌, Bool, true, false, cond, ◌&&◌, List, [], ◌∷◌, ◌++◌, eqb, leb, length, get_or, drop, replicate, Result, Ok, Err}
use Rattle.bits.specs.Texts.{bytes_for}
use Rattle.questions.specs.Questions.{Question, ask, max_bits, bits_there, room}
use Rattle.questions.specs.declared.refusal.Refusal.{Refusal}
use Rattle.questions.specs.Refusals.{number_of}
use Rattle.modes.specs.Sessions.{fed_text, written}

-- What both calls answer: the number, and a length in bits, 0 where it is refused.
pub record Answer : Type 0 where
  pub number : ℕ
  pub bits : ℕ

abbrev pub answered : Result ℕ Refusal → Answer
answered (Ok bits) = record { number = 0; bits = bits }
answered (Err refusal) = record { number = number_of refusal; bits = 0 }

abbrev pub Padded : Type 0
Padded = Answer

abbrev pub Unpadded : Type 0
Unpadded = Answer

-- ---- pad

-- The 0 bits after the 1 bit of a text of n bits: the fewest that reach a multiple of 128.
unfoldable pub zeros_for : ℕ → ℕ
zeros_for n = 127 - n % 128

unfoldable pub padded : List Bool → List Bool
padded x = x ++ true ∷ replicate (zeros_for (length x)) false

unfoldable pub padded_length : ℕ → ℕ
padded_length n = n + suc (zeros_for n)

-- The largest text, in bits: padded it is the largest feed.
abbrev pub max_pad_bits : ℕ
max_pad_bits = max_bits - 1

unfoldable pub pad_questions : ℕ → ℕ → ℕ → ℕ → List Question
pad_questions bytes count size place =
    bits_there max_pad_bits bytes count ∷ room size place (bytes_for (padded_length count)) ∷ []

unfoldable pub pad_number : ℕ → ℕ → ℕ → ℕ → ℕ
pad_number bytes count size place = ask (pad_questions bytes count size place)

pub record PaddedBy (input : List ℕ) (count : ℕ) (out : List ℕ) (place : ℕ) (r : Padded) (after : List ℕ) : Type 0 where
  pub answer : r.number ≡ pad_number (length input) count (length out) place
  pub size : r.bits ≡ cond (eqb (pad_number (length input) count (length out) place) 0) (length (padded (fed_text input count))) 0
  pub output : after ≡ cond (eqb (pad_number (length input) count (length out) place) 0) (written out place (padded (fed_text input count))) out

-- ---- unpad

-- From the end of the first k bits of a text, 0 bits are passed up to the first 1 bit: how many bits stand up to that
-- 1, itself included. 0 where all are 0.
unfoldable pub up_to_last_one : List Bool → ℕ → ℕ
up_to_last_one x zero = 0
up_to_last_one x (suc k) = let rest = up_to_last_one x k in cond (get_or x k false) (suc k) rest

-- Padding is 1 to 128 bits long: nothing before these is looked at.
unfoldable pub last_block : List Bool → List Bool
last_block x = drop (length x - 128) x

-- All bits before the last block, and in it those before its last 1. That is none where the block is all 0, as it is
-- none where it is 80 and fifteen 00: `pred` of 0 and of 1 is 0.
unfoldable pub unpadded_length : List Bool → ℕ
unpadded_length x = (length x - 128) + pred (up_to_last_one (last_block x) 128)

-- Question 7, for unpad: a positive multiple of 128?
unfoldable pub whole_blocks : ℕ → Bool
whole_blocks count = leb 1 count && eqb (count % 128) 0

abbrev pub blocks_whole : ℕ → Question
blocks_whole count = record { yes = whole_blocks count; number = 7 }

-- Number 10 was a third question's, whether the text holds a 1 bit. It stays reserved, and no call asks it.
unfoldable pub unpad_questions : ℕ → ℕ → List Question
unpad_questions bytes count = bits_there max_bits bytes count ∷ blocks_whole count ∷ []

unfoldable pub unpad_number : ℕ → ℕ → ℕ
unpad_number bytes count = ask (unpad_questions bytes count)

pub record UnpaddedBy (input : List ℕ) (count : ℕ) (r : Unpadded) : Type 0 where
  pub answer : r.number ≡ unpad_number (length input) count
  pub size : r.bits ≡ cond (eqb (unpad_number (length input) count) 0) (unpadded_length (fed_text input count)) 0
