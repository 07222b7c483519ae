-- Document 01, "Questions before work": each question is a Bool, each call has its list of them, and the first 'no'
-- gives the number.
use Rattle.std.specs.Prelude.{ℕ, ◌+◌, ◌-◌, ◌*◌, ◌^◌, Bool, cond, not, ◌&&◌, List, [], ◌∷◌, ◌++◌, leb, eqb, length}
use Rattle.bits.specs.Texts.{bytes_for}
use Rattle.cipher.specs.Cipher.{rounds_ok}
use Rattle.aes.specs.Calls.{key_ok, bad_key}
use Rattle.rules.specs.declared.Mode.{Mode}
use Rattle.rules.specs.declared.Mode.TheVariants.{Ecb, Cbc, Cfb, Ofb, Ctr}
use Rattle.rules.specs.Lengths.{unit_length_ok, counter_length_ok, whole_units}
use Rattle.rules.specs.Rules.{units_in}

-- A question's answer, and the number where it is 'no'.
pub record Question : Type 0 where
  pub yes : Bool
  pub number : ℕ

-- The number of the first 'no'; 0 is success.
unfoldable pub ask : List Question → ℕ
ask [] = 0
ask (q ∷ qs) = cond q.yes (ask qs) q.number

-- ---- the limits

-- The largest feed, in bits.
abbrev pub max_bits : ℕ
max_bits = 524288

-- The most units that a session does: the largest number of 64 bits.
abbrev pub max_units : ℕ
max_units = 18446744073709551615

-- ---- the questions, each a row: its test and its number

-- 1. Is the key 16, 24 or 32 bytes long?
abbrev pub key_length : List ℕ → Question
key_length key = record { yes = key_ok key; number = bad_key }

-- 2. Is the IV 16 bytes long (0 bytes in ECB)?
abbrev pub iv_bytes : Mode → ℕ
iv_bytes Ecb = 0
iv_bytes Cbc = 16
iv_bytes Cfb = 16
iv_bytes Ofb = 16
iv_bytes Ctr = 16

unfoldable pub iv_ok : Mode → List ℕ → Bool
iv_ok mode iv = eqb (length iv) (iv_bytes mode)

abbrev pub iv_length : Mode → List ℕ → Question
iv_length mode iv = record { yes = iv_ok mode iv; number = 2 }

-- 3. Is n from 1 to 128 in CFB, and 128 elsewhere?
abbrev pub unit_length : Mode → ℕ → Question
unit_length mode n = record { yes = unit_length_ok mode n; number = 3 }

-- 4. Are the session's rounds 10, 12 or 14, its n as in question 3 and its m as in question 14?
unfoldable pub session_ok : Mode → ℕ → ℕ → ℕ → Bool
session_ok mode rounds n m = rounds_ok rounds && unit_length_ok mode n && counter_length_ok mode m

abbrev pub session_good : Mode → ℕ → ℕ → ℕ → Question
session_good mode rounds n m = record { yes = session_ok mode rounds n m; number = 4 }

-- 5. Is the session not closed?
abbrev pub not_closed : Bool → Question
not_closed closed = record { yes = not closed; number = 5 }

-- 6. Are the bits at most 8 × input bytes and the limit?
unfoldable pub bits_ok : ℕ → ℕ → ℕ → Bool
bits_ok limit bytes bits = leb bits (8 * bytes) && leb bits limit

abbrev pub bits_there : ℕ → ℕ → ℕ → Question
bits_there limit bytes bits = record { yes = bits_ok limit bytes bits; number = 6 }

-- 7. Are the bits whole units in ECB, CBC and CFB?
abbrev pub units_whole : Mode → ℕ → ℕ → Question
units_whole mode n bits = record { yes = whole_units mode n bits; number = 7 }

-- 8. Is the output place at most the output's length, with enough bytes from there for all that would be written?
unfoldable pub room_ok : ℕ → ℕ → ℕ → Bool
room_ok size place bytes = leb place size && leb bytes (size - place)

abbrev pub room : ℕ → ℕ → ℕ → Question
room size place bytes = record { yes = room_ok size place bytes; number = 8 }

-- 9. Are units done plus new units at most the limit?
unfoldable pub units_ok : ℕ → ℕ → ℕ → Bool
units_ok limit done new = leb (done + new) limit

abbrev pub unit_limit : ℕ → ℕ → ℕ → Question
unit_limit limit done new = record { yes = units_ok limit done new; number = 9 }

-- 12. Has the text program's input its form? The test is its parser's.
abbrev pub not_formed : ℕ
not_formed = 12

-- 14. Is m from 1 to 128 in CTR, and 128 elsewhere?
abbrev pub counter_length : Mode → ℕ → Question
counter_length mode m = record { yes = counter_length_ok mode m; number = 14 }

-- 15. Are units done plus new units at most the counter blocks that m bits have?
unfoldable pub counters_ok : ℕ → ℕ → ℕ → Bool
counters_ok m done new = leb (done + new) (2 ^ m)

abbrev pub counter_limit : ℕ → ℕ → ℕ → Question
counter_limit m done new = record { yes = counters_ok m done new; number = 15 }

-- ---- the calls' lists

unfoldable pub open_questions : Mode → ℕ → ℕ → List ℕ → List ℕ → List Question
open_questions mode n m key iv = key_length key ∷ iv_length mode iv ∷ unit_length mode n ∷ counter_length mode m ∷ []

-- Of a feed's text: mode and n, input bytes, bits, output bytes, place.
abbrev pub text_questions : Mode → ℕ → ℕ → ℕ → ℕ → ℕ → List Question
text_questions mode n bytes bits size place = bits_there max_bits bytes bits ∷ units_whole mode n bits ∷ room size place (bytes_for bits) ∷ []

-- Of a feed, before units are counted: the session's mode, rounds, n, m and closing, and the text's.
abbrev pub feed_questions_to8 : Mode → ℕ → ℕ → ℕ → Bool → ℕ → ℕ → ℕ → ℕ → List Question
feed_questions_to8 mode rounds n m closed bytes bits size place =
    session_good mode rounds n m ∷ not_closed closed ∷ text_questions mode n bytes bits size place

-- Of a feed's units, where a session may do `limit` of them: those done, and the new ones.
abbrev pub unit_questions : ℕ → ℕ → ℕ → ℕ → List Question
unit_questions limit m done new = unit_limit limit done new ∷ counter_limit m done new ∷ []

-- Of a feed, where a session may do `limit` units: those, and the session's units.
unfoldable pub feed_questions : ℕ → Mode → ℕ → ℕ → ℕ → Bool → ℕ → ℕ → ℕ → ℕ → ℕ → List Question
feed_questions limit mode rounds n m closed units bytes bits size place =
    feed_questions_to8 mode rounds n m closed bytes bits size place ++ unit_questions limit m units (units_in n bits)
