-- The questions that the release before request 07 asked: document 01, "Questions before work", and request 05's,
-- written out. No test and no limit of today's is named here: where today's change, these stay.
use Rattle.std.specs.Prelude.{ℕ, ◌+◌, ◌-◌, ◌*◌, ◌/◌, ◌%◌, ◌^◌, Bool, true, not, ◌&&◌, ◌||◌, List, [], ◌∷◌, leb, eqb, length}
use Rattle.rules.specs.declared.Mode.{Mode}
use Rattle.rules.specs.declared.Mode.TheVariants.{Ecb, Cbc, Cfb, Ofb, Ctr}
use Rattle.questions.specs.Questions.{Question}
use Rattle.carry.specs.declared.Session32.{Session32}

-- ---- the limits

-- The largest feed, in bits.
abbrev pub older_max_bits : ℕ
older_max_bits = 524288

-- The most units that a session of that release did: the largest number of 32 bits.
abbrev pub older_max_units : ℕ
older_max_units = 4294967295

-- ---- the tests

-- 2. Is the IV 16 bytes long (0 bytes in ECB)?
unfoldable pub older_iv : Mode → List ℕ → Bool
older_iv Ecb iv = eqb (length iv) 0
older_iv Cbc iv = eqb (length iv) 16
older_iv Cfb iv = eqb (length iv) 16
older_iv Ofb iv = eqb (length iv) 16
older_iv Ctr iv = eqb (length iv) 16

-- 3. Is n from 1 to 128 in CFB, and 128 elsewhere?
unfoldable pub older_n : Mode → ℕ → Bool
older_n Ecb n = eqb n 128
older_n Cbc n = eqb n 128
older_n Cfb n = leb 1 n && leb n 128
older_n Ofb n = eqb n 128
older_n Ctr n = eqb n 128

-- 14. Is m from 1 to 128 in CTR, and 128 elsewhere?
unfoldable pub older_m : Mode → ℕ → Bool
older_m Ecb m = eqb m 128
older_m Cbc m = eqb m 128
older_m Cfb m = eqb m 128
older_m Ofb m = eqb m 128
older_m Ctr m = leb 1 m && leb m 128

-- 7. Are the bits whole units in ECB, CBC and CFB?
unfoldable pub older_whole : Mode → ℕ → ℕ → Bool
older_whole Ecb n count = eqb (count % n) 0
older_whole Cbc n count = eqb (count % n) 0
older_whole Cfb n count = eqb (count % n) 0
older_whole Ofb n count = true
older_whole Ctr n count = true

-- The units of `count` bits, a short last one included.
unfoldable pub older_units : ℕ → ℕ → ℕ
older_units n count = (count + (n - 1)) / n

-- ---- the calls' lists

-- Of an opening.
unfoldable pub older_open_questions : Mode → ℕ → ℕ → List ℕ → List ℕ → List Question
older_open_questions mode n m key iv =
    record { yes = eqb (length key) 16 || eqb (length key) 24 || eqb (length key) 32; number = 1 }
    ∷ record { yes = older_iv mode iv; number = 2 }
    ∷ record { yes = older_n mode n; number = 3 }
    ∷ record { yes = older_m mode m; number = 14 }
    ∷ []

-- Of a feed on the session s: input bytes, bits, output bytes, place.
unfoldable pub older_questions : Session32 → ℕ → ℕ → ℕ → ℕ → List Question
older_questions s bytes count size place =
    record { yes = (eqb s.rounds 10 || eqb s.rounds 12 || eqb s.rounds 14) && older_n s.mode s.n && older_m s.mode s.m; number = 4 }
    ∷ record { yes = not s.closed; number = 5 }
    ∷ record { yes = leb count (8 * bytes) && leb count older_max_bits; number = 6 }
    ∷ record { yes = older_whole s.mode s.n count; number = 7 }
    ∷ record { yes = leb place size && leb ((count + 7) / 8) (size - place); number = 8 }
    ∷ record { yes = leb (s.units + older_units s.n count) older_max_units; number = 9 }
    ∷ record { yes = leb (s.units + older_units s.n count) (2 ^ s.m); number = 15 }
    ∷ []
