-- The older release's questions, test by test: they are today's with its limit. Assumes nothing.
use Prim.Native.Nat.{ℕ}
use mathlib.Core.Path.{◌≡◌, refl}
use mathlib.Core.Bool.{Bool, true, false, cond, ◌||◌}
use mathlib.Core.List.{List, ◌∷◌}
use Rattle.bits.specs.Texts.{bytes_for}
use Rattle.cipher.specs.Cipher.{rounds_ok}
use Rattle.aes.specs.Calls.{key_ok}
use Rattle.rules.specs.declared.Mode.{Mode}
use Rattle.rules.specs.declared.Mode.TheVariants.{Ecb, Cbc, Cfb, Ofb, Ctr}
use Rattle.rules.specs.Lengths.{unit_length_ok, counter_length_ok, whole_units}
use Rattle.rules.specs.Rules.{units_in}
use Rattle.questions.specs.Questions.{Question, iv_ok, session_ok, bits_ok, room_ok, units_ok, counters_ok, open_questions, feed_questions}
use Rattle.carry.specs.declared.Session32.{Session32}
use Rattle.carry.specs.OlderQuestions.{older_max_units, older_iv, older_n, older_m, older_whole, older_units, older_open_questions, older_questions}
use Rattle.carry.specs.Promises.{OlderAsks}

-- ---- the tests

one_of_three : (a b c : Bool) → (a || b || c) ≡ cond a true (cond b true c)
one_of_three true b c = refl
one_of_three false true c = refl
one_of_three false false c = refl

same-iv : (mode : Mode) (iv : List ℕ) → older_iv mode iv ≡ iv_ok mode iv
unfolding older_iv iv_ok
same-iv Ecb iv = refl
same-iv Cbc iv = refl
same-iv Cfb iv = refl
same-iv Ofb iv = refl
same-iv Ctr iv = refl

same_n : (mode : Mode) (n : ℕ) → older_n mode n ≡ unit_length_ok mode n
unfolding older_n unit_length_ok
same_n Ecb n = refl
same_n Cbc n = refl
same_n Cfb n = refl
same_n Ofb n = refl
same_n Ctr n = refl

same_m : (mode : Mode) (m : ℕ) → older_m mode m ≡ counter_length_ok mode m
unfolding older_m counter_length_ok
same_m Ecb m = refl
same_m Cbc m = refl
same_m Cfb m = refl
same_m Ofb m = refl
same_m Ctr m = refl

same_whole : (mode : Mode) (n count : ℕ) → older_whole mode n count ≡ whole_units mode n count
unfolding older_whole whole_units
same_whole Ecb n count = refl
same_whole Cbc n count = refl
same_whole Cfb n count = refl
same_whole Ofb n count = refl
same_whole Ctr n count = refl

-- ---- the lists

pub asked_open : (mode : Mode) (n m : ℕ) (key iv : List ℕ) → older_open_questions mode n m key iv ≡ open_questions mode n m key iv
unfolding older_open_questions open_questions key_ok
asked_open mode n m key iv = rw (one_of_three, same-iv mode iv, same_n mode n, same_m mode m) refl

-- The same test under the same number, before the same questions.
asked : (k : ℕ) {a b : Bool} {ps qs : List Question} → a ≡ b → ps ≡ qs
    → ◌≡◌ {A = List Question} (record { yes = a; number = k } ∷ ps) (record { yes = b; number = k } ∷ qs)
asked k test rest = rw (test, rest)

pub asked_feed : (s : Session32) (bytes count size place : ℕ)
    → older_questions s bytes count size place ≡ feed_questions older_max_units s.mode s.rounds s.n s.m s.closed s.units bytes count size place
unfolding older_questions feed_questions session_ok rounds_ok bits_ok room_ok bytes_for units_ok counters_ok older_units units_in
asked_feed s bytes count size place =
    asked 4 (rw (one_of_three, same_n s.mode s.n, same_m s.mode s.m) refl)
    (asked 5 refl (asked 6 refl (asked 7 (same_whole s.mode s.n count) (asked 8 refl (asked 9 refl (asked 15 refl refl))))))

pub older_asks : OlderAsks
older_asks = record { opening = asked_open; feed = asked_feed }
