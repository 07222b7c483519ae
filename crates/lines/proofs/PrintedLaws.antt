-- Which numbers are printed: of a session just opened, fed all the data into as much room, every question but 7 is
-- answered 'yes'. The line of 12 differs from the others in its second byte. Assumes nothing.
use mathlib.Core.Path.{◌≡◌, refl}
use mathlib.Core.Bool.{Bool, true, false, cond}
use mathlib.Core.List.{List, [], ◌∷◌}
use Rattle.std.specs.Prelude.{Option, None, Some}
use Prim.Native.Nat.{ℕ, ◌+◌, ◌-◌, ◌*◌, ◌≤◌, ◌<◌}
use native.Mathlib.Omega.{arith}
use borrow.Author.Tests.{leb-false, le-leb}
use lib.Dec.{leb, eqb}
use lib.ListN.{length, get_or}
use Rattle.bits.specs.Texts.{bytes_for}
use Rattle.bits.proofs.Texts.{bytes_for_whole}
use Rattle.digits.specs.Texts.{decimal_text, digit}
use Rattle.rules.specs.declared.Mode.{Mode}
use Rattle.rules.specs.declared.Direction.{Direction}
use Rattle.rules.specs.Lengths.{unit_length_ok, counter_length_ok, whole_units}
use Rattle.rules.specs.Rules.{units_in}
use Rattle.rules.proofs.Counts.{unit_there}
use Rattle.rules.proofs.Taken.{unit_bounds}
use Rattle.questions.specs.Questions.{Question, ask, max_bits, max_units, iv_ok, bits_ok, room_ok, units_ok, open_questions, feed_questions}
use Rattle.questions.proofs.QuestionLaws.{counters_enough, OpeningTaken, opening_taken}
use Rattle.modes.specs.Sessions.{open_number, opened_session, feed_number_within, feed_number}
use Rattle.modes.proofs.OpeningLaws.{opened_good}
use Rattle.rules.proofs.LengthLaws.{whole_block}
use Rattle.grammar.specs.Grammar.{Request, request}
use Rattle.grammar.proofs.SizeLaws.{message_size}
use Rattle.lines.specs.Answer.{line_of, fed_line, request_line, answer_to, answer_bytes, Printed, accepted, key_refused, iv_refused, n_refused, bits_refused, form_refused, PrintsOneOfSix, NotFormedExactly}

-- ---- the questions of the feed

all_there : (bytes : ℕ) → bytes ≤ 4096 → bits_ok max_bits bytes (bytes * 8) ≡ true
unfolding bits_ok
all_there bytes few = rw (le-leb (bytes * 8) (8 * bytes) (omega arith), le-leb (bytes * 8) max_bits (omega arith))

as_much_room : (bytes : ℕ) → room_ok bytes 0 (bytes_for (bytes * 8)) ≡ true
unfolding room_ok
as_much_room bytes = rw (bytes_for_whole bytes, le-leb 0 bytes (omega arith), le-leb bytes (bytes - 0) (omega arith))

few_units : (n count : ℕ) → 0 < n → count ≤ max_bits → units_ok max_units 0 (units_in n count) ≡ true
unfolding units_ok
few_units n count pos few = by-test (leb (0 + units_in n count) max_units) refl
  where
    by-test : (t : Bool) → leb (0 + units_in n count) max_units ≡ t → t ≡ true
    by-test true e = refl
    by-test false e =
        let many : max_units < units_in n count = omega (arith, leb-false (0 + units_in n count) max_units e) in
        let long : max_units * n < count = (unit_there count max_units pos).0 many in
        absurd (omega arith)

first_feed : (mode : Mode) (dir : Direction) (n : ℕ) (key iv : List ℕ) (bytes : ℕ) → OpeningTaken mode n 128 key iv → bytes ≤ 4096
    → feed_number (opened_session mode dir n 128 key iv) bytes (bytes * 8) bytes 0 ≡ cond (whole_units mode n (bytes * 8)) 0 7
unfolding ask feed_number_within feed_questions opened_session
first_feed mode dir n key iv bytes taken few =
    let units = few_units n (bytes * 8) (unit_bounds mode n taken.unit).0 (omega arith) in
    rw (opened_good mode dir n 128 key iv taken, all_there bytes few, as_much_room bytes, units, counters_enough 128 0 (units_in n (bytes * 8)) (omega arith) units)

-- ---- the line

-- Of a text of the form. The second byte is a space or a line feed; in the line of 12 it is the digit 2.
abbrev FormedLine : List ℕ → Type 0
FormedLine line = Printed line × (get_or line 1 0 ≤ 32)

fed-line : (mode : Mode) (dir : Direction) (n : ℕ) (key iv message : List ℕ) → OpeningTaken mode n 128 key iv → length message ≤ 4096
    → FormedLine (fed_line (opened_session mode dir n 128 key iv) message)
unfolding fed_line line_of decimal_text digit
fed-line mode dir n key iv message taken few =
    rw (first_feed mode dir n key iv (length message) taken few) (by_units (whole_units mode n (length message * 8)) _)
  where
    by_units : (t : Bool) (bytes : List ℕ) → FormedLine (line_of (cond t 0 7) bytes)
    by_units true bytes = (accepted bytes, omega arith)
    by_units false bytes = (bits_refused, omega arith)

-- The opening's number, by the answers to questions 1, 2, 3 and 14.
abbrev opening : Bool → Bool → Bool → Bool → ℕ
opening key iv unit counter = cond key (cond iv (cond unit (cond counter 0 14) 3) 2) 1

opened_line : (key iv unit counter : Bool) → counter ≡ true → (line : List ℕ) → (opening key iv unit counter ≡ 0 → FormedLine line)
    → FormedLine (cond (eqb (opening key iv unit counter) 0) line (line_of (opening key iv unit counter) []))
unfolding line_of decimal_text digit
opened_line true true true true good line fed = fed refl
opened_line true true true false good line fed = absurd (let z : ◌≡◌ {A = ℕ} 0 1 = cc in omega arith)
opened_line true true false counter good line fed = (n_refused, omega arith)
opened_line true false unit counter good line fed = (iv_refused, omega arith)
opened_line false iv unit counter good line fed = (key_refused, omega arith)

abbrev first_answer : List Question → Bool
first_answer [] = true
first_answer (q ∷ qs) = q.yes

request-line : (q : Request) → length q.message ≤ 4096 → FormedLine (request_line q)
unfolding request_line open_number open_questions ask
request-line q few =
    opened_line (first_answer (open_questions q.mode q.n 128 q.key q.iv)) (iv_ok q.mode q.iv) (unit_length_ok q.mode q.n) (counter_length_ok q.mode 128) (whole_block q.mode) _
    (λ zero. fed-line q.mode q.direction q.n q.key q.iv q.message (opening_taken q.mode q.n 128 q.key q.iv zero) few)

-- The form bounds the data.
abbrev Few : Option Request → Type 0
Few o = (q : Request) → o ≡ Some q → length q.message ≤ 4096

answered : (o : Option Request) → Few o → Printed (answer_to o)
unfolding answer_to
answered None few = form_refused
answered (Some q) few = (request-line q (few q refl)).0

pub prints_one_of_six : PrintsOneOfSix
unfolding PrintsOneOfSix answer_bytes
prints_one_of_six input = answered (request input) (λ q e. message_size input e)

only_without_form : (line : List ℕ) → get_or line 1 0 ≡ 50 → (o : Option Request) → Few o → answer_to o ≡ line → o ≡ None
unfolding answer_to
only_without_form line two None few e = refl
only_without_form line two (Some q) few e = absurd (let low : get_or line 1 0 ≤ 32 = rw e at (request-line q (few q refl)).1 in omega arith)

pub not_formed_exactly : NotFormedExactly
unfolding NotFormedExactly answer_bytes answer_to line_of decimal_text digit
not_formed_exactly input = (only_without_form _ refl (request input) (λ q e. message_size input e), λ without. rw without refl)
