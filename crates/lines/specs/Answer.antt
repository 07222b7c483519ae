-- Document 01, "The text program": what it prints, for every input. The form is asked before all else, then it opens,
-- then it feeds all the data's bits at once, into as many bytes as the data has.
use Rattle.std.specs.Prelude.{ℕ, ◌*◌, ◌≡◌, ◌↔◌, true, cond, List, [], ◌∷◌, ◌++◌, Option, None, Some, eqb, length, take, drop}
use Rattle.bits.specs.Texts.{pack}
use Rattle.questions.specs.Questions.{not_formed}
use Rattle.modes.specs.declared.session.Session.{Session}
use Rattle.modes.specs.Sessions.{open_number, opened_session, fed_text, session_text, feed_number}
use Rattle.digits.specs.Texts.{hex_text, decimal_text}
use Rattle.grammar.specs.Grammar.{Request, request}
use Rattle.grammar.specs.Reading.{reading_ends}

-- The number and, for 0 only, a space and the bytes in digits; then a line feed.
unfoldable pub line_of : ℕ → List ℕ → List ℕ
line_of number bytes = decimal_text number ++ cond (eqb number 0) (32 ∷ hex_text bytes) [] ++ (10 ∷ [])

-- One feed of all the bits.
unfoldable pub fed_line : Session → List ℕ → List ℕ
fed_line s message =
    line_of (feed_number s (length message) (length message * 8) (length message) 0) (pack (session_text s (fed_text message (length message * 8))))

-- The feed is asked where the opening answers 0.
unfoldable pub request_line : Request → List ℕ
request_line q =
    let number = open_number q.mode q.n 128 q.key q.iv in
    cond (eqb number 0) (fed_line (opened_session q.mode q.direction q.n 128 q.key q.iv) q.message) (line_of number [])

-- Number 12 is a text that is not of the form.
unfoldable pub answer_to : Option Request → List ℕ
answer_to None = line_of not_formed []
answer_to (Some q) = request_line q

unfoldable pub answer_bytes : List ℕ → List ℕ
answer_bytes input = answer_to (request input)

-- A text of the form has at most 8,461 bytes, so the first 8,462 bytes of any input decide its answer.
unfoldable pub FrontDecides : Type 0
FrontDecides = (input : List ℕ) → answer_bytes (take 8462 input) ≡ answer_bytes input

-- Where reading has ended, the answer is 12 whatever would follow.
unfoldable pub EndDecides : Type 0
EndDecides = (front more : List ℕ) → reading_ends front ≡ true → answer_bytes (front ++ more) ≡ line_of not_formed []

-- What may be printed: 0 with bytes, or alone the number of question 1, 2, 3, 7 or 12. A session just opened, fed all
-- the data into as much room, meets no other 'no'.
pub data Printed : List ℕ → Type 0 where
  accepted : (bytes : List ℕ) → Printed (line_of 0 bytes)
  key_refused : Printed (line_of 1 [])
  iv_refused : Printed (line_of 2 [])
  n_refused : Printed (line_of 3 [])
  bits_refused : Printed (line_of 7 [])
  form_refused : Printed (line_of not_formed [])

unfoldable pub PrintsOneOfSix : Type 0
PrintsOneOfSix = (input : List ℕ) → Printed (answer_bytes input)

-- 12 is answered exactly where the text does not have the form.
unfoldable pub NotFormedExactly : Type 0
NotFormedExactly = (input : List ℕ) → (answer_bytes input ≡ line_of not_formed []) ↔ (request input ≡ None)

-- A text written to the front of `out`: how long it is, and the bytes past it as they were.
pub record Wrote (text out : List ℕ) (r : ℕ) (after : List ℕ) : Type 0 where
  pub count : r ≡ length text
  pub bytes : after ≡ text ++ drop (length text) out
