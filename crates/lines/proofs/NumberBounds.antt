-- The numbers of a call's questions are below 100, so that they can be printed. Assumes nothing.
use Prim.Native.Nat.{ℕ, ◌<◌}
use mathlib.Core.Path.{refl}
use mathlib.Core.List.{List}
use native.Mathlib.Omega.{arith}
use Rattle.rules.specs.declared.Mode.{Mode}
use Rattle.modes.specs.declared.session.Session.{Session}
use Rattle.questions.specs.Questions.{max_units, open_questions, feed_questions}
use Rattle.questions.proofs.BoundLaws.{ask_below}
use Rattle.modes.specs.Sessions.{open_number, feed_number_within, feed_number}

pub open_prints : (mode : Mode) (n m : ℕ) (key iv : List ℕ) → open_number mode n m key iv < 100
unfolding open_number open_questions
open_prints mode n m key iv = ask_below 100 (omega arith) (open_questions mode n m key iv) refl

pub feed_prints : (s : Session) (bytes count size place : ℕ) → feed_number s bytes count size place < 100
unfolding feed_number_within feed_questions
feed_prints s bytes count size place =
    ask_below 100 (omega arith) (feed_questions max_units s.mode s.rounds s.n s.m s.closed s.units bytes count size place) refl
