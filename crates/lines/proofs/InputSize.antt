-- How much of an input decides its answer: what was read when reading ended, or one byte more than the longest text of
-- the form. Assumes nothing.
use mathlib.Core.Path.{◌≡◌, refl}
use mathlib.Core.Bool.{Bool, true, false}
use mathlib.Core.List.{List}
use Prim.Native.Nat.{ℕ, ◌<◌}
use native.Mathlib.Omega.{arith}
use borrow.Author.Tests.{leb-true, leb-false}
use lib.Dec.{leb}
use lib.ListN.{length, take}
use lib.Seq.{take_all, length-take-le}
use Rattle.grammar.proofs.SizeLaws.{too_long}
use Rattle.grammar.proofs.EndedLaws.{ended_refuses}
use Rattle.lines.specs.Answer.{answer_to, answer_bytes, FrontDecides, EndDecides}

-- any count past the longest text of the form
front_of : (count : ℕ) → 8461 < count → (s : List ℕ) → answer_bytes (take count s) ≡ answer_bytes s
unfolding answer_bytes
front_of count past s = by_length (leb (length s) count) refl
  where
    by_length : (b : Bool) → leb (length s) count ≡ b → answer_bytes (take count s) ≡ answer_bytes s
    by_length true e = rw (take_all count s (leb-true _ _ e))
    by_length false e =
        let long = leb-false (length s) count e in
        rw (too_long s (omega arith), too_long (take count s) (rw (length-take-le count s (omega arith)) (omega arith)))

pub front_decides : FrontDecides
unfolding FrontDecides
front_decides = front_of 8462 (omega arith)

pub end_decides : EndDecides
unfolding EndDecides answer_bytes answer_to
end_decides front more e = rw (ended_refuses front more e)
