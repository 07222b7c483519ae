-- A bound of a call's numbers: one computed test over its list. Assumes nothing.
use Prim.Native.Nat.{ℕ, ◌<◌}
use mathlib.Core.Path.{◌≡◌}
use mathlib.Core.Bool.{Bool, true, false, cond, ◌&&◌, and-eq-true_iff}
use mathlib.Core.List.{List, [], ◌∷◌}
use borrow.Author.Tests.{ltb-true}
use lib.Dec.{ltb}
use Rattle.questions.specs.Questions.{Question, ask}

-- Is each number of the list below the bound?
abbrev pub all_below : ℕ → List Question → Bool
all_below bound [] = true
all_below bound (q ∷ qs) = ltb q.number bound && all_below bound qs

pub ask_below : (bound : ℕ) → 0 < bound → (qs : List Question) → all_below bound qs ≡ true → ask qs < bound
unfolding ask
ask_below bound some [] test = some
ask_below bound some (q ∷ qs) test =
    let (here, rest) = (and-eq-true_iff (ltb q.number bound) (all_below bound qs)).0 test in
    by_answer q.yes (ltb-true q.number bound here) (ask_below bound some qs rest)
  where
    by_answer : (b : Bool) → q.number < bound → ask qs < bound → cond b (ask qs) q.number < bound
    by_answer true here rest = rest
    by_answer false here rest = here
