-- What a call's number says.
use Rattle.std.specs.Prelude.{ℕ, ◌<◌, ◌≡◌, ◌↔◌, true, false, List, [], ◌∷◌}
use Rattle.questions.specs.Questions.{Question, ask}

-- The number is that of the first question answered 'no': those before it are answered 'yes'.
pub data FirstNo : List Question → ℕ → Type 0 where
  all_yes : FirstNo [] 0
  here : {q : Question} {qs : List Question} → q.yes ≡ false → FirstNo (q ∷ qs) q.number
  later : {q : Question} {qs : List Question} {k : ℕ} → q.yes ≡ true → FirstNo qs k → FirstNo (q ∷ qs) k

unfoldable pub NumberIsFirstNo : Type 0
NumberIsFirstNo = (qs : List Question) → FirstNo qs (ask qs)

-- Every number of the list is above 0.
abbrev pub Numbered : List Question → Type 0
Numbered [] = Unit {0}
Numbered (q ∷ qs) = (0 < q.number) × Numbered qs

-- Every question of the list is answered 'yes'.
abbrev pub AllYes : List Question → Type 0
AllYes [] = Unit {0}
AllYes (q ∷ qs) = (q.yes ≡ true) × AllYes qs

-- Document 01: '0 is success'. Over any list of questions with numbers above 0: the number is 0 exactly where every
-- answer is 'yes'.
unfoldable pub AcceptedExactly : Type 0
AcceptedExactly = (qs : List Question) → Numbered qs → (ask qs ≡ 0) ↔ AllYes qs
