-- Lists of calls of any kind: each is made on the state that the one before it left.
use Rattle.std.specs.Prelude.{Bool, cond, List, [], ◌∷◌}

-- `Step s c next`: the call c, made on the state s, leaves the state `next`. A call is what was handed over and what
-- came back.
module _ {State Call : Type 0} (Step : State → Call → State → Type 0) where
  -- The calls, one after the other, take the state s to the state `end`.
  pub data Calls : State → List Call → State → Type 0 where
    empty : {s : State} → Calls s [] s
    call : {s next end : State} {c : Call} {cs : List Call} → Step s c next → Calls next cs end → Calls s (c ∷ cs) end

-- The calls of a list that pass a test, in order.
unfoldable pub those : {Call : Type 0} → (Call → Bool) → List Call → List Call
those test [] = []
those test (c ∷ cs) = cond (test c) (c ∷ those test cs) (those test cs)
