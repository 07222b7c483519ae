-- What holds of lists of calls, whatever the step is.
use Rattle.std.specs.Prelude.{◌≡◌, Bool, false, List, ◌++◌}
use Rattle.calls.specs.Calls.{Calls, those}

-- A state in which one list ends and another begins.
pub record Between {State Call : Type 0} (Step : State → Call → State → Type 0) (s : State) (before after : List Call) (end : State) : Type 0 where
  pub state : State
  pub up_to : Calls Step s before state
  pub from_there : Calls Step state after end

module _ {State Call : Type 0} (Step : State → Call → State → Type 0) where
  -- Two lists, the second from where the first ended, are one, and one list is its two parts wherever it is cut.
  unfoldable pub Joins : Type 0
  Joins = (s middle end : State) (before after : List Call) → Calls Step s before middle → Calls Step middle after end → Calls Step s (before ++ after) end

  unfoldable pub Parts : Type 0
  Parts = (s end : State) (before after : List Call) → Calls Step s (before ++ after) end → Between Step s before after end

  -- Where a call leaves one state only, so does a list.
  unfoldable pub OneLast : Type 0
  OneLast =
      ((s next other : State) (c : Call) → Step s c next → Step s c other → next ≡ other)
      → (s end other : State) (calls : List Call) → Calls Step s calls end → Calls Step s calls other → end ≡ other

  -- What each call keeps, a list keeps.
  unfoldable pub Keeps : Type 1
  Keeps =
      (P : State → Type 0) → ((s next : State) (c : Call) → Step s c next → P s → P next)
      → (s end : State) (calls : List Call) → Calls Step s calls end → P s → P end

  -- Where a refused call leaves the state as it was, the accepted calls of a list, alone, lead where the list leads.
  unfoldable pub RefusedLeftOut : Type 0
  RefusedLeftOut =
      (accepted : Call → Bool) → ((s next : State) (c : Call) → Step s c next → accepted c ≡ false → next ≡ s)
      → (s end : State) (calls : List Call) → Calls Step s calls end → Calls Step s (those accepted calls) end
