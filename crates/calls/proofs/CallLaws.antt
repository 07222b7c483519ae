-- Lists of calls joined and split, their last state, what they keep, and the refused ones left out. Assumes nothing.
use mathlib.Core.Path.{◌≡◌, refl}
use mathlib.Core.Bool.{Bool, true, false, cond}
use mathlib.Core.List.{List, [], ◌∷◌, ◌++◌}
use Rattle.calls.specs.Calls.{Calls, empty, call, those}
use Rattle.calls.specs.Promises.{Between, Joins, Parts, OneLast, Keeps, RefusedLeftOut}

module _ {State Call : Type 0} {Step : State → Call → State → Type 0} where
  pub joined : {s middle end : State} {before after : List Call} → Calls Step s before middle → Calls Step middle after end → Calls Step s (before ++ after) end
  joined empty rest = rest
  joined (call here calls) rest = call here (joined calls rest)

  pub parted : {s end : State} (before : List Call) {after : List Call} → Calls Step s (before ++ after) end → Between Step s before after end
  parted {s} [] calls = record { state = s; up_to = empty; from_there = calls }
  parted {s = s} {end = end} (c ∷ before) {after = after} (call {next = next} here calls) =
      let rest = parted {s = next} before calls in
      record { state = rest.state; up_to = call here rest.up_to; from_there = rest.from_there }

  pub same-last : ((s next other : State) (c : Call) → Step s c next → Step s c other → next ≡ other)
      → {s end other : State} {calls : List Call} → Calls Step s calls end → Calls Step s calls other → end ≡ other
  same-last one empty empty = refl
  same-last one (call {s = s} {next = next} {c = c} here calls) (call {next = next'} there others) =
      same-last one calls (rw (one s next' next c there here) at others)

  pub kept : {P : State → Type 0} → ((s next : State) (c : Call) → Step s c next → P s → P next)
      → {s end : State} {calls : List Call} → Calls Step s calls end → P s → P end
  kept step empty before = before
  kept step (call {s = s} {next = next} {c = c} here calls) before = kept step calls (step s next c here before)

  pub left_out : {accepted : Call → Bool} → ((s next : State) (c : Call) → Step s c next → accepted c ≡ false → next ≡ s)
      → {s end : State} {calls : List Call} → Calls Step s calls end → Calls Step s (those accepted calls) end
  unfolding those
  left_out unchanged empty = empty
  left_out {accepted} unchanged {end = end} (call {s = s} {next = next} {c = c} {cs = cs} here calls) =
      by_answer (accepted c) refl (left_out unchanged calls)
    where
      by_answer : (b : Bool) → accepted c ≡ b → Calls Step next (those accepted cs) end
          → Calls Step s (cond b (c ∷ those accepted cs) (those accepted cs)) end
      by_answer true e rest = call here rest
      by_answer false e rest = rw (unchanged s next c here e) at rest

module _ {State Call : Type 0} (Step : State → Call → State → Type 0) where
  pub joins : Joins Step
  unfolding Joins
  joins s middle end before after = joined

  pub parts : Parts Step
  unfolding Parts
  parts s end before after = parted before

  pub one_last : OneLast Step
  unfolding OneLast
  one_last one s end other calls = same-last one

  pub keeps : Keeps Step
  unfolding Keeps
  keeps P step s end calls = kept step

  pub refused-left-out : RefusedLeftOut Step
  unfolding RefusedLeftOut
  refused-left-out accepted unchanged s end calls = left_out unchanged
