-- What owning a state by value gives: each of its numbers is a byte. `search state_bytes` finds the rest in what a need
-- is handed. Assumes nothing.
use mathlib.Core.List.{List, [], ◌∷◌}
use Prim.Native.Nat.{ℕ, zero, suc, ◌<◌}
use native.Mathlib.Nat.{zero-lt-suc}
use mir.Syntax.{w8}
use mir.Val.{Val}
use denote.Array.{Array, each}
use denote.Shadow.{shadow}
use denote.Plain.{UInt}
use borrow.Author.Rules.{elem_Fits}
use Rattle.steps.specs.State.{at}
use Rattle.steps.proofs.StateLaws.{StateBytes}

owned_at : (xs : List (List ℕ)) (us : List Val) → shadow (each (List ℕ) (Array (UInt w8) 4).own_val xs us) → (r c : ℕ) → at xs r c < 256
unfolding at
owned_at [] us p r c = zero-lt-suc 255
owned_at (x ∷ xs) [] p r c = absurd p
owned_at (x ∷ xs) (u ∷ us) p zero c = (elem_Fits w8 w8 x p.0.0 c p.0.1.1 tt).fits
owned_at (x ∷ xs) (u ∷ us) p (suc r) c = owned_at xs us p.1 r c

pub state_bytes : (xs : List (List ℕ)) (us : List Val) → shadow (each (List ℕ) (Array (UInt w8) 4).own_val xs us) → StateBytes xs
state_bytes xs us p = record { byte = owned_at xs us p }
