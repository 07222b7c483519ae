-- What owning an array of bytes shows: each of its numbers is a byte. `search array_bytes` finds the rest in what a
-- goal is handed. Assumes nothing.
use mathlib.Core.List.{List, map}
use Prim.Native.Nat.{ℕ}
use mir.Syntax.{w8}
use mir.Val.{Val, Fits}
use denote.Array.{each}
use denote.Shadow.{shadow}
use denote.Plain.{UInt}
use borrow.Author.Rules.{elem_Fits, elem_fits_field}
use lib.ListN.{get_or}
use Rattle.bits.specs.Blocks.{Bytes}

pub array_bytes : (xs : List ℕ) (us : List Val) → shadow (each ℕ (UInt w8).own_val xs us) → Bytes xs
array_bytes xs us p = record { byte = λ i. (elem_Fits w8 w8 xs us i p tt).fits }

-- the same of an array that is a field of a struct
pub field_bytes : (xs : List ℕ) (us : List Val) → shadow (each ℕ (UInt w8).own_val (map (λ (v : ℕ). v) xs) us) → Bytes xs
field_bytes xs us p = record { byte = λ i. (elem_fits_field w8 w8 xs us i p tt).fits }

-- the same of a slice
pub slice_bytes : (xs : List ℕ) → ((i : ℕ) → Fits w8 (get_or xs i 0)) → Bytes xs
slice_bytes xs h = record { byte = λ i. (h i).fits }
