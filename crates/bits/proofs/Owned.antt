-- What owning an array of bytes shows, as facts on blocks: `search arrays` finds `Bytes` or `Block` of an array, a
-- parameter, a call's result or a struct's field, in what a goal is handed. Assumes nothing.
use mathlib.Core.Path.{◌≡◌}
use mathlib.Core.List.{List, map}
use Prim.Native.Nat.{ℕ}
use borrow.Author.Rules.{length_unmapped}
use denote.Array.{each}
use denote.Shadow.{shadow}
use denote.Plain.{UInt}
use lib.ListN.{length}
use mir.Syntax.{w8}
use mir.Val.{Val}
use Rattle.bits.specs.Blocks.{Block}
use Rattle.bits.proofs.Arrays.{array_bytes, field_bytes, slice_bytes}

pub array_block : (xs : List ℕ) (us : List Val) → length xs ≡ 16 → shadow (each ℕ (UInt w8).own_val xs us) → Block xs
array_block xs us e h = record { size = e; bytes = array_bytes xs us h }

pub field_block : (xs : List ℕ) (us : List Val) → length (map (λ (v : ℕ). v) xs) ≡ 16
    → shadow (each ℕ (UInt w8).own_val (map (λ (v : ℕ). v) xs) us) → Block xs
field_block xs us e h = record { size = length_unmapped ℕ xs 16 e; bytes = field_bytes xs us h }

pub ruleset arrays = (array_bytes, field_bytes, slice_bytes, array_block, field_block)
