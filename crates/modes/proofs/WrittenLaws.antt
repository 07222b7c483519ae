-- Bytes written into an output from a place on: what is before and after them stays, they hold the text, and their
-- spare bits are 0. Assumes nothing.
use Prim.Native.Nat.{ℕ, ◌+◌, ◌-◌, ◌*◌, ◌≤◌, ◌<◌}
use mathlib.Core.Path.{◌≡◌, ◌∙◌}
use mathlib.Core.Bool.{Bool, false}
use mathlib.Core.List.{List, ◌++◌, append_assoc}
use native.Mathlib.Nat.{add-sub_of_le}
use native.Mathlib.Omega.{arith}
use lib.ListN.{length, get_or, take, drop, length-append, length-drop, get_or-replicate, get_or-append}
use lib.Seq.{length-take-le, take_at, drop_at, get_or-append-add}
use Rattle.bits.specs.Texts.{bits, bytes_for, pack}
use Rattle.bits.proofs.Texts.{bits-append, length-bits, length-pack, bits-pack_pad, take-bits_packed}
use Rattle.modes.specs.Sessions.{written}

-- the spare bits of a packed text
packed_spare : (x : List Bool) (b : ℕ) → length x ≤ b → b < bytes_for (length x) * 8 → get_or (bits (pack x)) b false ≡ false
packed_spare x b past short =
    rw (bits-pack_pad, ← add-sub_of_le past, get_or-append-add) (get_or-replicate (bytes_for (length x) * 8 - length x) (b - length x) false false (omega arith))

module _ (out : List ℕ) (place : ℕ) (x : List Bool) (inside : place ≤ length out) where
  front : length (take place out) ≡ place
  front = length-take-le place out inside

  -- from the place on
  pub written_from : drop place (written out place x) ≡ pack x ++ drop (place + length (pack x)) out
  unfolding written
  written_from = rw append_assoc (drop_at (take place out) (pack x ++ drop (place + length (pack x)) out) place front)

  pub written-before : take place (written out place x) ≡ take place out
  unfolding written
  written-before = rw append_assoc (take_at (take place out) (pack x ++ drop (place + length (pack x)) out) place front)

  pub written_behind : drop (place + bytes_for (length x)) (written out place x) ≡ drop (place + bytes_for (length x)) out
  unfolding written
  written_behind =
      drop_at (take place out ++ pack x) (drop (place + length (pack x)) out) (place + bytes_for (length x))
      (simp (length-append, front, length-pack))
      ∙ rw length-pack

  pub written-text : take (length x) (bits (drop place (written out place x))) ≡ x
  written-text = rw written_from (take-bits_packed x (drop (place + length (pack x)) out))

  pub written-spare : (b : ℕ) → length x ≤ b → b < bytes_for (length x) * 8 → get_or (bits (drop place (written out place x))) b false ≡ false
  written-spare b past short =
      rw (written_from, bits-append, get_or-append (bits (pack x)) (bits (drop (place + length (pack x)) out)) false b (simp (length-bits, length-pack) short))
      (packed_spare x b past short)

  pub written-size : bytes_for (length x) ≤ length out - place → length (written out place x) ≡ length out
  unfolding written
  written-size room = simp (length-append, length-drop, front, length-pack) (omega arith)
