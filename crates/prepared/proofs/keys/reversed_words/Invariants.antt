-- The invariant: the words so far are in the order of decryption, and the others are zero (`FillLaws`). Assumes
-- nothing.
use mathlib.Core.Path.{◌≡◌}
use lib.ListN.{length}
use Rattle.prepared.specs.Inner.Parts.{Holds, reversed_rule, zero_from}
use Rattle.prepared.proofs.keys.reversed_words.Given as goal

abbrev pub invariant-loop-i : goal.invariant-loop-i
invariant-loop-i l = (length l.reversed ≡ 60) × Holds 60 (zero_from l.i (reversed_rule l.rounds l.keys)) l.reversed
