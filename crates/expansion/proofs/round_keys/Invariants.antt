-- The words so far, then 0 (`KeyLaws`). Assumes nothing.
use Rattle.std.proofs.Common.{◌≡◌, ◌-◌}
use Rattle.expansion.specs.KeyExpansion.{schedule}
use Rattle.expansion.proofs.Filled.{filled}
use Rattle.expansion.proofs.round_keys.Given as goal

abbrev pub invariant-loop-i : goal.invariant-loop-i
invariant-loop-i l = l.w ≡ filled (schedule l.nk l.key (l.i - l.nk))
