-- `digits::scan::up_to` meets its contract: the closure tests for `stop`. Assumes nothing.
use mathlib.Core.Path.{ap, ◌∙◌}
use lib.Dec.{eqb}
use lib.ListN.{length}
use Prim.Native.Nat.{ℕ}
use Rattle.std.proofs.Common.{rules, tests}
use Rattle.std.specs.Option.{unwrap_or}
use Rattle.std.proofs.lemmas.Iterator.{YieldsList-from_slice}
use Rattle.std.proofs.lemmas.Iterator.Search.{position_from_yields_List}
use Rattle.digits.proofs.ScanLaws.{upTo-position}
use Rattle.digits.proofs.scan.up_to.Goals as goal

pub returns : goal.returns
returns c =
    let s = c.args.s.now in
    let stop = c.args.stop in
    c.unwrap_or.ensures
    ∙ ap (λ r. unwrap_or r (length s))
    (position_from_yields_List (λ (b : ℕ). eqb b stop) _ _ c.position.result c.position.ensures.ran (YieldsList-from_slice s cc) (λ x b q k. search (rules, tests)))
    ∙ upTo-position stop s
