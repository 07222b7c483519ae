-- `bits::register::join` meets its contract: the second block begins where the first ends. Assumes nothing.
use mathlib.Core.Path.{refl, ap, ◌∙◌}
use mathlib.Core.List.{List, ◌++◌}
use Prim.Native.Nat.{ℕ}
use borrow.Author.Rules.{rules}
use lib.ListN.{replicate}
use Rattle.std.proofs.lemmas.Slice.{put_mid-paste}
use Rattle.bits.proofs.Fills.{pasted_after}
use Rattle.bits.proofs.register.join.Goals as goal

pub returns : goal.returns
returns c =
    let a = c.args.a in
    let b = c.args.b in
    put_mid-paste 16 16 _ _ b 16 c.copy_from_slice-2.ensures.after refl (search rules)
    ∙ pasted_after c.copy_from_slice.new.self (replicate 16 0) b (search rules) refl (search rules)
    ∙ ap (λ (l : List ℕ). l ++ b) c.copy_from_slice.ensures.after
