-- What unpad cuts off a text: there is one such cut, and of a padded text it is the padding. Assumes nothing.
use Prim.Native.Nat.{ℕ, suc, pred, ◌+◌, ◌-◌, ◌≤◌, ◌<◌}
use mathlib.Core.Path.{◌≡◌, refl, sym, ap, ◌∙◌}
use mathlib.Core.Bool.{Bool, true, false}
use mathlib.Core.List.{List, ◌∷◌}
use native.Mathlib.Omega.{arith}
use borrow.Author.Tests.{ltb-true, ltb-false}
use lib.Dec.{ltb}
use lib.ListN.{length, get_or, drop, replicate, get_or-replicate}
use lib.Seq.{get_or-drop, get_or-append_seam, get_or-append-add}
use Rattle.padding.specs.Padding.{zeros_for, padded, padded_length, up_to_last_one, last_block, unpadded_length}
use Rattle.padding.specs.Promises.{Cut}
use Rattle.padding.proofs.PadLaws.{length-padded}
use Rattle.padding.proofs.OneLaws.{at_most, zeros_passed_by, one_found_at}

module _ (x : List Bool) where
  pub cut : 128 ≤ length x → Cut x (unpadded_length x)
  unfolding unpadded_length last_block
  cut block =
      let m = length x - 128 in
      let last = pred (up_to_last_one (drop m x) 128) in
      let h = at_most (drop m x) 128 in
      record {
        before_end = omega arith;
        in_last_block = omega arith;
        zeros_behind = λ i after before.
            let e : i ≡ m + (i - m) = omega arith in
            ap (λ (k : ℕ). get_or x k false) e ∙ sym (get_or-drop m x (i - m) false) ∙ zeros_passed_by (drop m x) 128 (i - m) (omega arith) (omega arith);
        one_there = λ inside. sym (get_or-drop m x last false) ∙ one_found_at (drop m x) 128 last (omega arith);
      }

  -- a later cut would be at a 1, which stands after the earlier one
  no-later : (k l : ℕ) → Cut x k → Cut x l → k < l → k ≡ l
  no-later k l a b less =
      let one = b.one_there (omega arith) in
      let zero = a.zeros_behind l less b.before_end in
      cc

  pub one-cut : (k l : ℕ) → Cut x k → Cut x l → k ≡ l
  one-cut k l a b = go (ltb k l) (ltb l k) refl refl
    where
      go : (s t : Bool) → ltb k l ≡ s → ltb l k ≡ t → k ≡ l
      go true t e f = no-later k l a b (ltb-true k l e)
      go false true e f = sym (no-later l k b a (ltb-true l k f))
      go false false e f = omega (arith, ltb-false k l e, ltb-false l k f)

  pub padded-cut : Cut (padded x) (length x)
  unfolding padded padded_length zeros_for
  padded-cut =
      let n = length-padded x in
      let zeros = replicate (zeros_for (length x)) false in
      record {
        before_end = omega arith;
        in_last_block = omega arith;
        zeros_behind = λ i after before.
            let j = i - suc (length x) in
            let e : i ≡ length x + suc j = omega arith in
            ap (λ (k : ℕ). get_or (padded x) k false) e ∙ get_or-append-add x (true ∷ zeros) (suc j) false ∙ get_or-replicate (zeros_for (length x)) j false false (omega arith);
        one_there = λ inside. get_or-append_seam x true zeros false;
      }
