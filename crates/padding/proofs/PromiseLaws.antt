-- The promises of padded texts. Assumes nothing.
use Prim.Native.Nat.{ℕ, ◌-◌, ◌*◌, ◌≤◌}
use mathlib.Core.Path.{◌≡◌, sym, ◌∙◌}
use mathlib.Core.Bool.{Bool, true}
use mathlib.Core.List.{List}
use native.Mathlib.Omega.{arith}
use borrow.Author.Tests.{eq-eqb, ne_eqb}
use lib.Dec.{eqb}
use lib.ListN.{length, drop}
use Rattle.bits.specs.Texts.{bytes_for}
use Rattle.modes.specs.Sessions.{fed_text, written}
use Rattle.padding.specs.Padding.{Unpadded}
use Rattle.padding.specs.Padding.{zeros_for, padded, padded_length, max_pad_bits, pad_number, unpadded_length, unpad_number, UnpaddedBy}
use Rattle.padding.specs.Promises.{PaddedWhole, UnpadsPadded, PadRefusedUnchanged, UnpadRefusedZero, UnpadAfterPad}
use Rattle.padding.proofs.PadLaws.{length-padded, padded_whole, padded_limit, length_fed, written-fed, written-there}
use Rattle.padding.proofs.CutLaws.{cut, one-cut, padded-cut}
use Rattle.padding.proofs.AnswerLaws.{pad_taken, unpad_takes}

pub padded_texts_whole : PaddedWhole
unfolding PaddedWhole padded_length zeros_for
padded_texts_whole x =
    let e = length-padded x in
    record { multiple = rw e (padded_whole (length x)); longer = rw e (omega arith); at_most = rw e (omega arith); fewest = λ z h. omega arith }

pub unpads_padded : UnpadsPadded
unfolding UnpadsPadded PaddedWhole
unpads_padded x =
    let w = padded_texts_whole x in
    one-cut (padded x) (unpadded_length (padded x)) (length x) (cut (padded x) (omega (arith, w.multiple))) (padded-cut x)

pub pad_refused_unchanged : PadRefusedUnchanged
unfolding PadRefusedUnchanged
pad_refused_unchanged input count out place r after by refused =
    let no = ne_eqb (pad_number (length input) count (length out) place) 0 (λ e. refused (by.answer ∙ e)) in
    (rw no at by.size, rw no at by.output)

pub unpad_refused_zero : UnpadRefusedZero
unfolding UnpadRefusedZero
unpad_refused_zero input count r by refused = rw (ne_eqb (unpad_number (length input) count) 0 (λ e. refused (by.answer ∙ e))) at by.size

-- unpad, handed a padded text
module _ (s : List ℕ) (x : List Bool) (handed : fed_text s (length (padded x)) ≡ padded x) (there : length (padded x) ≤ 8 * length s) (limit : length x ≤ max_pad_bits) where
  unpad-number : unpad_number (length s) (length (padded x)) ≡ 0
  unfolding PaddedWhole
  unpad-number =
      let w = padded_texts_whole x in
      unpad_takes (length s) (length (padded x)) (omega arith) w.multiple there (rw length-padded (padded_limit (length x) limit))

  unpadded-text : (u : Unpadded) → UnpaddedBy s (length (padded x)) u → (u.number ≡ 0) × (u.bits ≡ length x)
  unfolding UnpadsPadded
  unpadded-text u by =
      (by.answer ∙ unpad-number, by.size ∙ rw (eq-eqb _ 0 unpad-number, handed, unpads_padded x))

pub unpad_after_pad : UnpadAfterPad
unfolding UnpadAfterPad
unpad_after_pad input count out place r after u by accepted unpadded =
    let zero : pad_number (length input) count (length out) place ≡ 0 = sym by.answer ∙ accepted in
    let e : eqb (pad_number (length input) count (length out) place) 0 ≡ true = eq-eqb _ 0 zero in
    let g = pad_taken (length input) count (length out) place zero in
    let x = fed_text input count in
    let n : length x ≡ count = length_fed input count g.there in
    let size : r.bits ≡ length (padded x) = rw e at by.size in
    let output : after ≡ written out place (padded x) = rw e at by.output in
    let room : bytes_for (length (padded x)) ≤ length out - place = rw (length-padded x, n) g.room in
    let handed = written-fed out place (padded x) g.inside room in
    let there = written-there out place (padded x) g.inside room in
    let answer = unpadded-text (drop place (written out place (padded x))) x handed there (omega arith) u (rw (size, output) at unpadded) in
    (answer.0, answer.1 ∙ n)
