-- `padding::append::pad` meets its contract: what is accepted is what the writing asks for. Assumes nothing.
use mathlib.Core.Path.{sym, ap, ◌∙◌}
use mathlib.Core.List.{List, ◌++◌}
use Prim.Native.Nat.{ℕ}
use native.Mathlib.Omega.{arith}
use lib.ListN.{drop, length-take, length-drop}
use Rattle.bits.specs.Texts.{bytes_for, pack}
use Rattle.modes.specs.Sessions.{fed_text}
use Rattle.modes.proofs.AnswerLaws.{part_written}
use Rattle.modes.proofs.WorkLaws.{part_all}
use Rattle.padding.specs.Padding.{padded, padded_length}
use Rattle.padding.proofs.PadLaws.{padded_bytes}
use Rattle.padding.proofs.AnswerLaws.{pad_taken, pad-accepted}
use Rattle.padding.proofs.append.pad.Goals as goal

pub slice_bounds-put_padded-count : goal.slice_bounds-put_padded-count
slice_bounds-put_padded-count c = (pad_taken _ _ _ _ (sym c.in_ok-ask_pad.ensures)).inside

pub slice_bounds-put_padded-start : goal.slice_bounds-put_padded-start
slice_bounds-put_padded-start c = (pad_taken _ _ _ _ (sym c.in_ok-ask_pad.ensures)).inside

pub put_padded-requires : goal.put_padded-requires
put_padded-requires c =
    let taken = pad_taken _ _ _ _ (sym c.in_ok-ask_pad.ensures) in
    (taken.there, taken.limit, simp (length-take, length-drop) (omega (arith, taken.room)))

pub padded_bits-requires : goal.padded_bits-requires
padded_bits-requires c = (pad_taken _ _ _ _ (sym c.in_ok-ask_pad.ensures)).limit

pub returns : goal.returns
returns c =
    let a = c.args in
    let zero = sym c.in_ok-ask_pad.ensures in
    let taken = pad_taken _ _ _ _ zero in
    let text = padded (fed_text a.input.now a.bits) in
    pad-accepted a.input.now a.bits a.out.now a.place zero c.padded_bits.ensures
    (part_written a.out.now a.place (bytes_for (padded_length a.bits)) text _ taken.inside (padded_bytes a.input.now a.bits taken.there) taken.room
    (c.put_padded.ensures
    ∙ ap (λ (l : List ℕ). pack text ++ drop (bytes_for (padded_length a.bits)) l) (part_all a.place a.out.now)))
