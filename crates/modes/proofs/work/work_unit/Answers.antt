-- The unit stands in the part of the input that is handed on, the turn processes it, and its bits are put where they
-- belong. Assumes nothing.
use Prim.Native.Nat.{◌*◌, ◌/◌, ◌%◌}
use mathlib.Core.Path.{ap, ◌∙◌}
use native.Mathlib.Omega.{arith}
use lib.ListN.{take, drop}
use Rattle.bits.specs.Texts.{bits, pack_to}
use Rattle.units.specs.Inner.Turns.{unit_size_ok}
use Rattle.modes.proofs.WorkLaws.{part_all, unit-inside, unit-size-ok, unit-fits, unit-worked}
use Rattle.modes.proofs.work.work_unit.Goals as goal

pub overflow_mul-at : goal.overflow_mul-at
overflow_mul-at c = let p = c.requires in omega (arith, unit-inside p.0 p.1, p.0.small)

pub overflow_sub-bits : goal.overflow_sub-bits
overflow_sub-bits c = let p = c.requires in omega (arith, unit-inside p.0 p.1)

pub slice_bounds-turn-count : goal.slice_bounds-turn-count
slice_bounds-turn-count c = let p = c.requires in omega (arith, unit-inside p.0 p.1, p.0.within)

pub slice_bounds-turn-start : goal.slice_bounds-turn-start
slice_bounds-turn-start c = let p = c.requires in omega (arith, unit-inside p.0 p.1, p.0.within)

pub turn-runs-requires : goal.turn-runs-requires
turn-runs-requires c = let p = c.requires in ap (unit_size_ok _) c.min-size.ensures ∙ unit-size-ok p.0 p.1

pub put_bits-requires : goal.put_bits-requires
put_bits-requires c = let s = c in let p = s.requires in omega (arith, unit-fits p.0 p.1, s.min-size.ensures)

pub returns : goal.returns
returns c =
    let turned = c in
    let small = turned in
    let s = small in
    let a = s.args in
    let at = a.t * a.n in
    unit-worked s.requires.0 s.requires.1 small.min-size.ensures
    (ap (λ l. pack_to 16 (take small.min-size.result (drop (at % 8) (bits l)))) (part_all (at / 8) a.input.now)) turned.turn-runs.ensures
    c.put_bits.ensures
