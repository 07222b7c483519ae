-- Unit by unit (`WorkLaws`). Assumes nothing.
use mathlib.Core.Path.{◌≡◌, refl}
use Prim.Native.Nat.{◌<◌}
use native.Mathlib.Numerals.{add-one}
use native.Mathlib.Omega.{arith}
use Rattle.bits.specs.Blocks.{Block}
use Rattle.bits.proofs.Owned.{arrays}
use Rattle.rules.specs.Rules.{units_in}
use Rattle.modes.proofs.WorkLaws.{none-through, one-through, all-through}
use Rattle.modes.proofs.work.work_units.Goals as goal

pub loop-t-init : goal.loop-t-init
loop-t-init c =
    let register_is : Block c.args.session.register = search arrays in
    none-through c.requires.0 c.requires.1 c.args.session.m register_is

pub loop-t-preserved : goal.loop-t-preserved
loop-t-preserved c =
    let register_is : Block c.args.session.register = search arrays in
    let there : c.loop-t.t < units_in c.args.session.n c.args.bits = omega (arith, c.units_in-units.ensures) in
    rw add-one (one-through c.requires.0 c.requires.1 c.args.session.m register_is c.loop-t.t there c.loop-t.invariant c.work_unit-runs.ensures refl)

pub returns : goal.returns
returns c =
    let register_is : Block c.args.session.register = search arrays in
    let all : c.loop-t.t ≡ units_in c.args.session.n c.args.bits = omega (arith, c.units_in-units.ensures) in
    all-through c.requires.0 c.requires.1 c.args.session.m register_is (rw all at c.loop-t.invariant)
