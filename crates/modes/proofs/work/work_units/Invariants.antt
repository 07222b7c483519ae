-- The invariant: t units are through (`WorkLaws`). Assumes nothing.
use Rattle.modes.proofs.WorkLaws.{Through}
use Rattle.modes.proofs.work.work_units.Given as goal

abbrev pub invariant-loop-t : goal.invariant-loop-t
invariant-loop-t l = Through l.session.mode l.session.direction l.session.n l.session.m l.session.rounds l.session.keys l.session.register l.input l.bits l.initial.out l.t l.done l.out
