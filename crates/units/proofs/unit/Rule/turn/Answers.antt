-- The mode's own function; in ECB and CBC a unit is a whole block. Assumes nothing.
use mathlib.Core.Path.{sym}
use mathlib.Core.Logic.{inl, inr}
use Rattle.units.proofs.TurnLaws.{block_size, stream_size}
use Rattle.units.proofs.unit.Rule.turn.Goals as goal

pub cfb-requires : goal.cfb-requires
cfb-requires c = stream_size c.requires (inl c.in-Cfb.is)

pub returns-in-Ecb : goal.returns-in-Ecb
returns-in-Ecb c = let e = c.in-Ecb.is in rw (sym c.window-unit.ensures, e, block_size c.requires (inl e)) c.ecb.ensures

pub returns-in-Cbc : goal.returns-in-Cbc
returns-in-Cbc c = let e = c.in-Cbc.is in rw (sym c.window-unit.ensures, e, block_size c.requires (inr e)) c.cbc.ensures

pub returns-in-Cfb : goal.returns-in-Cfb
returns-in-Cfb c = rw (sym c.window-unit.ensures, c.in-Cfb.is) c.cfb.ensures

pub returns-in-Ofb : goal.returns-in-Ofb
returns-in-Ofb c = let e = c.in-Ofb.is in rw (sym c.window-unit.ensures, e) (c.ofb.ensures _ (stream_size c.requires (inr (inl e))))

pub returns-in-Ctr : goal.returns-in-Ctr
returns-in-Ctr c = let e = c.in-Ctr.is in rw (sym c.window-unit.ensures, e) (c.ctr.ensures _ (stream_size c.requires (inr (inr e))))
