-- After how many common units a damaged stream is right again (demand 3).
use Rattle.std.specs.Prelude.{ℕ}
use Rattle.std.proofs.Math.Option.{Option, none, some}
use Rattle.rules.specs.declared.Mode.{Mode}
use Rattle.rules.specs.declared.Mode.TheVariants.{Ecb, Cbc, Cfb, Ofb, Ctr}
use Rattle.rules.specs.Rules.{units_in}

-- At once in ECB, after 1 unit in CBC, after 128/n rounded up in CFB: as many segments as it takes to replace a whole
-- register. OFB and CTR have no such count and never come right: there a lost unit shifts the keystream for good.
unfoldable pub recovery_units : Mode → ℕ → Option ℕ
recovery_units Ecb n = some 0
recovery_units Cbc n = some 1
recovery_units Cfb n = some (units_in n 128)
recovery_units Ofb n = none
recovery_units Ctr n = none
