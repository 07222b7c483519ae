-- What the code of one unit gives, by the unit rules: a unit stands left-aligned in 16 bytes, and so does what it
-- becomes.
use Rattle.std.specs.Prelude.{ℕ, ◌≡◌, Bool, false, cond, List, eqb, leb, take}
use Rattle.bits.specs.Xor.{xor_bytes}
use Rattle.bits.specs.Texts.{bits}
use Rattle.bits.specs.Blocks.{Block}
use Rattle.rules.specs.declared.Mode.{Mode}
use Rattle.rules.specs.declared.Mode.TheVariants.{Ecb, Cbc, Cfb, Ofb, Ctr}
use Rattle.rules.specs.declared.Direction.{Direction}
use Rattle.rules.specs.declared.Direction.TheVariants.{Encrypt, Decrypt}
use Rattle.rules.specs.Numbers.{is_decrypt}
use Rattle.rules.specs.Rules.{out_of, next_of}
use Rattle.units.specs.declared.unit.Step.{Step}

-- How many bits a unit may have: whole blocks in ECB and CBC, up to a block elsewhere.
unfoldable pub unit_size_ok : Mode → ℕ → Bool
unit_size_ok Ecb size = eqb size 128
unit_size_ok Cbc size = eqb size 128
unit_size_ok Cfb size = leb size 128
unit_size_ok Ofb size = leb size 128
unit_size_ok Ctr size = leb size 128

-- Which block function a mode runs: in ECB and CBC that of the direction, in CFB, OFB and CTR always Enc.
unfoldable pub runs_dec : Mode → Direction → Bool
runs_dec Ecb dir = is_decrypt dir
runs_dec Cbc dir = is_decrypt dir
runs_dec Cfb dir = false
runs_dec Ofb dir = false
runs_dec Ctr dir = false

-- f is the one that the mode runs.
pub record Runs (f enc dec : List ℕ → List ℕ) (mode : Mode) (dir : Direction) : Type 0 where
  pub same : (b : List ℕ) → Block b → f b ≡ cond (runs_dec mode dir) (dec b) (enc b)

-- The whole block that a unit becomes. Its first bits, as many as the unit has, are the mode's rule; in CFB, OFB and
-- CTR those past a short unit are XOR of what stands there and of the block that was run.
unfoldable pub out_block : (List ℕ → List ℕ) → Mode → Direction → List ℕ → List ℕ → List ℕ
out_block f Ecb dir register unit = f unit
out_block f Cbc Encrypt register unit = f (xor_bytes unit register)
out_block f Cbc Decrypt register unit = xor_bytes (f unit) register
out_block f Cfb dir register unit = xor_bytes unit (f register)
out_block f Ofb dir register unit = xor_bytes unit (f register)
out_block f Ctr dir register unit = xor_bytes unit (f register)

-- A unit by the block function f, whichever of the two it is, in one run.
pub record Turned (f : List ℕ → List ℕ) (mode : Mode) (dir : Direction) (m : ℕ) (register unit : List ℕ) (size : ℕ) (r : Step) : Type 0 where
  pub out_bits : take size (bits r.out) ≡ out_of f f mode dir register (take size (bits unit))
  pub out-block : r.out ≡ out_block f mode dir register unit
  pub register_after : r.register ≡ next_of f f mode dir m register (take size (bits unit))
  pub one_run : r.runs ≡ 1
