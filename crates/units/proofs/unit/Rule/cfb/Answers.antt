-- OFB's unit, and the ciphertext shifted in. Assumes nothing.
use Rattle.bits.specs.Blocks.{Block}
use Rattle.bits.proofs.Owned.{arrays}
use Rattle.units.proofs.TurnLaws as Law
use Rattle.units.proofs.unit.Rule.cfb.Goals.{in-Encrypt, in-Decrypt}
use Rattle.units.proofs.unit.Rule.cfb.Goals as goal

pub returns : goal.returns
returns c =
    let a = c.args in
    let register_is : Block a.register = search arrays in
    let unit_is : Block a.unit = search arrays in
    let out_is : Block c.ofb-runs.result.out = let owned = c.ofb-runs.type_inv in search arrays in
    let after = c.shift_in-register.ensures in
    let step = c.ofb-runs.ensures a.size c.requires in
    elim c.match-self.branch [
      | in-Encrypt w ↦ rw w.in-Encrypt.is (Law.cfb-encrypted register_is out_is c.requires (rw w.in-Encrypt.is at step) (rw w.ciphertext-is at after))
      | in-Decrypt w ↦ rw w.in-Decrypt.is (Law.cfb-decrypted register_is unit_is c.requires (rw w.in-Decrypt.is at step) (rw w.ciphertext-is at after))
    ]
