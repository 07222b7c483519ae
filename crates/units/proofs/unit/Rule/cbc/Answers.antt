-- The unit and the register are added before the block function, or after it. Assumes nothing.
use Rattle.bits.proofs.Owned.{arrays}
use Rattle.units.proofs.TurnLaws as Law
use Rattle.units.proofs.unit.Rule.cbc.Goals as goal

pub returns-in-Encrypt : goal.returns-in-Encrypt
returns-in-Encrypt c = rw c.in-Encrypt.is (Law.cbc-encrypted _ (search arrays) (search arrays) (search arrays) _ c.xor_block.ensures c.run-runs.ensures)

pub returns-in-Decrypt : goal.returns-in-Decrypt
returns-in-Decrypt c =
    rw c.in-Decrypt.is
    (Law.cbc-decrypted _ (search arrays) (search arrays) (search arrays) _ (search arrays) c.run-runs-in-Decrypt.ensures c.xor_block-out.ensures)
