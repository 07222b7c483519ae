-- Enc by cases on the rounds (`CipherLaws`). Assumes nothing.
use mathlib.Core.Path.{sym, ◌∙◌}
use Rattle.cipher.proofs.CipherLaws.{enc_cipher, enc_refused}
use Rattle.cipher.proofs.block.encrypt_block.Goals as goal

pub returns-then-rounds_ok : goal.returns-then-rounds_ok
returns-then-rounds_ok c = c.cipher_block.ensures ∙ sym (enc_cipher _ _ _ (sym c.rounds_ok.ensures ∙ c.if-rounds_ok.true))

pub returns-else-rounds_ok : goal.returns-else-rounds_ok
returns-else-rounds_ok c = sym (enc_refused _ _ _ (sym c.rounds_ok.ensures ∙ c.if-rounds_ok.false))
