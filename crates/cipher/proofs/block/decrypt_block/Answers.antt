-- Dec by cases on the rounds (`CipherLaws`). Assumes nothing.
use mathlib.Core.Path.{sym, ◌∙◌}
use Rattle.cipher.proofs.CipherLaws.{dec_cipher, dec_refused}
use Rattle.cipher.proofs.block.decrypt_block.Goals as goal

pub returns-then-rounds_ok : goal.returns-then-rounds_ok
returns-then-rounds_ok c = c.inv_cipher_block.ensures ∙ sym (dec_cipher _ _ _ (sym c.rounds_ok.ensures ∙ c.if-rounds_ok.true))

pub returns-else-rounds_ok : goal.returns-else-rounds_ok
returns-else-rounds_ok c = sym (dec_refused _ _ _ (sym c.rounds_ok.ensures ∙ c.if-rounds_ok.false))
