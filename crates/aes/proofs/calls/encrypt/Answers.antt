-- Enc under the expanded key, and what a refused key answers. Assumes nothing.
use mathlib.Core.Path.{ap₂, ◌∙◌}
use Rattle.cipher.specs.Cipher.{Enc}
use Rattle.aes.specs.Calls.{encrypted}
use Rattle.aes.proofs.CallLaws.{err_answer, enc-zeros}
use Rattle.aes.proofs.calls.encrypt.Goals as goal

pub returns-in_err-expand : goal.returns-in_err-expand
returns-in_err-expand c =
    let refused = c.in_err-expand.ensures in
    err_answer c.from_residual.result c.from_residual.ensures.0 refused.answer (enc-zeros _ c.args.block refused.expanded_rounds)

pub returns : goal.returns
unfolding encrypted
returns c =
    let schedule = c.in_ok-expand.ensures in
    record {
      answer = schedule.answer;
      answer_block = c.encrypt.ensures ∙ ap₂ (λ n w. Enc n w c.args.block) schedule.expanded_rounds schedule.expanded_keys;
    }
