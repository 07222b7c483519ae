-- Demand 2 for whole texts: `TextsHold`. Assumes nothing.
use Rattle.rules.specs.Promises.{TextsHold}
use Rattle.rules.proofs.Taken.{taken}
use Rattle.rules.proofs.Undo.{worked-length, worked-undo, same-registers}
use Rattle.rules.proofs.Standard.{worked-standard}

pub texts_hold : TextsHold
unfolding TextsHold
texts_hold enc dec mode dir n m iv x ciphers ok whole block =
    let text = taken mode n x ok whole in
    record {
      standard_text = worked-standard ciphers n m iv x mode dir ok whole block;
      same_length = worked-length ciphers m dir block text;
      undone = worked-undo ciphers m dir block text;
      same_register = same-registers ciphers m dir block text;
    }
