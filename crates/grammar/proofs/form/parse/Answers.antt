-- `grammar::form::parse` meets its contract: each line that was read has its size and its place. Assumes nothing.
use mathlib.Core.Path.{sym}
use Rattle.grammar.specs.Grammar.{max_key_digits, max_data_digits}
use Rattle.grammar.proofs.LineLaws.{cut_ended, digits_read, in_a_row}
use Rattle.grammar.proofs.form.parse.Goals as goal

pub returns-clause-fits : goal.returns-clause-fits
returns-clause-fits c = record {
  key = (digits_read max_key_digits _ (sym c.in_ok-key.ensures)).fits;
  iv = (digits_read max_key_digits _ (sym c.in_ok-iv.ensures)).fits;
  message = (digits_read max_data_digits _ (sym c.in_ok-data.ensures)).fits;
}

pub returns-clause-places : goal.returns-clause-places
returns-clause-places c =
    let key = (digits_read max_key_digits _ (sym c.in_ok-key.ensures)).ended in
    let iv = (digits_read max_key_digits _ (sym c.in_ok-iv.ensures)).ended in
    let message = (digits_read max_data_digits _ (sym c.in_ok-data.ensures)).ended in
    record {
      text = in_a_row (cut_ended _ (sym c.in_ok-line.ensures)) key iv message c.if-not-is_empty.ensures;
      key = key.whole;
      iv = iv.whole;
      message = message.whole;
    }
