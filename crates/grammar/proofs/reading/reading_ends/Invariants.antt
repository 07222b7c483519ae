-- `grammar::reading::reading_ends` meets its contract. The loop's invariant: reading has ended exactly where it has
-- ended in the lines that are due. Assumes nothing.
use mathlib.Core.Path.{◌≡◌}
use lib.ListN.{drop}
use Rattle.grammar.specs.Reading.{text_lines, ends_in, reading_ends}
use Rattle.grammar.proofs.reading.reading_ends.Given as goal

abbrev pub invariant-loop-line : goal.invariant-loop-line
invariant-loop-line l = reading_ends l.front ≡ ends_in (drop l.line-index text_lines) l.rest
