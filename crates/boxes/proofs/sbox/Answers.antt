-- The table holds the rule of SubBytes at all 256 entries: one test, which antt computes. Assumes nothing.
use Rattle.boxes.specs.Boxes.{low, from_bits, affine}
use Rattle.field.proofs.Inverses.{listed_inverse}
use Rattle.boxes.proofs.BoxLaws.{listed_sub}
use Rattle.boxes.proofs.TableLaws.{tabulates, tabulates_too}
use Rattle.boxes.proofs.sbox.Goals as goal

pub returns : goal.returns
unfolding listed_inverse low from_bits affine
returns c = tabulates_too (tabulates (λ b. affine (listed_inverse b)) _ tt tt) listed_sub
