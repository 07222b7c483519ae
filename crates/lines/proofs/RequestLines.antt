-- The line that answers a text of the form, by the number of the opening. Assumes nothing.
use mathlib.Core.Path.{◌≡◌, sym, ◌∙◌}
use mathlib.Core.List.{List, []}
use Prim.Native.Nat.{ℕ, ◌<◌}
use borrow.Author.Tests.{eq-eqb, ne_eqb}
use Rattle.std.specs.Prelude.{None, Some}
use Rattle.modes.specs.declared.session.Opened.{Opened}
use Rattle.modes.specs.Sessions.{open_number, OpenedBy}
use Rattle.digits.specs.Texts.{hex_bytes}
use Rattle.grammar.specs.declared.form.Request as form
use Rattle.grammar.specs.Grammar.{request}
use Rattle.grammar.specs.Answers.{request_in}
use Rattle.lines.specs.Answer.{line_of, fed_line, request_line, answer_to, answer_bytes}
use Rattle.lines.proofs.NumberBounds.{open_prints}

module _ (s : List ℕ) where
  pub bad-form : None ≡ request s → answer_bytes s ≡ line_of 12 []
  unfolding answer_bytes answer_to
  bad-form e = rw (← e)

  module _ (r : form.Request) (e : Some (request_in r) ≡ request s) {o : Opened}
      (opened : OpenedBy r.mode r.direction r.n 128 (hex_bytes r.key.now) (hex_bytes r.iv.now) o) where
    abbrev number : ℕ
    number = open_number r.mode r.n 128 (hex_bytes r.key.now) (hex_bytes r.iv.now)

    answer-is : answer_bytes s ≡ request_line (request_in r)
    unfolding answer_bytes answer_to
    answer-is = rw (← e)

    pub opening-prints : o.number < 100
    opening-prints = rw opened.answer (open_prints r.mode r.n 128 (hex_bytes r.key.now) (hex_bytes r.iv.now))

    pub refused_opening : (o.number ≡ 0 → ⊥) → answer_bytes s ≡ line_of o.number []
    unfolding request_line
    refused_opening refused = answer-is ∙ rw (← opened.answer, ne_eqb o.number 0 refused)

    pub accepted-opening : o.number ≡ 0 → answer_bytes s ≡ fed_line o.session (hex_bytes r.data.now)
    unfolding request_line
    accepted-opening accepted = answer-is ∙ rw (opened.opened, eq-eqb number 0 (sym opened.answer ∙ accepted))
