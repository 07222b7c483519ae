-- What a `Hex` prints. The loop's invariant: what was written, followed by the digits of the bytes that are left, is
-- the text of all. Assumes nothing.
use Rattle.std.proofs.Common.{◌≡◌, ℕ, ◌<◌, List, ◌++◌, length, sym, ap, ◌∙◌, arith, rules, append_assoc, append-nil}
use Rattle.std.proofs.Output.{has_written_append, has_written_of_eq}
use Rattle.std.proofs.lemmas.Bool.Decides.{nat_tests}
use Rattle.std.proofs.lemmas.List.{nil_from_length}
use Rattle.std.specs.Fmt.{HasWritten}
use Rattle.std.specs.Slice.Iter.{chunks_rest}
use Rattle.std.specs.declared.fmt.Formatter.{Formatter}
use Rattle.digits.specs.Texts.{hex_text}
use Rattle.script.proofs.HexLaws.{hex_text-append, hex_text-nil, no_text, some_text}
use Rattle.script.proofs.hex.HexDisplay.fmt.Goals as goal

-- what was written, by another form of its text
as_text : {W : Type 0} (took : W → List ℕ → W → Type 0) (f g : Formatter W) {a b : List ℕ} → HasWritten took f a g → a ≡ b → HasWritten took f b g
as_text took f g said e = has_written_of_eq took f _ _ g e said

pub returns-then-is_empty-clause-writes : goal.returns-then-is_empty-clause-writes
returns-then-is_empty-clause-writes g c = λ plain ok.
    let none : length c.args.self.now.0.now ≡ 0 = grind (arith, nat_tests) in
    as_text _ _ _ (c.write_str.ensures.writes plain ok) (sym (no_text c.args.self.now.0.now none))

pub loop-part-preserved : goal.loop-part-preserved
loop-part-preserved g c =
    let part = c.in-Some.part.now in
    let steps = c.in-Some.ensures.steps in (
      search rules,
      tt,
      omega (arith, steps.0, c.loop-part.invariant.2),
      λ plain.
          let so_far = c.loop-part.invariant.3 plain in (
            so_far.0 ++ c.digits_of.result.now,
            has_written_append _ _ _ _ _ _ so_far.1 (search rules),
            append_assoc so_far.0 _ _
                ∙ ap (λ (t : List ℕ). so_far.0 ++ t)
                (rw c.digits_of.ensures (sym (hex_text-append part (chunks_rest c.next.new.self)) ∙ ap hex_text (sym steps.1.0)))
                ∙ so_far.2,
          ),
    )

pub returns-clause-writes : goal.returns-clause-writes
returns-clause-writes g c = λ plain _.
    let so_far = c.loop-part.invariant.3 plain in
    let none = nil_from_length _ c.in-None.ensures.steps.1.0 in
    let some : 0 < length c.args.self.now.0.now = grind (arith, nat_tests) in
    as_text _ _ _ so_far.1 (rw (none, hex_text-nil, append-nil) at so_far.2 ∙ sym (some_text c.args.self.now.0.now some))
