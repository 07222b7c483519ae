-- `script::hex::digits_of` meets its contract: digits are ASCII, and so UTF-8. Assumes nothing.
use Rattle.std.proofs.Common.{◌∙◌, arith}
use Rattle.script.proofs.HexLaws.{written_digits, written_utf8}
use Rattle.script.proofs.hex.digits_of.Goals as goal

pub unreachable-requires : goal.unreachable-requires
unreachable-requires c =
    let a = c.args in
    c.in_default.ensures.cases.0 (written_utf8 a.part.now a.text.now c.encode.ensures (omega arith) (λ i. (c.type_inv.part i).fits))

pub returns : goal.returns
returns c =
    let a = c.args in
    c.in-Ok.ensures.cases.0 ∙ written_digits a.part.now a.text.now c.encode.ensures (omega arith)
