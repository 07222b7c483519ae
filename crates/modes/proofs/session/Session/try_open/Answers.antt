-- Refused by its number, or the key's expansion with the IV's bits as a block. A key that the questions let pass is not
-- refused by its expansion. Assumes nothing.
use mathlib.Core.Path.{◌≡◌, refl, sym, ◌∙◌}
use native.Mathlib.Omega.{arith}
use Rattle.std.proofs.lemmas.Result.{err_from_is_err_and}
use Rattle.bits.specs.Blocks.{Bytes}
use Rattle.bits.proofs.Owned.{arrays}
use Rattle.aes.specs.Calls.{key_number}
use Rattle.modes.specs.Sessions.{open_number, opened_session}
use Rattle.questions.proofs.QuestionLaws.{opening_taken}
use Rattle.questions.proofs.RefusalLaws.{no_success}
use Rattle.modes.proofs.AnswerLaws.{opening-refused, opening-accepted}
use Rattle.modes.proofs.WorkLaws.{start_window}
use Rattle.modes.proofs.session.Session.try_open.Goals as goal

pub returns-in_err-ask_open : goal.returns-in_err-ask_open
unfolding open_number
returns-in_err-ask_open c =
    let p = err_from_is_err_and c.from_residual.result c.from_residual.ensures.1 in
    rw (p.1, p.2) (opening-refused _ _ _ _ _ _ c.in_err-ask_open.ensures (no_success _) refl)

pub returns-in_err-schedule : goal.returns-in_err-schedule
unfolding key_number
returns-in_err-schedule c =
    let yes1 = (opening_taken _ _ _ _ _ (sym c.in_ok-ask_open.ensures)).key_size in
    let number : key_number c.args.key.now ≡ 0 = rw yes1 refl in
    absurd (omega (arith, c.in_err-schedule.ensures.answer, number))

pub returns : goal.returns
unfolding opened_session open_number
returns c =
    let x = c.in_ok-schedule.ensures in
    let a = c.args in
    let v : Bytes a.iv.now = search arrays in
    let taken = opening_taken _ _ _ _ _ (sym c.in_ok-ask_open.ensures) in
    opening-accepted _ _ _ _ _ _ (sym c.in_ok-ask_open.ensures)
    (rw (x.expanded_rounds, x.expanded_keys, c.window-register.ensures ∙ start_window a.mode a.iv.now v taken.iv_size) refl)
