-- Which single blocks are accepted, in plain numbers: at 0, and only there, every question said 'yes'. Assumes nothing.
use Prim.Native.Nat.{◌/◌, ◌%◌}
use mathlib.Core.Path.{sym, ◌∙◌}
use mathlib.Core.Bool.{and-eq-true_iff}
use native.Mathlib.Omega.{arith}
use borrow.Author.Tests.{eqb-true, eq-eqb, ltb-true, lt-ltb}
use lib.Dec.{eqb, ltb}
use lib.ListN.{length}
use Rattle.questions.specs.Questions.{iv_ok}
use Rattle.questions.specs.Promises.{AcceptedExactly}
use Rattle.questions.proofs.QuestionLaws.{accepted_exactly}
use Rattle.questions.proofs.SentenceLaws.{key_exactly, room_exactly}
use Rattle.single.specs.Single.{block_ok, single_questions, single_number}
use Rattle.single.specs.Promises.{SingleAccepts}
use Rattle.single.proofs.NumberLaws.{iv-length}

pub single_accepts : SingleAccepts
unfolding SingleAccepts AcceptedExactly single_number single_questions iv_ok block_ok
single_accepts key iv text j out place number after by =
    let exactly = accepted_exactly (single_questions key iv text j (length out) place) (omega arith) in
    let block = and-eq-true_iff (eqb (length text % 16) 0) (ltb j (length text / 16)) in (
      λ zero.
          let (q1, (q2, (q11, (q8, end)))) = exactly.0 (sym by.answer ∙ zero) in
          let (whole, inside) = block.0 q11 in
          record {
            key-length = (key_exactly key).0 q1;
            iv-length = iv-length iv q2;
            whole-blocks = eqb-true (length text % 16) 0 whole;
            block_there = omega (arith, ltb-true j (length text / 16) inside);
            room = omega (arith, (room_exactly (length out) place 16).0 q8);
          },
      λ h.
          let q1 = (key_exactly key).1 h.key-length in
          let q2 = eq-eqb (length iv) 16 h.iv-length in
          let q11 = block.1 (eq-eqb (length text % 16) 0 h.whole-blocks, lt-ltb j (length text / 16) (omega (arith, h.block_there))) in
          let q8 = (room_exactly (length out) place 16).1 (omega (arith, h.room)) in
          by.answer ∙ exactly.1 (q1, (q2, (q11, (q8, tt)))),
    )
