-- Which calls are accepted, in plain numbers: at 0, and only there, every question said 'yes'. Assumes nothing.
use Prim.Native.Nat.{◌%◌}
use mathlib.Core.Path.{sym, ◌∙◌}
use mathlib.Core.Bool.{and-eq-true_iff}
use native.Mathlib.Omega.{arith}
use borrow.Author.Tests.{eqb-true, eq-eqb, ltb-true, lt-ltb}
use lib.Dec.{eqb, ltb}
use lib.ListN.{length}
use Rattle.bits.specs.Texts.{bytes_for}
use Rattle.questions.specs.Questions.{max_bits, iv_ok}
use Rattle.questions.specs.Promises.{AcceptedExactly}
use Rattle.questions.proofs.QuestionLaws.{accepted_exactly}
use Rattle.questions.proofs.SentenceLaws.{key_exactly, bits_exactly, room_exactly}
use Rattle.stealing.specs.Calls.{message_ok, message_questions, steal_questions, steal_number}
use Rattle.stealing.specs.Promises.{StealAccepts}

pub steal_accepts : StealAccepts
unfolding StealAccepts AcceptedExactly steal_number steal_questions message_questions message_ok iv_ok
steal_accepts dir key iv input count out place number after stolen =
    let exactly = accepted_exactly (steal_questions key iv (length input) count (length out) place) (omega arith) in
    let bits = bits_exactly max_bits (length input) count in
    let message = and-eq-true_iff (eqb (count % 8) 0) (ltb 128 count) in
    let room = room_exactly (length out) place (bytes_for count) in (
      λ zero.
          let (q1, (q2, (q6, (q13, (q8, end))))) = exactly.0 (sym stolen.answer ∙ zero) in
          let (there, small) = bits.0 q6 in
          let (whole, long) = message.0 q13 in
          record {
            key-length = (key_exactly key).0 q1;
            iv-length = eqb-true (length iv) 16 q2;
            whole_bytes = eqb-true (count % 8) 0 whole;
            more_than_16 = omega (arith, ltb-true 128 count long);
            at_most = omega (arith, small);
            there = there;
            room = omega (arith, room.0 q8);
          },
      λ h.
          let q1 = (key_exactly key).1 h.key-length in
          let q2 = eq-eqb (length iv) 16 h.iv-length in
          let q6 = bits.1 (h.there, omega (arith, h.at_most)) in
          let q13 = message.1 (eq-eqb (count % 8) 0 h.whole_bytes, lt-ltb 128 count (omega (arith, h.more_than_16))) in
          let q8 = room.1 (omega (arith, h.room)) in
          stolen.answer ∙ exactly.1 (q1, (q2, (q6, (q13, (q8, tt))))),
    )
