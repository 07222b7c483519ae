-- Which texts pad and unpad take, in plain numbers: at 0, and only there, every question said 'yes'. Assumes nothing.
use Prim.Native.Nat.{◌%◌}
use mathlib.Core.Path.{sym, ◌∙◌}
use mathlib.Core.Bool.{and-eq-true_iff}
use native.Mathlib.Omega.{arith}
use borrow.Author.Tests.{eqb-true, eq-eqb, leb-true, le-leb}
use lib.Dec.{eqb, leb}
use lib.ListN.{length}
use Rattle.bits.specs.Texts.{bytes_for}
use Rattle.questions.specs.Questions.{max_bits}
use Rattle.questions.specs.Promises.{AcceptedExactly}
use Rattle.questions.proofs.QuestionLaws.{accepted_exactly}
use Rattle.questions.proofs.SentenceLaws.{bits_exactly, room_exactly}
use Rattle.padding.specs.Padding.{padded_length, max_pad_bits, pad_questions, pad_number, whole_blocks, unpad_questions, unpad_number}
use Rattle.padding.specs.Promises.{PadAccepts, UnpadAccepts}

pub pad_accepts : PadAccepts
unfolding PadAccepts AcceptedExactly pad_number pad_questions
pad_accepts input count out place r after by =
    let exactly = accepted_exactly (pad_questions (length input) count (length out) place) (omega arith) in
    let bits = bits_exactly max_pad_bits (length input) count in
    let room = room_exactly (length out) place (bytes_for (padded_length count)) in (
      λ zero.
          let (q6, (q8, end)) = exactly.0 (sym by.answer ∙ zero) in
          record { there = (bits.0 q6).0; at_most = omega (arith, (bits.0 q6).1); room = room.0 q8 },
      λ h.
          let q6 = bits.1 (h.there, omega (arith, h.at_most)) in
          let q8 = room.1 (omega (arith, h.room)) in
          by.answer ∙ exactly.1 (q6, (q8, tt)),
    )

pub unpad_accepts : UnpadAccepts
unfolding UnpadAccepts AcceptedExactly unpad_number unpad_questions whole_blocks
unpad_accepts input count u by =
    let exactly = accepted_exactly (unpad_questions (length input) count) (omega arith) in
    let bits = bits_exactly max_bits (length input) count in
    let blocks = and-eq-true_iff (leb 1 count) (eqb (count % 128) 0) in (
      λ zero.
          let (q6, (q7, end)) = exactly.0 (sym by.answer ∙ zero) in
          let (some, whole) = blocks.0 q7 in
          record {
            there = (bits.0 q6).0;
            at_most = omega (arith, (bits.0 q6).1);
            some = omega (arith, leb-true 1 count some);
            whole = eqb-true (count % 128) 0 whole;
          },
      λ h.
          let q6 = bits.1 (h.there, omega (arith, h.at_most)) in
          let q7 = blocks.1 (le-leb 1 count (omega (arith, h.some)), eq-eqb (count % 128) 0 h.whole) in
          by.answer ∙ exactly.1 (q6, (q7, tt)),
    )
