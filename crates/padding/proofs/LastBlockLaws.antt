-- The promises of request 02: unpad goes by the last block alone. Assumes nothing.
use Prim.Native.Nat.{ℕ, pred, ◌+◌, ◌-◌, ◌*◌, ◌/◌, ◌≤◌}
use mathlib.Core.Path.{◌≡◌, refl, sym, ◌∙◌}
use mathlib.Core.Bool.{Bool, true, false, cond}
use mathlib.Core.List.{List, ◌∷◌, ◌++◌}
use native.Mathlib.Nat.{add-zero, mul-mod_right}
use native.Mathlib.Omega.{arith}
use borrow.Author.Tests.{le-leb, eq-eqb}
use lib.Dec.{eqb}
use lib.ListN.{length, replicate, length-append}
use lib.Seq.{take_at, drop_at}
use Rattle.bits.specs.Texts.{bit, byte_bits, bits}
use Rattle.bits.proofs.Texts.{length-bits, bits-append}
use Rattle.questions.specs.Questions.{ask, bits_ok, max_bits}
use Rattle.modes.specs.Sessions.{fed_text}
use Rattle.padding.specs.Padding.{Unpadded}
use Rattle.padding.specs.Padding.{up_to_last_one, last_block, unpadded_length, whole_blocks, unpad_questions, unpad_number, UnpaddedBy}
use Rattle.padding.specs.Promises.{UnpadInLastBlock, UnpadCuts, UnpadByLastBlock, ZeroBlockAs80, UnpadNever10}
use Rattle.padding.proofs.PadLaws.{length_fed}
use Rattle.padding.proofs.CutLaws.{cut, one-cut}
use Rattle.padding.proofs.AnswerLaws.{unpad_taken, unpad_takes}

pub unpad_never_10 : UnpadNever10
unfolding UnpadNever10 unpad_number unpad_questions ask
unpad_never_10 input count u by ten = by-answers (bits_ok max_bits (length input) count) (whole_blocks count) (sym by.answer ∙ ten)
  where
    by-answers : (q6 q7 : Bool) → cond {A = ℕ} q6 (cond q7 0 7) 6 ≡ 10 → ⊥
    by-answers true true e = omega arith
    by-answers true false e = omega arith
    by-answers false q7 e = omega arith

pub unpad_cuts : UnpadCuts
unfolding UnpadCuts
unpad_cuts input count u by accepted =
    let zero : unpad_number (length input) count ≡ 0 = sym by.answer ∙ accepted in
    let g = unpad_taken (length input) count zero in
    let e : u.bits ≡ unpadded_length (fed_text input count) = rw (eq-eqb _ 0 zero) at by.size in
    let c = cut (fed_text input count) (rw (length_fed input count g.there) g.some) in
    (rw e c, λ k other. e ∙ one-cut (fed_text input count) (unpadded_length (fed_text input count)) k c other)

pub unpad_in_last_block : UnpadInLastBlock
unfolding UnpadInLastBlock UnpadCuts
unpad_in_last_block input count u by accepted =
    let g = unpad_taken (length input) count (sym by.answer ∙ accepted) in
    let n : length (fed_text input count) ≡ count = length_fed input count g.there in
    let (c, only) = unpad_cuts input count u by accepted in
    (omega (arith, c.before_end), omega (arith, c.in_last_block))

module _ (s t : List ℕ) (count : ℕ) (in-s : count ≤ 8 * length s) (in-t : count ≤ 8 * length t) where
  same_number : unpad_number (length s) count ≡ unpad_number (length t) count
  unfolding unpad_number unpad_questions ask bits_ok
  same_number = rw (le-leb count (8 * length s) in-s, le-leb count (8 * length t) in-t)

  same_length : last_block (fed_text s count) ≡ last_block (fed_text t count) → unpadded_length (fed_text s count) ≡ unpadded_length (fed_text t count)
  unfolding unpadded_length
  same_length same = rw (same, length_fed s count in-s, length_fed t count in-t)

pub unpad_by_last_block : UnpadByLastBlock
unfolding UnpadByLastBlock
unpad_by_last_block s t count u v by-s by-t in-s in-t same =
    let e = same_number s t count in-s in-t in
    (by-s.answer ∙ e ∙ sym by-t.answer, by-s.size ∙ rw (e, same_length s t count in-s in-t same) (sym by-t.size))

-- ---- a text that ends with a certain block

module _ (before block behind : List ℕ) (sixteen : length block ≡ 16) where
  long : length (bits before ++ bits block) ≡ 8 * length before + 128
  long = simp (length-append, length-bits, sixteen) (omega arith)

  the-text : fed_text (before ++ block ++ behind) (8 * length before + 128) ≡ bits before ++ bits block
  unfolding fed_text
  the-text =
      rw (bits-append, bits-append) (take_at (bits before ++ bits block) (bits behind) (8 * length before + 128) long)

  before-block : unpadded_length (fed_text (before ++ block ++ behind) (8 * length before + 128)) ≡ 8 * length before + pred (up_to_last_one (bits block) 128)
  unfolding unpadded_length last_block
  before-block =
      let e : length (bits before) ≡ 8 * length before + 128 - 128 = rw length-bits (omega arith) in
      rw (the-text, long, drop_at (bits before) (bits block) (8 * length before + 128 - 128) e) (omega arith)

  -- the block all padding: its number by the lengths, its length that of the text before it
  all-padding : pred (up_to_last_one (bits block) 128) ≡ 0 → (u : Unpadded) → UnpaddedBy (before ++ block ++ behind) (8 * length before + 128) u
      → let number = unpad_number (length before + 16 + length behind) (8 * length before + 128) in
      (u.number ≡ number) × (u.bits ≡ cond (eqb number 0) (8 * length before) 0)
  all-padding none u by =
      let n : length (before ++ block ++ behind) ≡ length before + 16 + length behind = rw (length-append, length-append, sixteen) in
      (by.answer ∙ rw n, by.size ∙ rw (n, before-block, none, add-zero))

zeros : up_to_last_one (bits (replicate 16 0x00)) 128 ≡ 0
unfolding up_to_last_one bits byte_bits bit
zeros = refl

one_first : up_to_last_one (bits (0x80 ∷ replicate 15 0x00)) 128 ≡ 1
unfolding up_to_last_one bits byte_bits bit
one_first = refl

pub zero_block_as_80 : ZeroBlockAs80
unfolding ZeroBlockAs80
zero_block_as_80 before after u v by-u by-v =
    let (number-u, bits-u) = all-padding before (replicate 16 0x00) after refl (rw zeros) u by-u in
    let (number-v, bits-v) = all-padding before (0x80 ∷ replicate 15 0x00) after refl (rw one_first) v by-v in
    record {
      same_number = number-u ∙ sym number-v;
      same_bits = bits-u ∙ sym bits-v;
      accepted = λ whole few.
          let blocks : 8 * length before + 128 ≡ 128 * (length before / 16 + 1) = omega arith in
          number-u ∙ unpad_takes _ (8 * length before + 128) (omega arith) (rw blocks (mul-mod_right 128 _)) (omega arith) few;
      all-before = λ accepted. bits-u ∙ rw (eq-eqb _ 0 (sym number-u ∙ accepted));
    }
