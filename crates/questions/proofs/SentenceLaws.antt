-- Each question's 'yes' is its sentence, in plain numbers. Assumes nothing.
use Prim.Native.Nat.{ℕ, ◌+◌, ◌-◌, ◌*◌, ◌≤◌}
use mathlib.Core.Path.{◌≡◌, refl}
use mathlib.Core.Logic.{◌↔◌, ◌⊎◌, inl, inr}
use mathlib.Core.Bool.{Bool, true, false, cond}
use mathlib.Core.List.{List}
use native.Mathlib.Nat.{suc-ne-zero}
use native.Mathlib.Omega.{arith}
use borrow.Author.Tests.{le-leb, eqb-true, eq-eqb}
use lib.Dec.{eqb}
use lib.ListN.{length}
use Rattle.cipher.specs.Cipher.{rounds_ok}
use Rattle.bits.proofs.TestLaws.{passed}
use Rattle.aes.specs.Calls.{key_ok, key_number}
use Rattle.aes.specs.Promises.{KeyLength}
use Rattle.aes.proofs.CallLaws.{calls_answer}
use Rattle.rules.specs.declared.Mode.{Mode}
use Rattle.rules.specs.declared.Mode.TheVariants.{Ecb, Cbc, Cfb, Ofb, Ctr}
use Rattle.rules.specs.Lengths.{LengthIn}
use Rattle.rules.proofs.LengthLaws.{clash, unit_exactly, counter_exactly}
use Rattle.questions.specs.Questions.{iv_ok, session_ok, bits_ok, room_ok}
use Rattle.questions.proofs.QuestionLaws.{session_good, bits_small, bits_there, room_inside, room_there}

-- ---- question 1

pub key_exactly : (key : List ℕ) → (key_ok key ≡ true) ↔ KeyLength (length key)
unfolding key_number
key_exactly key = (λ e. (calls_answer.accepted key).0 (rw e), λ h. taken (key_ok key) ((calls_answer.accepted key).1 h))
  where
    taken : (b : Bool) → ◌≡◌ {A = ℕ} (cond b 0 1) 0 → b ≡ true
    taken true e = refl
    taken false e = absurd (suc-ne-zero 0 e)

-- ---- question 2

abbrev IvLength : Mode → ℕ → Type 0
IvLength mode bytes = (mode ≡ Ecb → bytes ≡ 0) × ((mode ≡ Ecb → ⊥) → bytes ≡ 16)

iv_elsewhere : {mode : Mode} (bytes : ℕ) → (mode ≡ Ecb → ⊥) → (eqb bytes 16 ≡ true) ↔ IvLength mode bytes
iv_elsewhere bytes other = (λ e. (λ same. absurd (other same), λ o. eqb-true bytes 16 e), λ h. eq-eqb bytes 16 (h.1 other))

pub iv_exactly : (mode : Mode) (iv : List ℕ) → (iv_ok mode iv ≡ true) ↔ IvLength mode (length iv)
unfolding iv_ok
iv_exactly Ecb iv = (λ e. (λ same. eqb-true (length iv) 0 e, λ other. absurd (other refl)), λ h. eq-eqb (length iv) 0 (h.0 refl))
iv_exactly Cbc iv = iv_elsewhere (length iv) (λ e. clash (cc))
iv_exactly Cfb iv = iv_elsewhere (length iv) (λ e. clash (cc))
iv_exactly Ofb iv = iv_elsewhere (length iv) (λ e. clash (cc))
iv_exactly Ctr iv = iv_elsewhere (length iv) (λ e. clash (cc))

-- ---- questions of numbers alone

abbrev Rounds : ℕ → Type 0
Rounds rounds = (rounds ≡ 10) ⊎ (rounds ≡ 12) ⊎ (rounds ≡ 14)

pub rounds_exactly : (rounds : ℕ) → (rounds_ok rounds ≡ true) ↔ Rounds rounds
unfolding rounds_ok
rounds_exactly rounds = (λ e. passed Rounds rounds 10 12 14 e (inl refl) (inr (inl refl)) (inr (inr refl)), taken)
  where
    taken : Rounds rounds → rounds_ok rounds ≡ true
    taken (inl e) = rw e
    taken (inr (inl e)) = rw e
    taken (inr (inr e)) = rw e

pub session_exactly : (mode : Mode) (rounds n m : ℕ) → (session_ok mode rounds n m ≡ true) ↔ (Rounds rounds × LengthIn Cfb mode n × LengthIn Ctr mode m)
unfolding session_ok
session_exactly mode rounds n m = (
  λ e.
      let (r, u, c) = session_good mode rounds n m e in
      ((rounds_exactly rounds).0 r, (unit_exactly mode n).0 u, (counter_exactly mode m).0 c),
  λ h. rw ((rounds_exactly rounds).1 h.0, (unit_exactly mode n).1 h.1, (counter_exactly mode m).1 h.2),
)

pub bits_exactly : (limit bytes count : ℕ) → (bits_ok limit bytes count ≡ true) ↔ ((count ≤ 8 * bytes) × (count ≤ limit))
unfolding bits_ok
bits_exactly limit bytes count =
    (λ e. (bits_there limit bytes count e, bits_small limit bytes count e), λ h. rw (le-leb count (8 * bytes) h.0, le-leb count limit h.1))

pub room_exactly : (size place bytes : ℕ) → (room_ok size place bytes ≡ true) ↔ (place + bytes ≤ size)
unfolding room_ok
room_exactly size place bytes = (
  λ e. omega (arith, room_inside size place bytes e, room_there size place bytes e),
  λ h. rw (le-leb place size (omega arith), le-leb bytes (size - place) (omega arith)),
)
