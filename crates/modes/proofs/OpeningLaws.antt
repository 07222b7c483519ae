-- An accepted opening returns a session that may be fed. Assumes nothing.
use Prim.Native.Nat.{ℕ, zero, suc}
use mathlib.Core.Path.{◌≡◌, refl, sym, ◌∙◌}
use mathlib.Core.Bool.{true}
use mathlib.Core.List.{List}
use native.Mathlib.Omega.{arith}
use lib.ListN.{length, get_or, replicate}
use borrow.Author.Tests.{eqb-true, eq-eqb, ne_eqb}
use Rattle.bits.specs.Blocks.{Bytes, Block}
use Rattle.aes.specs.Promises.{AcceptedExpands}
use Rattle.aes.proofs.CallLaws.{accepted-rounds, accepted_expands}
use Rattle.rules.specs.declared.Mode.{Mode}
use Rattle.rules.specs.declared.Mode.TheVariants.{Ecb, Cbc, Cfb, Ofb, Ctr}
use Rattle.rules.specs.declared.Direction.{Direction}
use Rattle.rules.specs.Rules.{start}
use Rattle.modes.specs.declared.session.Opened.{Opened}
use Rattle.questions.specs.Questions.{iv_ok, session_ok}
use Rattle.modes.specs.Sessions.{OpenedBy, open_number, opened_session}
use Rattle.modes.specs.Promises.{RefusedOpening, OpenedFresh}
use Rattle.questions.proofs.QuestionLaws.{OpeningTaken, opening_taken}
use Rattle.modes.proofs.SessionLaws.{Ready}

zero_byte : (n i : ℕ) → ◌≡◌ {A = ℕ} (get_or (replicate n 0) i 0) 0
zero_byte zero i = refl
zero_byte (suc n) zero = refl
zero_byte (suc n) (suc i) = zero_byte n i

start-block : (mode : Mode) (iv : List ℕ) → Bytes iv → iv_ok mode iv ≡ true → Block (start mode iv)
unfolding start iv_ok
start-block Ecb iv bytes size = record { size = refl; bytes = record { byte = λ i. rw (zero_byte 16 i) (omega arith) } }
start-block Cbc iv bytes size = record { size = eqb-true (length iv) 16 size; bytes = bytes }
start-block Cfb iv bytes size = record { size = eqb-true (length iv) 16 size; bytes = bytes }
start-block Ofb iv bytes size = record { size = eqb-true (length iv) 16 size; bytes = bytes }
start-block Ctr iv bytes size = record { size = eqb-true (length iv) 16 size; bytes = bytes }

-- Question 4 is answered 'yes' of a session just opened.
pub opened_good : (mode : Mode) (dir : Direction) (n m : ℕ) (key iv : List ℕ) → OpeningTaken mode n m key iv
    → session_ok mode (opened_session mode dir n m key iv).rounds n m ≡ true
unfolding opened_session session_ok
opened_good mode dir n m key iv taken = rw (accepted-rounds key taken.key_size, taken.unit, taken.counter)

pub refused_opening : RefusedOpening
unfolding RefusedOpening
refused_opening mode dir n m key iv r opening refused =
    rw (ne_eqb (open_number mode n m key iv) 0 (λ e. refused (opening.answer ∙ e))) at opening.opened

module _ {mode : Mode} {dir : Direction} {n m : ℕ} {key iv : List ℕ} {r : Opened} (opening : OpenedBy mode dir n m key iv r) (accepted : r.number ≡ 0) where
  number-zero : open_number mode n m key iv ≡ 0
  number-zero = sym opening.answer ∙ accepted

  pub asked : OpeningTaken mode n m key iv
  unfolding open_number
  asked = opening_taken mode n m key iv number-zero

  pub opened-session : r.session ≡ opened_session mode dir n m key iv
  opened-session = rw (eq-eqb (open_number mode n m key iv) 0 number-zero) at opening.opened

  pub opened-ready : Bytes key → Bytes iv → Ready (opened_session mode dir n m key iv)
  unfolding opened_session AcceptedExpands
  opened-ready key_bytes iv_bytes =
      let expands = accepted_expands key key_bytes asked.key_size in
      record {
        arrays = record { register = start-block mode iv iv_bytes asked.iv_size; keys = expands.bytes; keys_size = expands.size };
        rounds_good = expands.rounds;
        unit = asked.unit;
      }

pub opened_fresh : OpenedFresh
unfolding OpenedFresh opened_session
opened_fresh mode dir n m key iv r opening accepted = let same = opened-session opening accepted in (rw same, rw same)
