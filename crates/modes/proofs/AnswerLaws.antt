-- What open and feed give, from the answers to their questions. Assumes nothing.
use Prim.Native.Nat.{ℕ, ◌+◌, ◌-◌, ◌%◌, ◌≤◌}
use mathlib.Core.Path.{◌≡◌, refl, sym, ap, ◌∙◌}
use mathlib.Core.Bool.{Bool, true, false, cond, not}
use mathlib.Core.List.{List, ◌++◌, append_assoc, append-nil}
use native.Mathlib.Nat.{suc-ne-zero}
use native.Mathlib.Omega.{arith}
use borrow.Author.Tests.{ne_eqb}
use lib.Dec.{eqb}
use lib.ListN.{length, take, drop, length-drop, drop_of_length-le}
use lib.Seq.{drop-drop}
use Rattle.bits.specs.Texts.{pack}
use Rattle.aes.specs.Calls.{key_ok, key_number}
use Rattle.rules.specs.declared.Mode.{Mode}
use Rattle.rules.specs.declared.Direction.{Direction}
use Rattle.rules.specs.Rules.{units_in}
use Rattle.modes.specs.declared.session.Session.{Session}
use Rattle.modes.specs.Sessions.{open_number, opened_session, refused_session, OpenedBy, fed_text, session_text, session_register, feed_number, moved_session, fed_session, session_runs, written, FedBy}

-- ---- open

pub key_yes : (key : List ℕ) → key_number key ≡ 0 → key_ok key ≡ true
unfolding key_number
key_yes key e = go (key_ok key) e
  where
    go : (b : Bool) → ◌≡◌ {A = ℕ} (cond b 0 1) 0 → b ≡ true
    go true e = refl
    go false e = absurd (suc-ne-zero 0 e)

module _ (mode : Mode) (dir : Direction) (n m : ℕ) (key iv : List ℕ) where
  pub opening-refused : {number : ℕ} {s : Session} → number ≡ open_number mode n m key iv → (number ≡ 0 → ⊥) → s ≡ refused_session
      → OpenedBy mode dir n m key iv (record { number = number; session = s })
  opening-refused e no_zero f =
      record { answer = e; opened = f ∙ rw (ne_eqb (open_number mode n m key iv) 0 (λ z. no_zero (e ∙ z))) }

  pub opening-accepted : {s : Session} → open_number mode n m key iv ≡ 0 → s ≡ opened_session mode dir n m key iv
      → OpenedBy mode dir n m key iv (record { number = 0; session = s })
  opening-accepted z f = record { answer = sym z; opened = f ∙ rw z }

-- ---- feed

module _ (s : Session) (input : List ℕ) (count : ℕ) (out : List ℕ) (place : ℕ) where
  pub feed-refused : {number : ℕ} → number ≡ feed_number s (length input) count (length out) place → (number ≡ 0 → ⊥)
      → FedBy s input count out place (record { number = number; session = s; runs = 0 }) out
  feed-refused {number} e no_zero =
      let f : eqb (feed_number s (length input) count (length out) place) 0 ≡ false = ne_eqb (feed_number s (length input) count (length out) place) 0 (λ z. no_zero (e ∙ z)) in
      record { answer = e; session = rw f; output = rw f; runs = rw f }

  pub feed-accepted : {t : Session} {after : List ℕ} {runs : ℕ} → feed_number s (length input) count (length out) place ≡ 0 → t ≡ fed_session s (fed_text input count)
      → after ≡ written out place (session_text s (fed_text input count)) → runs ≡ session_runs s (fed_text input count)
      → FedBy s input count out place (record { number = 0; session = t; runs = runs }) after
  feed-accepted z e f g = record { answer = sym z; session = e ∙ rw z; output = f ∙ rw z; runs = g ∙ rw z }

-- A part that was written at its front, back in its place.
pub part_written : (out : List ℕ) (place count : ℕ) (x : List Bool) (part : List ℕ) → place ≤ length out → length (pack x) ≡ count → count ≤ length out - place
    → part ≡ pack x ++ drop count (drop place out)
    → take place out ++ (part ++ drop (length out - place) (drop place out)) ≡ written out place x
unfolding written
part_written out place count x part h l r e =
    ap (λ p. take place out ++ (part ++ p)) (drop_of_length-le (drop place out) {i = length out - place} (omega (arith, length-drop place out)))
    ∙ ap (λ p. take place out ++ p) (append-nil part ∙ e ∙ ap (λ p. pack x ++ p) (drop-drop count place out ∙ ap (λ k. drop (place + k) out) (sym l)))
    ∙ sym (append_assoc (take place out) (pack x) (drop (place + length (pack x)) out))

-- The session that comes back: by the units counted, and by the text.
pub moved_on : (s : Session) (r : List ℕ) (count : ℕ) {new : ℕ} → new ≡ units_in s.n count
    → ◌≡◌ {A = Session} (record { mode = s.mode; direction = s.direction; n = s.n; m = s.m; rounds = s.rounds; keys = s.keys; register = r; units = s.units + new; closed = not (eqb (count % s.n) 0) }) (moved_session s r count)
moved_on s r count e = rw e

pub moved_by : (s : Session) (x : List Bool) {count : ℕ} {r : List ℕ} {t : Session} → length x ≡ count → r ≡ session_register s x (units_in s.n count)
    → t ≡ moved_session s r count → t ≡ fed_session s x
unfolding fed_session
moved_by s x l p e = e ∙ rw (l, p)
