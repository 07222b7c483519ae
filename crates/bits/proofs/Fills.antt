-- A list into which a loop writes another, one store a turn: after i turns it holds the other's first i elements, at a
-- place or at its front. Assumes nothing.
use mathlib.Core.Path.{◌≡◌, refl, sym, ap, ap₂, ◌∙◌}
use mathlib.Core.List.{List, [], ◌∷◌, ◌++◌, append-nil}
use Prim.Native.Nat.{ℕ, zero, suc, ◌+◌, ◌≤◌, ◌<◌}
use native.Mathlib.Nat.{zero-add, le_of_eq, le_of_suc-le-suc, not-suc-le-zero}
use native.Mathlib.Numerals.{add-one}
use native.Mathlib.Omega.{arith}
use lib.ListN.{length, get_or, take, drop, set, length-append, drop_of_length-le}
use lib.Seq.{take_all, take_at, paste, paste-suc}
use Rattle.bits.specs.Xor.{xor, xor_bytes}

-- a turn, at any place of a list: v is the next element
pub pasted_next : (d : List ℕ) (at : ℕ) (t : List ℕ) (i : ℕ) {l : List ℕ} {v : ℕ} → l ≡ paste d at t i → v ≡ get_or t i 0 → at + i < length d
    → i < length t → set l (at + i) v ≡ paste d at t (i + 1)
pasted_next d at t i e f hd ht =
    ap₂ (λ (m : List ℕ) (w : ℕ). set m (at + i) w) e f ∙ paste-suc d at t i 0 hd ht ∙ ap (paste d at t) (sym (add-one i))

-- a list written after another of its length, to the end
pub pasted_after : (a z b : List ℕ) {k : ℕ} → length a ≡ k → length z ≡ k → length b ≡ k → paste (a ++ z) k b k ≡ a ++ b
pasted_after a z b {k} ha hz hb =
    let full : length (a ++ z) ≤ k + k = simp length-append (omega arith) in
    rw (take_at a z k ha, take_all k b (le_of_eq hb), drop_of_length-le (a ++ z) {i = k + k} full, append-nil)

-- ---- from the front

abbrev pub filled : List ℕ → List ℕ → ℕ → List ℕ
filled d t i = take i t ++ drop i d

pub filled_next : (d t : List ℕ) (i : ℕ) {l : List ℕ} {v : ℕ} → l ≡ filled d t i → v ≡ get_or t i 0 → i < length d → i < length t
    → set l i v ≡ filled d t (i + 1)
filled_next d t i {l} e f hd ht = simp zero-add at (pasted_next d 0 t i {l = l} (rw zero-add e) f (rw zero-add hd) ht)

-- after the last turn
pub filled-all : (d t : List ℕ) (i : ℕ) {l : List ℕ} → l ≡ filled d t i → length d ≡ i → length t ≡ i → l ≡ t
filled-all d t i e hd ht = e ∙ rw (take_all i t (le_of_eq ht), drop_of_length-le d {i = i} (le_of_eq hd), append-nil)

-- the bytes of an XOR one by one
pub get_or-xor_bytes : (a b : List ℕ) (i : ℕ) → i < length a → i < length b → get_or (xor_bytes a b) i 0 ≡ xor (get_or a i 0) (get_or b i 0)
unfolding xor_bytes
get_or-xor_bytes [] b i ha hb = absurd (not-suc-le-zero ha)
get_or-xor_bytes (x ∷ a) [] i ha hb = absurd (not-suc-le-zero hb)
get_or-xor_bytes (x ∷ a) (y ∷ b) zero ha hb = refl
get_or-xor_bytes (x ∷ a) (y ∷ b) (suc i) ha hb = get_or-xor_bytes a b i (le_of_suc-le-suc ha) (le_of_suc-le-suc hb)
