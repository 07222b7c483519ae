-- The state as a function of row and column: what stands where, equality place by place, and the way from a block and
-- back. Assumes nothing.
use mathlib.Core.Path.{◌≡◌, refl, ap, ◌∙◌}
use mathlib.Core.List.{List, [], ◌∷◌}
use Prim.Native.Nat.{ℕ, zero, suc, ◌+◌, ◌*◌, ◌<◌}
use native.Mathlib.Nat.{zero-lt-suc}
use lib.ListN.{length, get_or}
use Rattle.bits.specs.Blocks.{Bytes, Block}
use Rattle.bits.proofs.Lists.{listed}
use Rattle.bits.proofs.Texts.{append_bytes}
use Rattle.field.specs.Rows.{four}
use Rattle.field.proofs.Fours.{four-at, four_ext, four_bytes}
use Rattle.steps.specs.State.{at, column, state, from_block, to_block}

pub at-state : (f : ℕ → ℕ → ℕ) (r c : ℕ) → r < 4 → c < 4 → at (state f) r c ≡ f r c
unfolding at state
at-state f r c hr hc = ap (λ l. get_or l c 0) (four-at [] (λ r. four (f r)) r hr) ∙ four-at 0 (f r) c hc

pub state_ext : (f g : ℕ → ℕ → ℕ) → ((r c : ℕ) → r < 4 → c < 4 → f r c ≡ g r c) → state f ≡ state g
unfolding state
state_ext f g h = four_ext (λ r. four (f r)) (λ r. four (g r)) (λ r hr. four_ext (f r) (g r) (λ c hc. h r c hr hc))

-- four rows, each known by its places
pub rows : (f : ℕ → ℕ → ℕ) {a b c d : List ℕ} → a ≡ four (f 0) → b ≡ four (f 1) → c ≡ four (f 2) → d ≡ four (f 3) → a ∷ b ∷ c ∷ d ∷ [] ≡ state f
unfolding state four
rows f p q r s = cc

-- A state all of whose numbers are bytes, of any shape. (Past the end `at` gives 0.)
pub record StateBytes (s : List (List ℕ)) : Type 0 where
  pub byte : (r c : ℕ) → at s r c < 256

-- A state of four rows of four bytes.
pub record Square (s : List (List ℕ)) : Type 0 where
  pub shape : state (at s) ≡ s
  pub byte : (r c : ℕ) → at s r c < 256

pub state_byte : (f : ℕ → ℕ → ℕ) → ((r c : ℕ) → f r c < 256) → (r c : ℕ) → at (state f) r c < 256
unfolding at state four
state_byte f h zero c = (four_bytes (f 0) (h 0)).byte c
state_byte f h (suc zero) c = (four_bytes (f 1) (h 1)).byte c
state_byte f h (suc (suc zero)) c = (four_bytes (f 2) (h 2)).byte c
state_byte f h (suc (suc (suc zero))) c = (four_bytes (f 3) (h 3)).byte c
state_byte f h (suc (suc (suc (suc r)))) c = zero-lt-suc 255

pub state-square : (f : ℕ → ℕ → ℕ) → ((r c : ℕ) → f r c < 256) → Square (state f)
state-square f h = record { shape = state_ext (at (state f)) f (at-state f); byte = state_byte f h }

-- what a step makes at each place is what was there
pub restored : {s : List (List ℕ)} (f : ℕ → ℕ → ℕ) → Square s → ((r c : ℕ) → r < 4 → c < 4 → f r c ≡ at s r c) → state f ≡ s
restored {s} f q h = state_ext f (at s) h ∙ q.shape

-- ---- blocks

pub from_block-square : {b : List ℕ} → Bytes b → Square (from_block b)
unfolding from_block
from_block-square {b} h = state-square (λ r c. get_or b (4 * c + r) 0) (λ r c. h.byte (4 * c + r))

pub from_to : {s : List (List ℕ)} → Square s → from_block (to_block s) ≡ s
unfolding from_block to_block column state four
from_to q = q.shape

pub to_from : {b : List ℕ} → Block b → to_block (from_block b) ≡ b
unfolding from_block to_block column at state four
to_from {b} h = listed 0 16 b h.size

column_bytes : {s : List (List ℕ)} → Square s → (c : ℕ) → Bytes (column s c)
unfolding column
column_bytes {s} q c = four_bytes (λ r. at s r c) (λ r. q.byte r c)

to_block_size : (s : List (List ℕ)) → length (to_block s) ≡ 16
unfolding to_block column four
to_block_size s = refl

pub to_block-block : {s : List (List ℕ)} → Square s → Block (to_block s)
unfolding to_block
to_block-block {s} q =
    record {
      size = to_block_size s;
      bytes = append_bytes (append_bytes (append_bytes (column_bytes q 0) (column_bytes q 1)) (column_bytes q 2)) (column_bytes q 3);
    }
