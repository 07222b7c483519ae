-- Each step keeps a square of bytes, and its inverse step undoes it, both ways round. Assumes nothing.
use mathlib.Core.Path.{◌≡◌, ap, ◌∙◌}
use mathlib.Core.List.{List, [], ◌∷◌}
use Prim.Native.Nat.{ℕ, ◌+◌, ◌-◌, ◌*◌, ◌%◌, ◌<◌}
use native.Mathlib.Omega.{arith}
use lib.ListN.{get_or}
use Rattle.bits.specs.Xor.{xor}
use Rattle.bits.specs.Blocks.{Bytes}
use Rattle.bits.proofs.Xor as Xor
use Rattle.boxes.specs.Boxes.{sub_byte, inv_sub_byte, Tabulates}
use Rattle.field.specs.Rows.{four}
use Rattle.field.proofs.Fours.{four_ext}
use Rattle.boxes.proofs.BoxLaws.{sub_inv, inv_sub, sub_byte_byte, inv_sub_byte_byte}
use Rattle.steps.specs.State.{at, state}
use Rattle.steps.specs.Steps.{bytewise, sub_bytes, inv_sub_bytes, shift_rows, inv_shift_rows, circulant, dot, mix_with, mix_row, mix_columns, inv_mix_row, inv_mix_columns, add_round_key}
use Rattle.steps.proofs.StateLaws.{Square, StateBytes, at-state, state_ext, state_byte, state-square, rows, restored}
use Rattle.steps.proofs.MixLaws.{unmix, remix, dot_ext, dot_byte}

-- ---- SubBytes

bytewise-square : (f : ℕ → ℕ) → ((b : ℕ) → f b < 256) → (s : List (List ℕ)) → Square (bytewise f s)
unfolding bytewise
bytewise-square f h s = state-square (λ r c. f (at s r c)) (λ r c. h (at s r c))

bytewise_undone : (f g : ℕ → ℕ) → ((b : ℕ) → b < 256 → g (f b) ≡ b) → {s : List (List ℕ)} → Square s → bytewise g (bytewise f s) ≡ s
unfolding bytewise
bytewise_undone f g h {s} q =
    restored (λ r c. g (at (state (λ r c. f (at s r c))) r c)) q
    (λ r c hr hc. ap g (at-state (λ r c. f (at s r c)) r c hr hc) ∙ h (at s r c) (q.byte r c))

-- a table that holds the rule, at each byte
pub bytewise_table : {f : ℕ → ℕ} {table : List ℕ} → Tabulates f table → {s : List (List ℕ)} → StateBytes s → bytewise (λ b. get_or table b 0) s ≡ bytewise f s
unfolding bytewise
bytewise_table {f} {table} tab {s} h =
    state_ext (λ r c. get_or table (at s r c) 0) (λ r c. f (at s r c)) (λ r c hr hc. tab.entry (at s r c) (h.byte r c))

pub sub_bytes-square : (s : List (List ℕ)) → Square (sub_bytes s)
unfolding sub_bytes
sub_bytes-square = bytewise-square sub_byte sub_byte_byte

pub inv_sub_bytes-square : (s : List (List ℕ)) → Square (inv_sub_bytes s)
unfolding inv_sub_bytes
inv_sub_bytes-square = bytewise-square inv_sub_byte inv_sub_byte_byte

pub inv-sub-bytes : {s : List (List ℕ)} → Square s → inv_sub_bytes (sub_bytes s) ≡ s
unfolding sub_bytes inv_sub_bytes
inv-sub-bytes = bytewise_undone sub_byte inv_sub_byte inv_sub

pub sub_inv_bytes : {s : List (List ℕ)} → Square s → sub_bytes (inv_sub_bytes s) ≡ s
unfolding sub_bytes inv_sub_bytes
sub_inv_bytes = bytewise_undone inv_sub_byte sub_byte sub_inv

-- ---- ShiftRows

pub inv_shift_rows_bytes : {s : List (List ℕ)} → StateBytes s → StateBytes (inv_shift_rows s)
unfolding inv_shift_rows
inv_shift_rows_bytes {s} h = record { byte = state_byte (λ r c. at s r ((c + (4 - r)) % 4)) (λ r c. h.byte r ((c + (4 - r)) % 4)) }

pub shift_rows-square : {s : List (List ℕ)} → Square s → Square (shift_rows s)
unfolding shift_rows
shift_rows-square {s} q = state-square (λ r c. at s r ((c + r) % 4)) (λ r c. q.byte r ((c + r) % 4))

pub inv_shift_rows-square : {s : List (List ℕ)} → Square s → Square (inv_shift_rows s)
unfolding inv_shift_rows
inv_shift_rows-square {s} q = state-square (λ r c. at s r ((c + (4 - r)) % 4)) (λ r c. q.byte r ((c + (4 - r)) % 4))

pub inv-shift-rows : {s : List (List ℕ)} → Square s → inv_shift_rows (shift_rows s) ≡ s
unfolding shift_rows inv_shift_rows
inv-shift-rows {s} q =
    restored (λ r c. at (state (λ r c. at s r ((c + r) % 4))) r ((c + (4 - r)) % 4)) q
    (λ r c hr hc. at-state (λ r c. at s r ((c + r) % 4)) r ((c + (4 - r)) % 4) hr (omega arith) ∙ ap (at s r) (turned r c hr hc))
  where
    turned : (r c : ℕ) → r < 4 → c < 4 → ((c + (4 - r)) % 4 + r) % 4 ≡ c
    turned r c hr hc = omega arith

pub shift_inv_rows : {s : List (List ℕ)} → Square s → shift_rows (inv_shift_rows s) ≡ s
unfolding shift_rows inv_shift_rows
shift_inv_rows {s} q =
    restored (λ r c. at (state (λ r c. at s r ((c + (4 - r)) % 4))) r ((c + r) % 4)) q
    (λ r c hr hc. at-state (λ r c. at s r ((c + (4 - r)) % 4)) r ((c + r) % 4) hr (omega arith) ∙ ap (at s r) (turned r c hr hc))
  where
    turned : (r c : ℕ) → r < 4 → c < 4 → ((c + r) % 4 + (4 - r)) % 4 ≡ c
    turned r c hr hc = omega arith

-- ---- MixColumns

mix_with-square : (first : List ℕ) {s : List (List ℕ)} → Square s → Square (mix_with first s)
unfolding mix_with
mix_with-square first {s} q =
    state-square (λ r c. dot (circulant first r) (λ k. at s k c)) (λ r c. dot_byte (circulant first r) (λ k. at s k c) (λ k. q.byte k c))

-- a matrix that undoes another one, column by column
mix_with_undone : (back there : List ℕ)
    → ((x : ℕ → ℕ) → ((k : ℕ) → x k < 256) → (r : ℕ) → r < 4 → dot (circulant back r) (λ k. dot (circulant there k) x) ≡ x r)
    → {s : List (List ℕ)} → Square s → mix_with back (mix_with there s) ≡ s
unfolding mix_with
mix_with_undone back there u {s} q =
    restored (λ r c. dot (circulant back r) (λ k. at (state (λ r c. dot (circulant there r) (λ k. at s k c))) k c)) q
    (λ r c hr hc. columns r c hc ∙ u (λ k. at s k c) (λ k. q.byte k c) r hr)
  where
    mixed : ℕ → ℕ → ℕ
    mixed r c = dot (circulant there r) (λ k. at s k c)

    columns : (r c : ℕ) → c < 4 → dot (circulant back r) (λ k. at (state mixed) k c) ≡ dot (circulant back r) (λ k. mixed k c)
    columns r c hc = dot_ext (circulant back r) (λ k. at (state mixed) k c) (λ k. mixed k c) (λ k hk. at-state mixed k c hk hc)

pub mix_columns-square : {s : List (List ℕ)} → Square s → Square (mix_columns s)
unfolding mix_columns
mix_columns-square = mix_with-square mix_row

pub inv_mix_columns-square : {s : List (List ℕ)} → Square s → Square (inv_mix_columns s)
unfolding inv_mix_columns
inv_mix_columns-square = mix_with-square inv_mix_row

pub inv-mix-columns : {s : List (List ℕ)} → Square s → inv_mix_columns (mix_columns s) ≡ s
unfolding mix_columns inv_mix_columns
inv-mix-columns = mix_with_undone inv_mix_row mix_row unmix

pub mix_inv_columns : {s : List (List ℕ)} → Square s → mix_columns (inv_mix_columns s) ≡ s
unfolding mix_columns inv_mix_columns
mix_inv_columns = mix_with_undone mix_row inv_mix_row remix

-- ---- AddRoundKey

pub add_round_key-square : {w : List ℕ} → Bytes w → (round : ℕ) {s : List (List ℕ)} → Square s → Square (add_round_key w round s)
unfolding add_round_key
add_round_key-square {w} hw round {s} q =
    state-square (λ r c. xor (at s r c) (get_or w (16 * round + (4 * c + r)) 0))
    (λ r c. Xor.width 8 (q.byte r c) (hw.byte (16 * round + (4 * c + r))))

-- four rows, each with every fourth key byte
pub add_rows : (w : List ℕ) (round : ℕ) (s : List (List ℕ)) {a b c d : List ℕ}
    → a ≡ four (λ i. xor (at s 0 i) (get_or w (16 * round + 4 * i) 0))
    → b ≡ four (λ i. xor (at s 1 i) (get_or w (16 * round + 1 + 4 * i) 0))
    → c ≡ four (λ i. xor (at s 2 i) (get_or w (16 * round + 2 + 4 * i) 0))
    → d ≡ four (λ i. xor (at s 3 i) (get_or w (16 * round + 3 + 4 * i) 0))
    → a ∷ b ∷ c ∷ d ∷ [] ≡ add_round_key w round s
unfolding add_round_key
add_rows w round s pa pb pc pd =
    rows (λ r c. xor (at s r c) (get_or w (16 * round + (4 * c + r)) 0)) (pa ∙ moved 0 (λ i. 16 * round + 4 * i) (λ i. omega arith))
    (pb ∙ moved 1 (λ i. 16 * round + 1 + 4 * i) (λ i. omega arith)) (pc ∙ moved 2 (λ i. 16 * round + 2 + 4 * i) (λ i. omega arith))
    (pd ∙ moved 3 (λ i. 16 * round + 3 + 4 * i) (λ i. omega arith))
  where
    moved : (r : ℕ) (place : ℕ → ℕ) → ((i : ℕ) → place i ≡ 16 * round + (4 * i + r))
        → four (λ i. xor (at s r i) (get_or w (place i) 0)) ≡ four (λ i. xor (at s r i) (get_or w (16 * round + (4 * i + r)) 0))
    moved r place h = four_ext _ _ (λ i hi. ap (λ k. xor (at s r i) (get_or w k 0)) (h i))

pub add_add : (w : List ℕ) (round : ℕ) {s : List (List ℕ)} → Square s → add_round_key w round (add_round_key w round s) ≡ s
unfolding add_round_key
add_add w round {s} q =
    restored (λ r c. xor (at (state (λ r c. xor (at s r c) (key r c))) r c) (key r c)) q
    (λ r c hr hc. ap (λ x. xor x (key r c)) (at-state (λ r c. xor (at s r c) (key r c)) r c hr hc) ∙ Xor.undo (at s r c) (key r c))
  where
    key : ℕ → ℕ → ℕ
    key r c = get_or w (16 * round + (4 * c + r)) 0

-- every step makes a square of one
pub ruleset squares = (sub_bytes-square, inv_sub_bytes-square, shift_rows-square, inv_shift_rows-square, mix_columns-square, inv_mix_columns-square, add_round_key-square)
