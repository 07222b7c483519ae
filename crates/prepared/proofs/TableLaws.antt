-- The tables: that of the last round holds the substitution; in the other each part is the one before it turned by one
-- place, and a round by it is the round of FIPS 197, which keeps bytes. Assumes nothing.
use mathlib.Core.Path.{◌≡◌, sym, ap, ap₂, ◌∙◌}
use mathlib.Core.Bool.{Bool, true, false}
use mathlib.Core.List.{List, [], ◌∷◌}
use Prim.Native.Nat.{ℕ, ◌+◌, ◌-◌, ◌*◌, ◌/◌, ◌%◌, ◌≤◌, ◌<◌}
use native.Mathlib.Omega.{arith}
use lib.ListN.{get_or}
use Rattle.bits.specs.Xor.{xor}
use Rattle.bits.proofs.Xor as Xor
use Rattle.field.specs.Field.{product}
use Rattle.boxes.specs.Boxes.{sub_byte, inv_sub_byte, Tabulates}
use Rattle.field.specs.Rows.{four}
use Rattle.steps.specs.State.{at, state}
use Rattle.steps.specs.Steps.{bytewise, shift_rows, circulant, dot, mix_with}
use Rattle.steps.proofs.StateLaws.{StateBytes, at-state, state_ext, state_byte}
use Rattle.steps.proofs.MixLaws.{dot_ext}
use Rattle.columns.specs.Inner.Words.{byte_at, word_bytes}
use Rattle.columns.specs.Inner.Rounds.{entry_sum, drawn, last_byte, table_round, last_round}
use Rattle.prepared.specs.Inner.Parts.{substituted, matrix, column_times, entry_rule, byte_word}
use Rattle.columns.proofs.ByteLaws.{byte_small, same-four, word_byte}

pub substituted_back : {decrypting : Bool} {table : List ℕ} → decrypting ≡ true → Tabulates inv_sub_byte table → Tabulates (substituted decrypting) table
unfolding substituted
substituted_back e h = rw e h

pub substituted_forward : {decrypting : Bool} {table : List ℕ} → decrypting ≡ false → Tabulates sub_byte table → Tabulates (substituted decrypting) table
unfolding substituted
substituted_forward e h = rw e h

-- ---- the entries, as they are stored

module _ (decrypting : Bool) (last : List ℕ) where
  -- the rule for entry 256 * k + b
  entry_at : (k b i : ℕ) → b < 256 → i ≡ 256 * k + b → entry_rule decrypting last i ≡ column_times decrypting k (get_or last b 0)
  unfolding entry_rule
  entry_at k b i h e = ap₂ (λ k b. column_times decrypting k (get_or last b 0)) part byte
    where
      part : i / 256 ≡ k
      part = omega arith

      byte : i % 256 ≡ b
      byte = omega arith

  pub entry_first : (b : ℕ) {l : List ℕ} → b < 256 → l ≡ column_times decrypting 0 (get_or last b 0) → l ≡ entry_rule decrypting last b
  entry_first b h e = e ∙ sym (entry_at 0 b b h (omega arith))

  -- a column of the matrix turned by one place is the next one
  column-turned : (k b x : ℕ) {l : List ℕ} → word_bytes x ≡ column_times decrypting k b → l ≡ byte_at x 3 ∷ byte_at x 0 ∷ byte_at x 1 ∷ byte_at x 2 ∷ [] → l ≡ column_times decrypting (k + 1) b
  unfolding column_times circulant four
  column-turned k b x p e =
      e ∙ same-four (row 3 0 (omega arith) (omega arith)) (row 0 1 (omega arith) (omega arith)) (row 1 2 (omega arith) (omega arith)) (row 2 3 (omega arith) (omega arith))
    where
      row : (r s : ℕ) → r < 4 → (k + (4 - r)) % 4 ≡ (k + 1 + (4 - s)) % 4 → byte_at x r ≡ product (circulant (matrix decrypting) s (k + 1)) b
      row r s h turn = word_byte x (λ r. product (circulant (matrix decrypting) r k) b) p r h ∙ ap (λ n. product (get_or (matrix decrypting) n 0) b) turn

  pub entry-turned : (i x : ℕ) {l : List ℕ} → 256 ≤ i → word_bytes x ≡ entry_rule decrypting last (i - 256)
      → l ≡ byte_at x 3 ∷ byte_at x 0 ∷ byte_at x 1 ∷ byte_at x 2 ∷ [] → l ≡ entry_rule decrypting last i
  unfolding entry_rule
  entry-turned i x h p e =
      column-turned ((i - 256) / 256) (get_or last ((i - 256) % 256) 0) x p e ∙ sym (entry_at ((i - 256) / 256 + 1) ((i - 256) % 256) i (omega arith) (omega arith))

-- a byte as a word
pub widened : {b : ℕ} → b < 256 → word_bytes b ≡ byte_word b
unfolding word_bytes byte_word byte_at four
widened h = same-four (omega arith) (omega arith) (omega arith) (omega arith)

-- ---- the rounds

pub table_round_bytes : (p : List ℕ) (s : List (List ℕ)) → StateBytes (table_round p s)
unfolding table_round entry_sum drawn
table_round_bytes p s =
    record { byte = state_byte (λ r c. entry_sum p (λ k. at s k ((c + k) % 4)) r) (λ r c. Xor.width 8 (byte_small _ _) (Xor.width 8 (byte_small _ _) (Xor.width 8 (byte_small _ _) (byte_small _ _)))) }

-- Both tables, where the rounds read them.
pub record Tabled (decrypting : Bool) (p : List ℕ) : Type 0 where
  pub entry : (b k : ℕ) → b < 256 → k < 4 → word_bytes (get_or p (256 * k + b) 0) ≡ column_times decrypting k (substituted decrypting b)
  pub last : (b : ℕ) → b < 256 → last_byte p b ≡ substituted decrypting b

module _ (decrypting : Bool) {p : List ℕ} (tab : Tabled decrypting p) where
  entry-byte : (b r k : ℕ) → b < 256 → r < 4 → k < 4 → byte_at (get_or p (256 * k + b) 0) r ≡ product (circulant (matrix decrypting) r k) (substituted decrypting b)
  unfolding column_times
  entry-byte b r k hb hr hk =
      word_byte (get_or p (256 * k + b) 0) (λ r. product (circulant (matrix decrypting) r k) (substituted decrypting b)) (tab.entry b k hb hk) r hr

  entry-sum : (x : ℕ → ℕ) → ((k : ℕ) → x k < 256) → (r : ℕ) → r < 4 → entry_sum p x r ≡ dot (circulant (matrix decrypting) r) (λ k. substituted decrypting (x k))
  unfolding entry_sum dot
  entry-sum x h r hr =
      ap₂ xor (entry-byte (x 0) r 0 (h 0) hr (omega arith))
      (ap₂ xor (entry-byte (x 1) r 1 (h 1) hr (omega arith)) (ap₂ xor (entry-byte (x 2) r 2 (h 2) hr (omega arith)) (entry-byte (x 3) r 3 (h 3) hr (omega arith))))

  module _ {s : List (List ℕ)} (h : StateBytes s) where
    pub table-round : table_round p s ≡ mix_with (matrix decrypting) (shift_rows (bytewise (substituted decrypting) s))
    unfolding table_round drawn mix_with shift_rows bytewise
    table-round =
        state_ext (λ r c. entry_sum p (λ k. at s k ((c + k) % 4)) r)
        (λ r c. dot (circulant (matrix decrypting) r) (λ k. at (shift_rows (bytewise (substituted decrypting) s)) k c))
        (λ r c hr hc. entry-sum (λ k. at s k ((c + k) % 4)) (λ k. h.byte k ((c + k) % 4)) r hr
        ∙ dot_ext (circulant (matrix decrypting) r) (λ k. substituted decrypting (at s k ((c + k) % 4))) (λ k. at (shift_rows (bytewise (substituted decrypting) s)) k c)
        (λ k hk. sym (brought k c hk hc)))
      where
        brought : (k c : ℕ) → k < 4 → c < 4 → at (state (λ r c. at (state (λ r c. substituted decrypting (at s r c))) r ((c + r) % 4))) k c ≡ substituted decrypting (at s k ((c + k) % 4))
        brought k c hk hc =
            at-state (λ r c. at (state (λ r c. substituted decrypting (at s r c))) r ((c + r) % 4)) k c hk hc
            ∙ at-state (λ r c. substituted decrypting (at s r c)) k ((c + k) % 4) hk (omega arith)

    pub last-round : last_round p s ≡ shift_rows (bytewise (substituted decrypting) s)
    unfolding last_round bytewise
    last-round = ap shift_rows (state_ext (λ r c. last_byte p (at s r c)) (λ r c. substituted decrypting (at s r c)) (λ r c hr hc. tab.last (at s r c) (h.byte r c)))
