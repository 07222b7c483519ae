-- The words of the round keys: where the code finds their bytes, and the three cases of their rule. Assumes nothing.
use mathlib.Core.Path.{◌≡◌, refl, sym, ap, ◌∙◌}
use mathlib.Core.Bool.{Bool, true, false, cond}
use mathlib.Core.List.{List}
use Prim.Native.Nat.{ℕ, ◌+◌, ◌-◌, ◌*◌, ◌≤◌, ◌<◌}
use native.Mathlib.Omega.{arith}
use lib.Dec.{ltb}
use lib.ListN.{get_or, replicate}
use borrow.Author.Tests.{ltb-true, ltb-false}
use Rattle.field.specs.Rows.{word_at}
use Rattle.cipher.specs.Cipher.{rounds_ok}
use Rattle.columns.specs.Inner.Words.{word_bytes}
use Rattle.prepared.specs.Inner.Parts.{Holds, Placed, Filled, reversed_rule, backward_rule, zero_from, word_rule, Unmixed, unmixed}
use Rattle.prepared.proofs.FillLaws.{zero-before, zero-after, zero_bytes}

module _ (rounds : ℕ) (keys : List ℕ) {reversed words : List ℕ} (h : Holds 60 (zero_from (4 * rounds + 4) (reversed_rule rounds keys)) reversed)
    (u : Unmixed (4 * rounds) reversed words) where
  backward-word : (i : ℕ) → i < 60 → i < 4 * rounds + 4 → word_bytes (get_or words i 0) ≡ backward_rule rounds keys i
  unfolding backward_rule
  backward-word i hi below = go (ltb i 4) (ltb i (4 * rounds)) refl refl
    where
      reversed-word : word_bytes (get_or reversed i 0) ≡ reversed_rule rounds keys i
      reversed-word = h.word i hi ∙ zero-before (4 * rounds + 4) (reversed_rule rounds keys) i below

      go : (t v : Bool) → ltb i 4 ≡ t → ltb i (4 * rounds) ≡ v
          → word_bytes (get_or words i 0) ≡ cond t (reversed_rule rounds keys i) (cond v (unmixed (reversed_rule rounds keys i)) (reversed_rule rounds keys i))
      go true v p q = ap word_bytes (u.before i (ltb-true i 4 p)) ∙ reversed-word
      go false true p q = u.between i (ltb-false i 4 p) (ltb-true i (4 * rounds) q) ∙ ap unmixed reversed-word
      go false false p q = ap word_bytes (u.behind i (ltb-false i (4 * rounds) q)) ∙ reversed-word

  backward-held : Holds 60 (zero_from (4 * rounds + 4) (backward_rule rounds keys)) words
  backward-held = record { word = λ i hi. go i hi (ltb i (4 * rounds + 4)) refl }
    where
      go : (i : ℕ) → i < 60 → (t : Bool) → ltb i (4 * rounds + 4) ≡ t → word_bytes (get_or words i 0) ≡ zero_from (4 * rounds + 4) (backward_rule rounds keys) i
      go i hi true p =
          let below = ltb-true i (4 * rounds + 4) p in
          backward-word i hi below ∙ sym (zero-before (4 * rounds + 4) (backward_rule rounds keys) i below)
      go i hi false p =
          let above = ltb-false i (4 * rounds + 4) p in
          ap word_bytes (u.behind i (omega arith)) ∙ h.word i hi ∙ zero-after (4 * rounds + 4) (reversed_rule rounds keys) i above
          ∙ sym (zero-after (4 * rounds + 4) (backward_rule rounds keys) i above)

-- The words of decryption, and how the words of each direction are filled in.
module _ (rounds : ℕ) (keys : List ℕ) where
  pub scheduled-backward : {reversed words : List ℕ} → rounds_ok rounds ≡ true → Holds 60 (zero_from (4 * rounds + 4) (reversed_rule rounds keys)) reversed
      → Unmixed (4 * rounds) reversed words → Holds 60 (word_rule true rounds keys) words
  unfolding word_rule
  scheduled-backward q h u = rw q (backward-held rounds keys h u)

  pub scheduled-refused : rounds_ok rounds ≡ false → Holds 60 (word_rule true rounds keys) (replicate 60 0)
  unfolding word_rule
  scheduled-refused q = rw q (zero_bytes 60 (backward_rule rounds keys))

  pub filled-backward : {decrypting : Bool} {words before after : List ℕ} → decrypting ≡ true → Holds 60 (word_rule true rounds keys) words
      → Placed 1280 1340 (λ i word. word ≡ get_or words (i - 1280) 0) before after → Filled 1280 1340 (λ i. word_rule decrypting rounds keys (i - 1280)) before after
  filled-backward p h f = rw p (record { kept = f.kept; word = λ i l u. ap word_bytes (f.word i l u) ∙ h.word (i - 1280) (omega arith) })

  pub filled-forward : {decrypting : Bool} {before after : List ℕ} → decrypting ≡ false → Filled 1280 1340 (λ i. word_at keys (i - 1280)) before after
      → Filled 1280 1340 (λ i. word_rule decrypting rounds keys (i - 1280)) before after
  unfolding word_rule
  filled-forward p f = rw p f

-- The words of the round keys, where the rounds read them.
pub record Scheduled (count : ℕ) (rule : ℕ → List ℕ) (p : List ℕ) : Type 0 where
  pub word : (place i : ℕ) → place ≡ 1280 + i → i < count → word_bytes (get_or p place 0) ≡ rule i

pub scheduled_enc : (rounds : ℕ) (keys : List ℕ) {p : List ℕ} → Scheduled 60 (word_rule false rounds keys) p → Scheduled 60 (word_at keys) p
unfolding word_rule
scheduled_enc rounds keys h = h

pub scheduled_dec : (rounds : ℕ) (keys : List ℕ) {p : List ℕ} → rounds_ok rounds ≡ true → 4 * rounds + 4 ≤ 60
    → Scheduled 60 (word_rule true rounds keys) p → Scheduled (4 * rounds + 4) (backward_rule rounds keys) p
unfolding word_rule
scheduled_dec rounds keys ok few h =
    record {
      word = λ place i e hi. h.word place i e (omega arith) ∙ ap (λ b. zero_from (cond b (4 * rounds + 4) 0) (backward_rule rounds keys) i) ok
          ∙ zero-before (4 * rounds + 4) (backward_rule rounds keys) i hi;
    }
