-- The words that are prepared, part by part, follow one rule. Assumes nothing.
use mathlib.Core.Path.{◌≡◌, sym, ap, ◌∙◌}
use mathlib.Core.Bool.{Bool, cond}
use mathlib.Core.List.{List}
use Prim.Native.Nat.{ℕ, ◌-◌, ◌/◌, ◌%◌, ◌≤◌, ◌<◌}
use native.Mathlib.Omega.{arith}
use lib.ListN.{length, get_or, set, length-set}
use borrow.Author.Tests.{lt-ltb, le-ltb}
use Rattle.boxes.specs.Boxes.{Tabulates}
use Rattle.cipher.specs.Cipher.{rounds_ok}
use Rattle.columns.specs.Inner.Words.{word_bytes}
use Rattle.prepared.specs.Inner.Parts.{Holds, Filled, substituted, column_times, entry_rule, byte_word, table_rule, word_rule, end_rule, prepared_rule}
use Rattle.prepared.proofs.FillLaws.{held_more, placed_none, placed_next}

-- ---- the tables

module _ (decrypting : Bool) (i : ℕ) where
  pub in_table : i < 1024 → table_rule decrypting i ≡ column_times decrypting (i / 256) (substituted decrypting (i % 256))
  unfolding table_rule
  in_table h = rw (lt-ltb i 1024 h)

  pub in-last : 1024 ≤ i → table_rule decrypting i ≡ byte_word (substituted decrypting (i - 1024))
  unfolding table_rule
  in-last l = rw (le-ltb i 1024 l)

pub tables_held : (decrypting : Bool) {last p q : List ℕ} → Tabulates (substituted decrypting) last → Holds 1024 (entry_rule decrypting last) p
    → Filled 1024 1280 (λ i. byte_word (get_or last (i - 1024) 0)) p q → Holds 1280 (table_rule decrypting) q
unfolding entry_rule
tables_held decrypting {last} {p} tab h f = held_more table f (λ i l hi. ap byte_word (tab.entry (i - 1024) (omega arith)) ∙ sym (in-last decrypting i l))
  where
    table : Holds 1024 (table_rule decrypting) p
    table =
        record { word = λ i hi. h.word i hi ∙ ap (column_times decrypting (i / 256)) (tab.entry (i % 256) (omega arith)) ∙ sym (in_table decrypting i hi) }

-- ---- all of it

module _ (decrypting : Bool) (rounds : ℕ) (keys : List ℕ) (i : ℕ) where
  pub in_tables : i < 1280 → prepared_rule decrypting rounds keys i ≡ table_rule decrypting i
  unfolding prepared_rule
  in_tables h = rw (lt-ltb i 1280 h)

  pub in-keys : 1280 ≤ i → i < 1340 → prepared_rule decrypting rounds keys i ≡ word_rule decrypting rounds keys (i - 1280)
  unfolding prepared_rule
  in-keys l h = rw (le-ltb i 1280 l, lt-ltb i 1340 h)

  pub in-ends : 1340 ≤ i → prepared_rule decrypting rounds keys i ≡ end_rule decrypting rounds i
  unfolding prepared_rule
  in-ends l = rw (le-ltb i 1280 (omega arith), le-ltb i 1340 l)

module _ (decrypting : Bool) (rounds : ℕ) (keys : List ℕ) where
  pub all_held : {p q t : List ℕ} → Holds 1280 (table_rule decrypting) p → Filled 1280 1340 (λ i. word_rule decrypting rounds keys (i - 1280)) p q
      → Filled 1340 1342 (end_rule decrypting rounds) q t → Holds 1342 (prepared_rule decrypting rounds keys) t
  all_held {p} tables words ends =
      held_more (held_more first words (λ i l hi. sym (in-keys decrypting rounds keys i l hi))) ends (λ i l hi. sym (in-ends decrypting rounds keys i l))
    where
      first : Holds 1280 (prepared_rule decrypting rounds keys) p
      first = record { word = λ i hi. tables.word i hi ∙ sym (in_tables decrypting rounds keys i hi) }

-- the two words at the end, as they are stored
pub ends_filled : (decrypting : Bool) (rounds : ℕ) (p : List ℕ) {n d : ℕ} → length p ≡ 1342 → n ≡ cond (rounds_ok rounds) rounds 0 → d ≡ cond decrypting 1 0
    → Filled 1340 1342 (end_rule decrypting rounds) p (set (set p 1340 n) 1341 d)
unfolding end_rule
ends_filled decrypting rounds p {n} {d} long e f =
    placed_next (set p 1340 n) 1341 d (omega (arith, length-set p 1340 n, long)) (omega arith)
    (placed_next p 1340 n (omega (arith, long)) (omega arith) (placed_none 1340 _ p) (ap word_bytes e)) (ap word_bytes f)
