-- A loop that stores one word a turn: the words that it has stored follow a rule, and the others are as they were, or
-- zero. Assumes nothing.
use mathlib.Core.Path.{◌≡◌, refl, sym, ap, ◌∙◌}
use mathlib.Core.Bool.{Bool, true, false}
use mathlib.Core.List.{List}
use Prim.Native.Nat.{ℕ, ◌+◌, ◌≤◌, ◌<◌}
use native.Mathlib.Omega.{arith}
use lib.Dec.{ltb, eqb}
use lib.ListN.{length, get_or, get_or-replicate, set, replicate}
use lib.Seq.{get_or-set_same, get_or-set_other}
use borrow.Author.Tests.{ltb-true, ltb-false, lt-ltb, le-ltb, eqb-true, eqb-false}
use Rattle.bits.proofs.Tables.{stored_next}
use Rattle.field.specs.Rows as Rows
use Rattle.columns.specs.Inner.Words.{byte_at, word_bytes}
use Rattle.prepared.specs.Inner.Parts.{Holds, Placed, Filled, zero_from, Unmixed, unmixed}

-- after what follows a rule, one part more that does
pub held_more : {a b : ℕ} {rule part : ℕ → List ℕ} {before after : List ℕ} → Holds a rule before → Filled a b part before after
    → ((i : ℕ) → a ≤ i → i < b → part i ≡ rule i) → Holds b rule after
held_more {a} {b} {rule} {part} {before} {after} h f same = record { word = λ i hi. go i hi (ltb i a) refl }
  where
    go : (i : ℕ) → i < b → (t : Bool) → ltb i a ≡ t → word_bytes (get_or after i 0) ≡ rule i
    go i hi true e = ap word_bytes (f.kept i (ltb-true i a e)) ∙ h.word i (ltb-true i a e)
    go i hi false e = f.word i (ltb-false i a e) hi ∙ same i (ltb-false i a e) hi

-- ---- a part from one place on

pub placed_none : (start : ℕ) (made : ℕ → ℕ → Type 0) (words : List ℕ) → Placed start start made words words
placed_none start made words = record { kept = λ i h. refl; word = λ i l h. absurd (omega arith) }

-- of each word one thing, and so another
pub placed_as : {start end : ℕ} {made : ℕ → ℕ → Type 0} (then : ℕ → ℕ → Type 0) {before after : List ℕ} → Placed start end made before after
    → ((i : ℕ) → start ≤ i → i < end → (word : ℕ) → made i word → then i word) → Placed start end then before after
placed_as then {after = after} f h = record { kept = f.kept; word = λ i l u. h i l u (get_or after i 0) (f.word i l u) }

-- a part that begins at the first place
pub placed_held : {end : ℕ} {rule : ℕ → List ℕ} {before after : List ℕ} → Filled 0 end rule before after → Holds end rule after
placed_held f = record { word = λ i h. f.word i (omega arith) h }

-- ---- zero from a count on

module _ (count : ℕ) (rule : ℕ → List ℕ) (i : ℕ) where
  pub zero-before : i < count → zero_from count rule i ≡ rule i
  unfolding zero_from
  zero-before h = rw (lt-ltb i count h) refl

  pub zero-after : count ≤ i → zero_from count rule i ≡ replicate 4 0
  unfolding zero_from
  zero-after h = rw (le-ltb i count h) refl

pub zero_bytes : (n : ℕ) (rule : ℕ → List ℕ) → Holds n (zero_from 0 rule) (replicate n 0)
unfolding word_bytes byte_at Rows.four
zero_bytes n rule = record { word = λ i h. ap word_bytes (get_or-replicate n i 0 0 h) ∙ sym (zero-after 0 rule i (omega arith)) }

module _ (l : List ℕ) (i v : ℕ) (room : i < length l) where
  kept : (j : ℕ) → (j ≡ i → ⊥) → get_or (set l i v) j 0 ≡ get_or l j 0
  kept j h = get_or-set_other l i j v 0 h

  pub held_next : (rule : ℕ → List ℕ) → Holds i rule l → word_bytes v ≡ rule i → Holds (i + 1) rule (set l i v)
  held_next rule h e = record { word = stored_next l i v room (λ j x. word_bytes x ≡ rule j) h.word e }

  pub placed_next : {start : ℕ} {made : ℕ → ℕ → Type 0} {before : List ℕ} → start ≤ i → Placed start i made before l → made i v → Placed start (i + 1) made before (set l i v)
  placed_next {start} {made} {before} past f e =
      record {
        kept = λ j hj. kept j (λ x. omega arith) ∙ f.kept j hj;
        word = λ j lower hj. stored_next l i v room (λ j x. start ≤ j → made j x) (λ j hj lower. f.word j lower hj) (λ lower. e) j hj lower;
      }

  pub zero-next : (n : ℕ) (rule : ℕ → List ℕ) → Holds n (zero_from i rule) l → word_bytes v ≡ rule i → Holds n (zero_from (i + 1) rule) (set l i v)
  zero-next n rule h e = record { word = λ j hj. go j hj (eqb j i) (ltb j i) refl refl }
    where
      go : (j : ℕ) → j < n → (t u : Bool) → eqb j i ≡ t → ltb j i ≡ u → word_bytes (get_or (set l i v) j 0) ≡ zero_from (i + 1) rule j
      go j hj true u p q = let same : j ≡ i = eqb-true j i p in rw same (ap word_bytes (get_or-set_same l i v 0 room) ∙ e ∙ sym (zero-before (i + 1) rule i (omega arith)))
      go j hj false true p q =
          ap word_bytes (kept j (eqb-false j i p)) ∙ h.word j hj ∙ zero-before i rule j (ltb-true j i q)
          ∙ sym (zero-before (i + 1) rule j (let x = ltb-true j i q in omega arith))
      go j hj false false p q =
          ap word_bytes (kept j (eqb-false j i p)) ∙ h.word j hj ∙ zero-after i rule j (ltb-false j i q)
          ∙ sym (zero-after (i + 1) rule j (let x = ltb-false j i q in let y = eqb-false j i p in omega arith))

  -- the words from place 4 on
  pub unmixed-next : (others : List ℕ) → 4 ≤ i → Unmixed i others l → word_bytes v ≡ unmixed (word_bytes (get_or l i 0)) → Unmixed (i + 1) others (set l i v)
  unmixed-next others past h e =
      record {
        before = λ j hj. kept j (λ x. omega arith) ∙ h.before j hj;
        between = λ j lower hj. stored_next l i v room (λ j x. 4 ≤ j → word_bytes x ≡ unmixed (word_bytes (get_or others j 0)))
            (λ j hj lower. h.between j lower hj) (λ lower. e ∙ ap (λ x. unmixed (word_bytes x)) (h.behind i (omega arith))) j hj lower;
        behind = λ j hj. kept j (λ x. omega arith) ∙ h.behind j (omega arith);
      }

pub unmixed-all : {i n : ℕ} {others words : List ℕ} → i ≡ n → Unmixed i others words → Unmixed n others words
unmixed-all e h = rw (sym e) h

pub unmixed_none : (words : List ℕ) → Unmixed 4 words words
unmixed_none words = record { before = λ i h. refl; between = λ i lower h. absurd (omega arith); behind = λ i h. refl }
