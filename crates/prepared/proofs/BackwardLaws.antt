-- Decryption: the equivalent inverse cipher of FIPS 197 section 5.3.5, on columns in the order 0, 3, 2, 1, is the
-- inverse cipher. InvMixColumns goes through AddRoundKey, and the mirror through every step. Assumes nothing.
use mathlib.Core.Path.{◌≡◌, refl, sym, ap, ap₂, ◌∙◌}
use mathlib.Core.Bool.{true}
use mathlib.Core.List.{List}
use Prim.Native.Nat.{ℕ, zero, suc, ◌+◌, ◌-◌, ◌*◌, ◌/◌, ◌%◌, ◌≤◌, ◌<◌}
use native.Mathlib.Omega.{arith}
use lib.ListN.{get_or}
use borrow.Author.Tests.{lt-ltb, le-ltb}
use Rattle.bits.specs.Xor.{xor}
use Rattle.bits.specs.Blocks.{Block}
use Rattle.bits.proofs.Xor as Xor
use Rattle.field.specs.Field.{product}
use Rattle.field.specs.Rows.{four, word_at}
use Rattle.field.proofs.FieldLaws.{product-xor}
use Rattle.steps.specs.State.{at, state, from_block, to_block}
use Rattle.steps.specs.Steps.{bytewise, inv_sub_bytes, shift_rows, inv_shift_rows, circulant, dot, mix_with, inv_mix_columns, add_round_key}
use Rattle.field.proofs.Fours.{four_ext}
use Rattle.cipher.specs.Cipher.{inv_rounds, inv_cipher}
use Rattle.steps.proofs.StateLaws.{StateBytes, at-state, state_ext, state_byte}
use Rattle.steps.proofs.MixLaws.{dot_ext}
use Rattle.columns.specs.Inner.Words.{byte_at}
use Rattle.columns.specs.Inner.Rounds.{table_round, last_round, add_words, rounds_by, mirrored, arranged, decrypts_by, block_by_rounds}
use Rattle.prepared.specs.Inner.Parts.{substituted, matrix, unmixed, reversed_rule, backward_rule}
use Rattle.prepared.proofs.KeyLaws.{Scheduled}
use Rattle.columns.proofs.ByteLaws.{word_byte}
use Rattle.prepared.proofs.TableLaws.{Tabled, table-round, last-round}
use Rattle.prepared.proofs.ForwardLaws.{block_bytes, rounds_by_bytes}

-- ---- InvMixColumns goes through a sum

dot-xor : (m x y : ℕ → ℕ) → dot m (λ k. xor (x k) (y k)) ≡ xor (dot m x) (dot m y)
unfolding dot
dot-xor m x y =
    ap₂ xor (product-xor (m 0) (x 0) (y 0)) (ap₂ xor (product-xor (m 1) (x 1) (y 1)) (ap₂ xor (product-xor (m 2) (x 2) (y 2)) (product-xor (m 3) (x 3) (y 3))))
    ∙ crossed (product (m 0) (x 0)) (product (m 0) (y 0)) (product (m 1) (x 1)) (product (m 1) (y 1)) (product (m 2) (x 2)) (product (m 2) (y 2)) (product (m 3) (x 3)) (product (m 3) (y 3))
  where
    crossed : (a b c d e f g h : ℕ) → xor (xor a b) (xor (xor c d) (xor (xor e f) (xor g h))) ≡ xor (xor a (xor c (xor e g))) (xor b (xor d (xor f h)))
    crossed a b c d e f g h = simp Xor.sorted

-- a key, by row and column, added to a state
add_at : (ℕ → ℕ → ℕ) → List (List ℕ) → List (List ℕ)
add_at key s = state (λ r c. xor (at s r c) (key r c))

mix_with_added : (first : List ℕ) (key : ℕ → ℕ → ℕ) (s : List (List ℕ)) → mix_with first (add_at key s) ≡ add_at (λ r c. dot (circulant first r) (λ k. key k c)) (mix_with first s)
unfolding mix_with add_at
mix_with_added first key s =
    state_ext (λ r c. dot (circulant first r) (λ k. at (add_at key s) k c)) (λ r c. xor (at (mix_with first s) r c) (dot (circulant first r) (λ k. key k c)))
    (λ r c hr hc. dot_ext (circulant first r) (λ k. at (add_at key s) k c) (λ k. xor (at s k c) (key k c)) (λ k hk. at-state (λ r c. xor (at s r c) (key r c)) k c hk hc)
    ∙ dot-xor (circulant first r) (λ k. at s k c) (λ k. key k c)
    ∙ ap (λ x. xor x (dot (circulant first r) (λ k. key k c))) (sym (at-state (λ r c. dot (circulant first r) (λ k. at s k c)) r c hr hc)))

-- ---- the mirror goes through every step

mirrored_bytes : {s : List (List ℕ)} → StateBytes s → StateBytes (mirrored s)
unfolding mirrored
mirrored_bytes {s} h = record { byte = state_byte (λ r c. at s r ((4 - c) % 4)) (λ r c. h.byte r ((4 - c) % 4)) }

mirrored_shifted : (s : List (List ℕ)) → mirrored (shift_rows (bytewise (substituted true) s)) ≡ inv_sub_bytes (inv_shift_rows (mirrored s))
unfolding mirrored shift_rows bytewise inv_sub_bytes inv_shift_rows substituted at state four
mirrored_shifted s = refl

mirrored_mixed : (first : List ℕ) (s : List (List ℕ)) → mirrored (mix_with first s) ≡ mix_with first (mirrored s)
unfolding mirrored mix_with at state four dot
mirrored_mixed first s = refl

-- words whose bytes are a key's, column for mirrored column
mirrored_added : (p : List ℕ) (round : ℕ) (key : ℕ → ℕ → ℕ)
    → ((r c : ℕ) → r < 4 → c < 4 → byte_at (get_or p (1280 + 4 * round + c) 0) r ≡ key r ((4 - c) % 4))
    → (s : List (List ℕ)) → mirrored (add_words p round s) ≡ add_at key (mirrored s)
unfolding mirrored add_words add_at
mirrored_added p round key e s =
    state_ext (λ r c. at (add_words p round s) r ((4 - c) % 4)) (λ r c. xor (at (mirrored s) r c) (key r c))
    (λ r c hr hc. at-state (λ r c. xor (at s r c) (byte_at (get_or p (1280 + 4 * round + c) 0) r)) r ((4 - c) % 4) hr (omega arith)
    ∙ ap₂ xor (sym (at-state (λ r c. at s r ((4 - c) % 4)) r c hr hc)) (e r ((4 - c) % 4) hr (omega arith) ∙ ap (key r) (twice c hc)))
  where
    twice : (c : ℕ) → c < 4 → (4 - (4 - c) % 4) % 4 ≡ c
    twice c hc = omega arith

mirrored_twice : (key : ℕ → ℕ → ℕ) (s : List (List ℕ)) → add_at key (mirrored (mirrored s)) ≡ add_at key s
unfolding add_at mirrored at state four
mirrored_twice key s = refl

-- ---- the words

-- byte r of column c of a round key
key_at : List ℕ → ℕ → ℕ → ℕ → ℕ
key_at keys round r c = get_or keys (16 * round + (4 * c + r)) 0

key_word : (keys : List ℕ) (round c : ℕ) → word_at keys (4 * round + c) ≡ four (λ r. key_at keys round r c)
unfolding word_at key_at
key_word keys round c = four_ext _ _ (λ r hr. ap (λ n. get_or keys n 0) (place r))
  where
    place : (r : ℕ) → 4 * (4 * round + c) + r ≡ 16 * round + (4 * c + r)
    place r = omega arith

unmixed-column : (x : ℕ → ℕ) → unmixed (four x) ≡ four (λ r. dot (circulant (matrix true) r) x)
unfolding unmixed dot four
unmixed-column x = refl

module _ (nr : ℕ) (keys : List ℕ) where
  reversed : (round c : ℕ) → c < 4 → reversed_rule nr keys (4 * round + c) ≡ four (λ r. key_at keys (nr - round) r ((4 - c) % 4))
  unfolding reversed_rule
  reversed round c hc = ap₂ (λ m n. word_at keys (4 * (nr - m) + (4 - n) % 4)) over rest ∙ key_word keys (nr - round) ((4 - c) % 4)
    where
      over : (4 * round + c) / 4 ≡ round
      over = omega arith

      rest : (4 * round + c) % 4 ≡ c
      rest = omega arith

  rule-first : (c : ℕ) → c < 4 → backward_rule nr keys (4 * 0 + c) ≡ reversed_rule nr keys (4 * 0 + c)
  unfolding backward_rule
  rule-first c hc = rw (lt-ltb (4 * 0 + c) 4 (omega arith))

  rule-middle : (round c : ℕ) → 0 < round → round < nr → c < 4 → backward_rule nr keys (4 * round + c) ≡ unmixed (reversed_rule nr keys (4 * round + c))
  unfolding backward_rule
  rule-middle round c lower upper hc = rw (le-ltb (4 * round + c) 4 (omega arith), lt-ltb (4 * round + c) (4 * nr) (omega arith))

  rule-last : 0 < nr → (c : ℕ) → backward_rule nr keys (4 * nr + c) ≡ reversed_rule nr keys (4 * nr + c)
  unfolding backward_rule
  rule-last lower c = rw (le-ltb (4 * nr + c) 4 (omega arith), le-ltb (4 * nr + c) (4 * nr) (omega arith))

  module _ {p : List ℕ} (scheduled : Scheduled (4 * nr + 4) (backward_rule nr keys) p) (round m : ℕ) (h : round ≤ nr) (e : nr - round ≡ m) where
    outer-byte : ((c : ℕ) → c < 4 → backward_rule nr keys (4 * round + c) ≡ reversed_rule nr keys (4 * round + c))
        → (r c : ℕ) → r < 4 → c < 4 → byte_at (get_or p (1280 + 4 * round + c) 0) r ≡ key_at keys m r ((4 - c) % 4)
    outer-byte rule r c hr hc =
        word_byte (get_or p (1280 + 4 * round + c) 0) (λ r. key_at keys m r ((4 - c) % 4))
        (scheduled.word (1280 + 4 * round + c) (4 * round + c) (omega arith) (omega arith) ∙ rule c hc ∙ reversed round c hc ∙ ap (λ n. four (λ r. key_at keys n r ((4 - c) % 4))) e) r hr

    middle-byte : ((c : ℕ) → c < 4 → backward_rule nr keys (4 * round + c) ≡ unmixed (reversed_rule nr keys (4 * round + c)))
        → (r c : ℕ) → r < 4 → c < 4 → byte_at (get_or p (1280 + 4 * round + c) 0) r ≡ dot (circulant (matrix true) r) (λ k. key_at keys m k ((4 - c) % 4))
    middle-byte rule r c hr hc =
        word_byte (get_or p (1280 + 4 * round + c) 0) (λ r. dot (circulant (matrix true) r) (λ k. key_at keys m k ((4 - c) % 4)))
        (scheduled.word (1280 + 4 * round + c) (4 * round + c) (omega arith) (omega arith) ∙ rule c hc ∙ ap unmixed (reversed round c hc ∙ ap (λ n. four (λ r. key_at keys n r ((4 - c) % 4))) e)
        ∙ unmixed-column (λ k. key_at keys m k ((4 - c) % 4))) r hr

-- ---- the rounds

module _ (nr : ℕ) (lower : 0 < nr) (keys : List ℕ) {p : List ℕ} (tab : Tabled true p) (scheduled : Scheduled (4 * nr + 4) (backward_rule nr keys) p) where
  first_back : (s : List (List ℕ)) → mirrored (add_words p 0 (mirrored s)) ≡ add_round_key keys nr s
  unfolding add_round_key add_at key_at
  first_back s =
      mirrored_added p 0 (key_at keys nr) (outer-byte nr keys scheduled 0 nr (omega arith) (omega arith) (rule-first nr keys)) (mirrored s)
      ∙ mirrored_twice (key_at keys nr) s

  round-back : (round m : ℕ) → 0 < round → round < nr → nr - round ≡ m → {s : List (List ℕ)} → StateBytes s
      → mirrored (add_words p round (table_round p s)) ≡ inv_mix_columns (add_round_key keys m (inv_sub_bytes (inv_shift_rows (mirrored s))))
  unfolding inv_mix_columns matrix add_round_key add_at key_at
  round-back round m above below e {s} h =
      mirrored_added p round (λ r c. dot (circulant (matrix true) r) (λ k. key_at keys m k c))
      (middle-byte nr keys scheduled round m (omega arith) e (λ c. rule-middle nr keys round c above below)) (table_round p s)
      ∙ ap (add_at (λ r c. dot (circulant (matrix true) r) (λ k. key_at keys m k c)))
      (ap mirrored (table-round true tab h) ∙ mirrored_mixed (matrix true) (shift_rows (bytewise (substituted true) s)) ∙ ap (mix_with (matrix true)) (mirrored_shifted s))
      ∙ sym (mix_with_added (matrix true) (key_at keys m) (inv_sub_bytes (inv_shift_rows (mirrored s))))

  last-back : {s : List (List ℕ)} → StateBytes s → mirrored (add_words p nr (last_round p s)) ≡ add_round_key keys 0 (inv_sub_bytes (inv_shift_rows (mirrored s)))
  unfolding add_round_key add_at key_at
  last-back {s} h =
      mirrored_added p nr (key_at keys 0) (outer-byte nr keys scheduled nr 0 (omega arith) (omega arith) (λ c hc. rule-last nr keys lower c)) (last_round p s)
      ∙ ap (add_at (key_at keys 0)) (ap mirrored (last-round true tab h) ∙ mirrored_shifted s)

  -- what is left of the inverse cipher's rounds after j of them
  rounds-back : (j : ℕ) → j < nr → {s : List (List ℕ)} → StateBytes s
      → inv_rounds keys (nr - 1) (mirrored (rounds_by p 0 s)) ≡ inv_rounds keys (nr - 1 - j) (mirrored (rounds_by p j s))
  unfolding rounds_by inv_rounds
  rounds-back zero h {s} q = ap (λ n. inv_rounds keys n (mirrored (rounds_by p 0 s))) none
    where
      none : nr - 1 ≡ nr - 1 - 0
      none = omega arith
  rounds-back (suc j) h {s} q =
      rounds-back j (omega arith) q ∙ ap (λ n. inv_rounds keys n (mirrored (rounds_by p j s))) more
      ∙ ap (inv_rounds keys (nr - 1 - suc j)) (sym (round-back (suc j) (suc (nr - 1 - suc j)) (omega arith) h (omega arith) (rounds_by_bytes p j q)))
    where
      more : nr - 1 - j ≡ suc (nr - 1 - suc j)
      more = omega arith

  pub backward-cipher : decrypts_by p ≡ true → {b : List ℕ} → Block b → block_by_rounds p nr b ≡ inv_cipher nr keys b
  unfolding block_by_rounds arranged inv_cipher inv_rounds rounds_by
  backward-cipher way {b} q =
      let s : StateBytes (mirrored (from_block b)) = mirrored_bytes (block_bytes q) in
      let done : nr - 1 - (nr - 1) ≡ 0 = omega arith in
      rw way
      (ap to_block
      (last-back (rounds_by_bytes p (nr - 1) s)
      ∙ ap (λ x. add_round_key keys 0 (inv_sub_bytes (inv_shift_rows x)))
      (sym
      (ap (inv_rounds keys (nr - 1)) (sym (first_back (from_block b))) ∙ rounds-back (nr - 1) (omega arith) s
      ∙ ap (λ n. inv_rounds keys n (mirrored (rounds_by p (nr - 1) (mirrored (from_block b))))) done))))
