-- What is prepared runs as Enc, or as Dec: by cases on the rounds and the direction. Assumes nothing.
use mathlib.Core.Path.{◌≡◌, refl, sym, ap, ap₂, ◌∙◌}
use mathlib.Core.Bool.{Bool, true, false, cond}
use mathlib.Core.List.{List}
use Prim.Native.Nat.{ℕ, ◌+◌, ◌-◌, ◌*◌, ◌/◌, ◌%◌, ◌<◌}
use native.Mathlib.Omega.{arith}
use lib.Dec.{ltb}
use lib.ListN.{get_or}
use Rattle.bits.specs.Blocks.{Block}
use Rattle.field.specs.Rows.{four}
use Rattle.cipher.specs.Cipher.{rounds_ok, Enc, Dec}
use Rattle.cipher.proofs.CipherLaws.{enc_cipher, dec_cipher, enc_refused, dec_refused}
use Rattle.cipher.proofs.RoundLaws.{rounds_bounds}
use Rattle.columns.specs.Inner.Words.{byte_at, word_bytes}
use Rattle.columns.specs.Inner.Rounds.{last_byte, rounds_in, decrypts_by}
use Rattle.prepared.specs.Inner.Parts.{Holds, substituted, column_times, byte_word, word_rule, end_rule, prepared_rule}
use Rattle.prepared.specs.Prepared.{prepared_block, PreparedFor, PreparedBy}
use Rattle.prepared.proofs.KeyLaws.{Scheduled, scheduled_enc, scheduled_dec}
use Rattle.columns.proofs.RunLaws.{run-rounds, run-refused}
use Rattle.columns.proofs.ByteLaws.{word_byte}
use Rattle.prepared.proofs.TableLaws.{Tabled}
use Rattle.prepared.proofs.PartLaws.{in_table, in-last, in_tables, in-keys, in-ends}
use Rattle.prepared.proofs.ForwardLaws.{forward-cipher}
use Rattle.prepared.proofs.BackwardLaws.{backward-cipher}

lowest : (x y : ℕ) → word_bytes x ≡ word_bytes y → byte_at x 0 ≡ byte_at y 0
unfolding word_bytes
lowest x y e = word_byte x (byte_at y) e 0 (omega arith)

module _ (decrypting : Bool) (rounds : ℕ) (keys : List ℕ) {p : List ℕ} (h : Holds 1342 (prepared_rule decrypting rounds keys) p) where
  tabled : Tabled decrypting p
  unfolding last_byte byte_word word_bytes four
  tabled =
      record {
        entry = λ b k hb hk. h.word (256 * k + b) (omega arith) ∙ in_tables decrypting rounds keys (256 * k + b) (omega arith) ∙ in_table decrypting (256 * k + b) (omega arith)
            ∙ ap₂ (λ k b. column_times decrypting k (substituted decrypting b)) (part b k hb) (byte b k hb);
        last = λ b hb. ap (λ l. get_or l 0 0) (h.word (1024 + b) (omega arith) ∙ in_tables decrypting rounds keys (1024 + b) (omega arith) ∙ in-last decrypting (1024 + b) (omega arith))
            ∙ ap (substituted decrypting) (back b);
      }
    where
      part : (b k : ℕ) → b < 256 → (256 * k + b) / 256 ≡ k
      part b k hb = omega arith

      byte : (b k : ℕ) → b < 256 → (256 * k + b) % 256 ≡ b
      byte b k hb = omega arith

      back : (b : ℕ) → 1024 + b - 1024 ≡ b
      back b = omega arith

  scheduled : Scheduled 60 (word_rule decrypting rounds keys) p
  scheduled =
      record {
        word = λ place i e hi. h.word place (omega arith) ∙ in-keys decrypting rounds keys place (omega arith) (omega arith)
            ∙ ap (word_rule decrypting rounds keys) (back place i e);
      }
    where
      back : (place i : ℕ) → place ≡ 1280 + i → place - 1280 ≡ i
      back place i e = omega arith

  rounds-in : rounds_in p ≡ byte_at (cond (rounds_ok rounds) rounds 0) 0
  unfolding rounds_in end_rule
  rounds-in = lowest (get_or p 1340 0) (cond (rounds_ok rounds) rounds 0) (h.word 1340 (omega arith) ∙ in-ends decrypting rounds keys 1340 (omega arith))

  rounds-kept : rounds_ok rounds ≡ true → rounds_in p ≡ rounds
  unfolding byte_at
  rounds-kept e = let bounds = rounds_bounds rounds e in rounds-in ∙ ap (λ t. byte_at (cond t rounds 0) 0) e ∙ small rounds (omega arith)
    where
      small : (n : ℕ) → n < 256 → n / 1 % 256 ≡ n
      small n l = omega arith

  rounds-refused : rounds_ok rounds ≡ false → rounds_ok (rounds_in p) ≡ false
  unfolding byte_at rounds_ok
  rounds-refused e = ap rounds_ok (rounds-in ∙ ap (λ t. byte_at (cond t rounds 0) 0) e)

way : (decrypting : Bool) (rounds : ℕ) (keys : List ℕ) {p : List ℕ} → Holds 1342 (prepared_rule decrypting rounds keys) p → decrypts_by p ≡ decrypting
unfolding decrypts_by byte_at end_rule
way true rounds keys {p} h = ap (ltb 0) (lowest (get_or p 1341 0) 1 (h.word 1341 (omega arith) ∙ in-ends true rounds keys 1341 (omega arith)))
way false rounds keys {p} h = ap (ltb 0) (lowest (get_or p 1341 0) 0 (h.word 1341 (omega arith) ∙ in-ends false rounds keys 1341 (omega arith)))

prepared_for : (decrypting : Bool) (rounds : ℕ) (keys : List ℕ) {p : List ℕ} → Holds 1342 (prepared_rule decrypting rounds keys) p → PreparedFor decrypting rounds keys p
prepared_for decrypting rounds keys {p} held = record { same = λ b h. go decrypting (rounds_ok rounds) refl held b h }
  where
    go : (d t : Bool) → rounds_ok rounds ≡ t → Holds 1342 (prepared_rule d rounds keys) p
        → (b : List ℕ) → Block b → prepared_block p b ≡ cond d (Dec rounds keys b) (Enc rounds keys b)
    go true true e held b h =
        let bounds = rounds_bounds rounds e in
        run-rounds p b (sym (rounds-kept true rounds keys held e)) e
        ∙ backward-cipher rounds (omega arith) keys (tabled true rounds keys held) (scheduled_dec rounds keys e (omega arith) (scheduled true rounds keys held)) (way true rounds keys held) h
        ∙ sym (dec_cipher rounds keys b e)
    go false true e held b h =
        let bounds = rounds_bounds rounds e in
        run-rounds p b (sym (rounds-kept false rounds keys held e)) e
        ∙ forward-cipher keys (tabled false rounds keys held) (scheduled_enc rounds keys (scheduled false rounds keys held)) (way false rounds keys held) rounds (omega arith) h
        ∙ sym (enc_cipher rounds keys b e)
    go true false e held b h = run-refused p b refl (rounds-refused true rounds keys held e) ∙ sym (dec_refused rounds keys b e)
    go false false e held b h = run-refused p b refl (rounds-refused false rounds keys held e) ∙ sym (enc_refused rounds keys b e)

pub prepared_by : (decrypting : Bool) (rounds : ℕ) (keys : List ℕ) {p : List ℕ} → Holds 1342 (prepared_rule decrypting rounds keys) p → PreparedBy decrypting rounds keys p
prepared_by decrypting rounds keys held = record { words = held; block_function = prepared_for decrypting rounds keys held }
