-- What the public calls answer for a key that question 1 accepts, and for one that it refuses. Assumes nothing.
use mathlib.Core.Path.{◌≡◌, refl, sym, ap, ◌∙◌}
use mathlib.Core.Bool.{Bool, true, false, cond, true≢false}
use mathlib.Core.List.{List}
use mathlib.Core.Logic.{inl, inr, ◌↔◌}
use Prim.Native.Nat.{ℕ, ◌+◌, ◌/◌}
use lib.ListN.{length, replicate}
use Rattle.std.specs.Prelude.{Result, Ok, Err, IsErr}
use Rattle.bits.specs.Blocks.{Bytes}
use Rattle.cipher.specs.Cipher.{rounds_ok}
use Rattle.cipher.specs.Promises.{UndoEachOther}
use Rattle.bits.proofs.TestLaws.{passed}
use Rattle.cipher.proofs.CipherLaws.{enc_refused, dec_refused, undo_each_other}
use Rattle.expansion.specs.KeyExpansion.{rounds_for, round_keys}
use Rattle.aes.specs.Calls.{key_ok, key_number, key_rounds, key_bytes, bad_key, encrypted, decrypted, number_in, block_in, Expanded, BlockAnswer}
use Rattle.aes.specs.Promises.{AcceptedExpands, KeyGivesCipher, KeyLength, CallsAnswer}
use Rattle.expansion.proofs.Filled.{zeros_bytes}
use Rattle.expansion.proofs.KeyLaws.{key_words, round_keys_bytes, round_keys-length}

pub key_bytes_bytes : (key : List ℕ) → Bytes key → Bytes (key_bytes key)
unfolding key_bytes
key_bytes_bytes key h = go (key_ok key)
  where
    go : (b : Bool) → Bytes (cond b (round_keys key) (replicate 240 0))
    go true = round_keys_bytes h
    go false = zeros_bytes 240

pub key_bytes-length : (key : List ℕ) → length (key_bytes key) ≡ 240
unfolding key_bytes
key_bytes-length key = go (key_ok key) refl
  where
    go : (b : Bool) → key_ok key ≡ b → length (cond b (round_keys key) (replicate 240 0)) ≡ 240
    go true e = round_keys-length key (key_words key e)
    go false e = refl

module _ (key : List ℕ) where
  pub key-accepted : {keys : List ℕ} → key_ok key ≡ true → keys ≡ round_keys key → Expanded key 0 (length key / 4 + 6) keys
  unfolding key_number key_rounds key_bytes rounds_for
  key-accepted e k = record { answer = rw e; expanded_rounds = rw e; expanded_keys = rw e k }

  pub key_refused : key_ok key ≡ false → Expanded key 1 0 (replicate 240 0)
  unfolding key_number key_rounds key_bytes
  key_refused e = record { answer = rw e; expanded_rounds = rw e; expanded_keys = rw e }

  pub accepted-rounds : key_ok key ≡ true → rounds_ok (key_rounds key) ≡ true
  unfolding key_ok key_rounds rounds_for rounds_ok
  accepted-rounds ok =
      ap (λ b. rounds_ok (cond b (rounds_for (length key / 4)) 0)) ok
      ∙ passed (λ l. rounds_ok (rounds_for (l / 4)) ≡ true) (length key) 16 24 32 ok refl refl refl

  -- ---- the number

  length-accepted : key_ok key ≡ true → KeyLength (length key)
  unfolding key_ok KeyLength
  length-accepted e = passed KeyLength (length key) 16 24 32 e (inl refl) (inr (inl refl)) (inr (inr refl))

  accepted-length : KeyLength (length key) → key_ok key ≡ true
  unfolding key_ok KeyLength
  accepted-length (inl e) = rw e
  accepted-length (inr (inl e)) = rw e
  accepted-length (inr (inr e)) = rw e

  -- the answer to question 1, from the number
  number-zero : key_number key ≡ 0 → key_ok key ≡ true
  unfolding key_number
  number-zero = go (key_ok key)
    where
      go : (b : Bool) → ◌≡◌ {A = ℕ} (cond b 0 1) 0 → b ≡ true
      go true e = refl
      go false e = cc

  number-one : key_number key ≡ 1 → key_ok key ≡ false
  unfolding key_number
  number-one = go (key_ok key)
    where
      go : (b : Bool) → ◌≡◌ {A = ℕ} (cond b 0 1) 1 → b ≡ false
      go true e = cc
      go false e = refl

  zero-exactly : (key_number key ≡ 0) ↔ KeyLength (length key)
  unfolding key_number
  zero-exactly = (λ e. length-accepted (number-zero e), λ l. rw (accepted-length l))

  one-exactly : (key_number key ≡ 1) ↔ (KeyLength (length key) → ⊥)
  unfolding key_number
  one-exactly = (λ e l. true≢false (sym (accepted-length l) ∙ number-one e), go (key_ok key) refl)
    where
      go : (b : Bool) → key_ok key ≡ b → (KeyLength (length key) → ⊥) → ◌≡◌ {A = ℕ} (cond b 0 1) 1
      go true e n = absurd (n (length-accepted e))
      go false e n = refl

  -- ---- with number 1

  refused-zeros : {number : ℕ} → number ≡ key_number key → number ≡ 1 → Expanded key 1 0 (replicate 240 0)
  refused-zeros answer e = key_refused (number-one (sym answer ∙ e))

  pub enc-zeros : (block : List ℕ) → 0 ≡ key_rounds key → encrypted key block ≡ replicate 16 0
  unfolding encrypted rounds_ok
  enc-zeros block e = enc_refused (key_rounds key) (key_bytes key) block (ap rounds_ok (sym e))

  pub dec-zeros : (block : List ℕ) → 0 ≡ key_rounds key → decrypted key block ≡ replicate 16 0
  unfolding decrypted rounds_ok
  dec-zeros block e = dec_refused (key_rounds key) (key_bytes key) block (ap rounds_ok (sym e))

-- An error answers the number of question 1 and a zero block.
pub err_answer : {E : Type 0} {key result : List ℕ} (r : Result (List ℕ) E) → IsErr r → bad_key ≡ key_number key → result ≡ replicate 16 0 → BlockAnswer key result (number_in r) (block_in r)
err_answer (Ok block) e n z = cc
err_answer (Err _) e n z = record { answer = n; answer_block = sym z }

-- ---- the promises

pub accepted_expands : AcceptedExpands
unfolding AcceptedExpands
accepted_expands key bytes ok =
    record {
      rounds = accepted-rounds key ok;
      size = key_bytes-length key;
      bytes = key_bytes_bytes key bytes;
    }

pub key_gives_cipher : KeyGivesCipher
unfolding KeyGivesCipher AcceptedExpands UndoEachOther encrypted decrypted
key_gives_cipher key bytes ok =
    let expands = accepted_expands key bytes ok in undo_each_other (key_rounds key) (key_bytes key) expands.rounds expands.bytes

pub calls_answer : CallsAnswer
calls_answer =
    record {
      accepted = zero-exactly;
      refused = one-exactly;
      expand_refused =
          λ {key} r e.
          let z = refused-zeros key r.answer e in (r.expanded_rounds ∙ sym z.expanded_rounds, r.expanded_keys ∙ sym z.expanded_keys);
      encrypt_refused = λ {key} block r e. r.answer_block ∙ enc-zeros key block (refused-zeros key r.answer e).expanded_rounds;
      decrypt_refused = λ {key} block r e. r.answer_block ∙ dec-zeros key block (refused-zeros key r.answer e).expanded_rounds;
    }
