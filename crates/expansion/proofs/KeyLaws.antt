-- The schedule (FIPS 197 section 5.2): its length, that it is bytes, how the code's turn makes one word more, and the
-- 240 bytes of round keys. Assumes nothing.
use mathlib.Core.Path.{◌≡◌, sym, ap, ap₂, ◌∙◌}
use mathlib.Core.Bool.{true}
use mathlib.Core.List.{List, ◌++◌}
use Prim.Native.Nat.{ℕ, zero, suc, ◌+◌, ◌-◌, ◌*◌, ◌/◌, ◌≤◌, ◌<◌}
use native.Mathlib.Nat.{sub_self}
use native.Mathlib.Omega.{arith}
use lib.ListN.{length, take, drop, replicate, length-append}
use Rattle.bits.specs.Blocks.{Bytes}
use Rattle.bits.proofs.Texts.{append_bytes}
use Rattle.bits.proofs.TestLaws.{passed}
use Rattle.expansion.specs.KeyExpansion.{next_word, schedule, rounds_for, round_keys, key_ok}
use Rattle.expansion.proofs.Filled.{filled, filled-length, filled_bytes, filled_more}
use Rattle.expansion.proofs.WordLaws.{next_word-length, next_word_bytes, next_word_front}

-- The length of a key of 4, 6 or 8 words.
pub record KeyWords (n : ℕ) : Type 0 where
  pub whole : n ≡ 4 * (n / 4)
  pub least : 4 ≤ n / 4
  pub most : n / 4 ≤ 8

pub key_words : (key : List ℕ) → key_ok key ≡ true → KeyWords (length key)
unfolding key_ok
key_words key e = passed KeyWords (length key) 16 24 32 e (omega arith) (omega arith) (omega arith)

pub schedule-length : (nk : ℕ) (key : List ℕ) → length key ≡ 4 * nk → (k : ℕ) → length (schedule nk key k) ≡ 4 * (nk + k)
unfolding schedule
schedule-length nk key h zero = omega arith
schedule-length nk key h (suc k) =
    simp (length-append, next_word-length) (omega (arith, schedule-length nk key h k))

schedule_bytes : (nk : ℕ) {key : List ℕ} → Bytes key → (k : ℕ) → Bytes (schedule nk key k)
unfolding schedule
schedule_bytes nk h zero = h
schedule_bytes nk {key} h (suc k) = append_bytes (schedule_bytes nk h k) (next_word_bytes nk (schedule_bytes nk h k) (nk + k))

-- word i, made from the words before it and written after them
module _ (nk : ℕ) (key : List ℕ) (h : length key ≡ 4 * nk) (positive : 0 < nk) (i : ℕ) (from : nk ≤ i) where
  schedule-at : length (schedule nk key (i - nk)) ≡ 4 * i
  schedule-at = schedule-length nk key h (i - nk) ∙ ap (λ n. 4 * n) (omega arith)

  schedule-suc : schedule nk key (i - nk) ++ next_word nk (schedule nk key (i - nk)) i ≡ schedule nk key (i + 1 - nk)
  unfolding schedule
  schedule-suc =
      sym (ap (schedule nk key) next ∙ ap (λ n. schedule nk key (i - nk) ++ next_word nk (schedule nk key (i - nk)) n) place)
    where
      next : i + 1 - nk ≡ suc (i - nk)
      next = omega arith

      place : nk + (i - nk) ≡ i
      place = omega arith

  word-filled : next_word nk (filled (schedule nk key (i - nk))) i ≡ next_word nk (schedule nk key (i - nk)) i
  unfolding filled
  word-filled = next_word_front nk (schedule nk key (i - nk)) (replicate (240 - length (schedule nk key (i - nk))) 0) i positive from (omega (arith, schedule-at))

  pub schedule-more : {w word next : List ℕ} → w ≡ filled (schedule nk key (i - nk)) → word ≡ next_word nk w i
      → next ≡ take (4 * i) w ++ word ++ drop (4 * i + 4) w → next ≡ filled (schedule nk key (i + 1 - nk))
  schedule-more {w} {word} {next} p q r =
      let b : List ℕ = schedule nk key (i - nk) in
      let made : word ≡ next_word nk b i = q ∙ ap (λ v. next_word nk v i) p ∙ word-filled in
      r ∙ ap₂ (λ (v x : List ℕ). take (4 * i) v ++ x ++ drop (4 * i + 4) v) p made
      ∙ filled_more b (next_word nk b i) (4 * i) 4 schedule-at (next_word-length nk b i) ∙ ap filled schedule-suc

-- ---- the round keys

-- no word beyond the key's yet
pub schedule_none : (nk : ℕ) (key : List ℕ) → schedule nk key (nk - nk) ≡ key
unfolding schedule
schedule_none nk key = ap (schedule nk key) (sub_self nk)

pub round_keys-filled : (key : List ℕ) → round_keys key ≡ filled (schedule (length key / 4) key (4 * (length key / 4 + 7) - length key / 4))
unfolding round_keys rounds_for filled
round_keys-filled key = ap (λ n. filled (schedule (length key / 4) key (4 * n - length key / 4))) (omega arith)

pub round_keys_bytes : {key : List ℕ} → Bytes key → Bytes (round_keys key)
round_keys_bytes {key} h = rw (round_keys-filled key) (filled_bytes (schedule_bytes (length key / 4) h (4 * (length key / 4 + 7) - length key / 4)))

pub round_keys-length : (key : List ℕ) → KeyWords (length key) → length (round_keys key) ≡ 240
round_keys-length key k =
    ap length (round_keys-filled key)
    ∙ filled-length (schedule (length key / 4) key (4 * (length key / 4 + 7) - length key / 4))
    (rw (schedule-length (length key / 4) key k.whole (4 * (length key / 4 + 7) - length key / 4)) (omega arith))
