-- Encryption: the rounds by table and words are those of the cipher. Assumes nothing.
use mathlib.Core.Path.{◌≡◌, ap, ◌∙◌}
use mathlib.Core.Bool.{false}
use mathlib.Core.List.{List}
use Prim.Native.Nat.{ℕ, zero, suc, ◌+◌, ◌-◌, ◌*◌, ◌≤◌, ◌<◌}
use native.Mathlib.Omega.{arith}
use lib.ListN.{get_or}
use Rattle.bits.specs.Xor.{xor}
use Rattle.bits.specs.Blocks.{Block}
use Rattle.bits.proofs.Xor as Xor
use Rattle.field.specs.Rows.{word_at}
use Rattle.steps.specs.State.{at, from_block, to_block}
use Rattle.steps.specs.Steps.{sub_bytes, shift_rows, mix_columns, add_round_key}
use Rattle.cipher.specs.Cipher.{rounds, cipher}
use Rattle.steps.proofs.StateLaws.{StateBytes, state_ext, state_byte, from_block-square}
use Rattle.columns.specs.Inner.Words.{byte_at}
use Rattle.columns.specs.Inner.Rounds.{table_round, last_round, add_words, rounds_by, arranged, decrypts_by, block_by_rounds}
use Rattle.prepared.specs.Inner.Parts.{substituted, matrix}
use Rattle.columns.proofs.ByteLaws.{byte_small, word_byte}
use Rattle.prepared.proofs.KeyLaws.{Scheduled}
use Rattle.prepared.proofs.TableLaws.{Tabled, table_round_bytes, table-round, last-round}

-- ---- the states stay bytes

pub block_bytes : {b : List ℕ} → Block b → StateBytes (from_block b)
block_bytes h = record { byte = (from_block-square h.bytes).byte }

add_words_bytes : (p : List ℕ) (round : ℕ) {s : List (List ℕ)} → StateBytes s → StateBytes (add_words p round s)
unfolding add_words
add_words_bytes p round {s} h =
    record { byte = state_byte (λ r c. xor (at s r c) (byte_at (get_or p (1280 + 4 * round + c) 0) r)) (λ r c. Xor.width 8 (h.byte r c) (byte_small _ r)) }

pub rounds_by_bytes : (p : List ℕ) (k : ℕ) {s : List (List ℕ)} → StateBytes s → StateBytes (rounds_by p k s)
unfolding rounds_by
rounds_by_bytes p zero h = add_words_bytes p 0 h
rounds_by_bytes p (suc k) {s} h = add_words_bytes p (suc k) (table_round_bytes p (rounds_by p k s))

-- ---- the cipher

module _ (keys : List ℕ) {p : List ℕ} (tab : Tabled false p) (scheduled : Scheduled 60 (word_at keys) p) where
  words-added : (round : ℕ) → round < 15 → (s : List (List ℕ)) → add_words p round s ≡ add_round_key keys round s
  unfolding add_words add_round_key word_at
  words-added round h s =
      state_ext (λ r c. xor (at s r c) (byte_at (get_or p (1280 + 4 * round + c) 0) r)) (λ r c. xor (at s r c) (get_or keys (16 * round + (4 * c + r)) 0))
      (λ r c hr hc. ap (xor (at s r c))
      (word_byte (get_or p (1280 + 4 * round + c) 0) (λ r. get_or keys (4 * (4 * round + c) + r) 0) (scheduled.word (1280 + 4 * round + c) (4 * round + c) (omega arith) (omega arith)) r hr
      ∙ ap (λ n. get_or keys n 0) (place r c)))
    where
      place : (r c : ℕ) → 4 * (4 * round + c) + r ≡ 16 * round + (4 * c + r)
      place r c = omega arith

  rounds-forward : (k : ℕ) → k < 15 → {s : List (List ℕ)} → StateBytes s → rounds_by p k s ≡ rounds keys k s
  unfolding rounds_by rounds mix_columns sub_bytes matrix substituted
  rounds-forward zero h {s} q = words-added 0 h s
  rounds-forward (suc k) h {s} q =
      words-added (suc k) h (table_round p (rounds_by p k s)) ∙ ap (add_round_key keys (suc k)) (table-round false tab (rounds_by_bytes p k q))
      ∙ ap (λ x. add_round_key keys (suc k) (mix_columns (shift_rows (sub_bytes x)))) (rounds-forward k (omega arith) q)

  pub forward-cipher : decrypts_by p ≡ false → (nr : ℕ) → nr ≤ 14 → {b : List ℕ} → Block b → block_by_rounds p nr b ≡ cipher nr keys b
  unfolding block_by_rounds arranged cipher sub_bytes substituted
  forward-cipher way nr h {b} q =
      let s : StateBytes (from_block b) = block_bytes q in
      rw way
      (ap to_block
      (words-added nr (omega arith) (last_round p (rounds_by p (nr - 1) (from_block b))) ∙ ap (add_round_key keys nr) (last-round false tab (rounds_by_bytes p (nr - 1) s))
      ∙ ap (λ x. add_round_key keys nr (shift_rows (sub_bytes x))) (rounds-forward (nr - 1) (omega arith) s)))
