-- The turns of the code's loops over the rounds: of the cipher from its first AddRoundKey on, and of the inverse cipher
-- down to its last. Assumes nothing.
use mathlib.Core.Path.{◌≡◌, sym, ap, ◌∙◌}
use mathlib.Core.Bool.{true}
use mathlib.Core.List.{List}
use Prim.Native.Nat.{ℕ, suc, ◌+◌, ◌-◌, ◌≤◌}
use native.Mathlib.Omega.{arith}
use lib.ListN.{get_or}
use Rattle.boxes.specs.Boxes.{sub_byte, inv_sub_byte, Tabulates}
use Rattle.steps.specs.State.{from_block, to_block}
use Rattle.steps.specs.Steps.{bytewise, sub_bytes, inv_sub_bytes, shift_rows, inv_shift_rows, mix_columns, inv_mix_columns, add_round_key}
use Rattle.cipher.specs.Cipher.{rounds, cipher, inv_rounds, inv_cipher, rounds_ok}
use Rattle.bits.proofs.TestLaws.{passed}
use Rattle.steps.proofs.StateLaws.{StateBytes}
use Rattle.steps.proofs.StepLaws.{bytewise_table, inv_shift_rows_bytes}

pub rounds_bounds : (nr : ℕ) → rounds_ok nr ≡ true → (10 ≤ nr) × (nr ≤ 14)
unfolding rounds_ok
rounds_bounds nr e = passed (λ n. (10 ≤ n) × (n ≤ 14)) nr 10 12 14 e (omega arith) (omega arith) (omega arith)

as_suc : (round : ℕ) → 1 ≤ round → round ≡ suc (round - 1)
as_suc round h = omega arith

module _ {table : List ℕ} where
  -- SubBytes by its table
  pub sub-table : Tabulates sub_byte table → {s : List (List ℕ)} → StateBytes s → bytewise (λ b. get_or table b 0) s ≡ sub_bytes s
  unfolding sub_bytes
  sub-table tab h = bytewise_table tab h

  pub inv-sub-table : Tabulates inv_sub_byte table → {s : List (List ℕ)} → StateBytes s → bytewise (λ b. get_or table b 0) s ≡ inv_sub_bytes s
  unfolding inv_sub_bytes
  inv-sub-table tab h = bytewise_table tab h

  module _ (w : List ℕ) (round : ℕ) (pos : 1 ≤ round) where
    pub round_more : Tabulates sub_byte table → (x : List (List ℕ)) {s next : List (List ℕ)} → StateBytes s → s ≡ rounds w (round - 1) x
        → next ≡ add_round_key w round (mix_columns (shift_rows (bytewise (λ b. get_or table b 0) s))) → next ≡ rounds w (round + 1 - 1) x
    unfolding rounds
    round_more tab x {s} {next} h p r =
        r ∙ ap (λ y. add_round_key w round (mix_columns (shift_rows y))) (sub-table tab h ∙ ap sub_bytes p)
        ∙ ap (λ n. add_round_key w n (mix_columns (shift_rows (sub_bytes (rounds w (round - 1) x))))) (as_suc round pos)
        ∙ ap (λ n. rounds w n x) up
      where
        up : suc (round - 1) ≡ round + 1 - 1
        up = omega arith

    -- what is left to do on the state after an inverse round
    pub round-less : Tabulates inv_sub_byte table → {s next : List (List ℕ)} → StateBytes s
        → next ≡ inv_mix_columns (add_round_key w round (bytewise (λ b. get_or table b 0) (inv_shift_rows s))) → inv_rounds w (round - 1) next ≡ inv_rounds w round s
    unfolding inv_rounds
    round-less tab {s} {next} h r =
        ap (inv_rounds w (round - 1))
        (r ∙ ap (λ y. inv_mix_columns (add_round_key w round y)) (inv-sub-table tab (inv_shift_rows_bytes h))
        ∙ ap (λ n. inv_mix_columns (add_round_key w n (inv_sub_bytes (inv_shift_rows s)))) (as_suc round pos))
        ∙ ap (λ n. inv_rounds w n s) (sym (as_suc round pos))

-- ---- the whole ciphers, from what each step of the code made

module _ {table : List ℕ} (w : List ℕ) (nr : ℕ) (b : List ℕ) where
  pub cipher-done : Tabulates sub_byte table → {s subbed shifted keyed : List (List ℕ)} {r : List ℕ} → StateBytes s
      → s ≡ rounds w (nr - 1) (from_block b) → subbed ≡ bytewise (λ v. get_or table v 0) s → shifted ≡ shift_rows subbed → keyed ≡ add_round_key w nr shifted
      → r ≡ to_block keyed → r ≡ cipher nr w b
  unfolding cipher
  cipher-done tab h p q r t u =
      u ∙ ap to_block (t ∙ ap (add_round_key w nr) (r ∙ ap shift_rows (q ∙ sub-table tab h ∙ ap sub_bytes p)))

  pub invCipher-done : Tabulates inv_sub_byte table → {s shifted subbed keyed : List (List ℕ)} {r : List ℕ} → StateBytes s
      → inv_rounds w 0 s ≡ inv_rounds w (nr - 1) (add_round_key w nr (from_block b)) → shifted ≡ inv_shift_rows s → subbed ≡ bytewise (λ v. get_or table v 0) shifted
      → keyed ≡ add_round_key w 0 subbed → r ≡ to_block keyed → r ≡ inv_cipher nr w b
  unfolding inv_cipher inv_rounds
  invCipher-done tab h p q r t u =
      u ∙ ap to_block (t ∙ ap (add_round_key w 0) (r ∙ ap (bytewise _) q ∙ inv-sub-table tab (inv_shift_rows_bytes h) ∙ ap (λ x. inv_sub_bytes (inv_shift_rows x)) p))
