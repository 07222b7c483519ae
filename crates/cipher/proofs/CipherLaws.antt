-- Enc and Dec undo each other: round by round, from the inside out. Assumes nothing.
use mathlib.Core.Path.{◌≡◌, refl, ap, ◌∙◌}
use mathlib.Core.Bool.{true, false}
use mathlib.Core.List.{List}
use Prim.Native.Nat.{ℕ, zero, suc, ◌-◌}
use lib.ListN.{replicate}
use Rattle.bits.specs.Blocks.{Bytes, Block}
use Rattle.steps.specs.State.{from_block, to_block}
use Rattle.steps.specs.Steps.{sub_bytes, inv_sub_bytes, shift_rows, inv_shift_rows, mix_columns, inv_mix_columns, add_round_key}
use Rattle.cipher.specs.Cipher.{rounds, cipher, inv_rounds, inv_cipher, rounds_ok, Enc, Dec}
use Rattle.cipher.specs.Promises.{UndoEachOther}
use Rattle.steps.proofs.StateLaws.{Square, from_block-square, from_to, to_from, to_block-block}
use Rattle.steps.proofs.StepLaws as Step

module _ (w : List ℕ) (hw : Bytes w) where
  rounds-square : (k : ℕ) {s : List (List ℕ)} → Square s → Square (rounds w k s)
  unfolding rounds
  rounds-square zero q = Step.add_round_key-square hw 0 q
  rounds-square (suc k) {s} q =
      Step.add_round_key-square hw (suc k) (Step.mix_columns-square (Step.shift_rows-square (Step.sub_bytes-square (rounds w k s))))

  invRounds-square : (k : ℕ) {s : List (List ℕ)} → Square s → Square (inv_rounds w k s)
  unfolding inv_rounds
  invRounds-square zero q = q
  invRounds-square (suc k) {s} q =
      invRounds-square k (Step.inv_mix_columns-square (Step.add_round_key-square hw (suc k) (Step.inv_sub_bytes-square (inv_shift_rows s))))

  -- SubBytes and ShiftRows, undone
  half-undone : {s : List (List ℕ)} → Square s → inv_sub_bytes (inv_shift_rows (shift_rows (sub_bytes s))) ≡ s
  half-undone {s} q = ap inv_sub_bytes (Step.inv-shift-rows (Step.sub_bytes-square s)) ∙ Step.inv-sub-bytes q

  half-redone : {s : List (List ℕ)} → Square s → shift_rows (sub_bytes (inv_sub_bytes (inv_shift_rows s))) ≡ s
  half-redone {s} q = ap shift_rows (Step.sub_inv_bytes (Step.inv_shift_rows-square q)) ∙ Step.shift_inv_rows q

  -- the inverse cipher's rounds take the cipher's back, down to the first AddRoundKey
  rounds-undone : (k : ℕ) {s : List (List ℕ)} → Square s → inv_rounds w k (shift_rows (sub_bytes (rounds w k s))) ≡ shift_rows (sub_bytes (add_round_key w 0 s))
  unfolding rounds inv_rounds
  rounds-undone zero q = refl
  rounds-undone (suc k) {s} q =
      let inner : Square (shift_rows (sub_bytes (rounds w k s))) = Step.shift_rows-square (Step.sub_bytes-square (rounds w k s)) in
      ap (λ x. inv_rounds w k (inv_mix_columns (add_round_key w (suc k) x))) (half-undone (rounds-square (suc k) q))
      ∙ ap (λ x. inv_rounds w k (inv_mix_columns x)) (Step.add_add w (suc k) (Step.mix_columns-square inner))
      ∙ ap (inv_rounds w k) (Step.inv-mix-columns inner) ∙ rounds-undone k q

  rounds-redone : (k : ℕ) {s : List (List ℕ)} → Square s → rounds w k (add_round_key w 0 (inv_sub_bytes (inv_shift_rows (inv_rounds w k s)))) ≡ inv_sub_bytes (inv_shift_rows s)
  unfolding rounds inv_rounds
  rounds-redone zero {s} q = Step.add_add w 0 (Step.inv_sub_bytes-square (inv_shift_rows s))
  rounds-redone (suc k) {s} q =
      let inner : Square (add_round_key w (suc k) (inv_sub_bytes (inv_shift_rows s))) = Step.add_round_key-square hw (suc k) (Step.inv_sub_bytes-square (inv_shift_rows s)) in
      let mixed : Square (inv_mix_columns (add_round_key w (suc k) (inv_sub_bytes (inv_shift_rows s)))) = Step.inv_mix_columns-square inner in
      ap (λ x. add_round_key w (suc k) (mix_columns (shift_rows (sub_bytes x)))) (rounds-redone k mixed)
      ∙ ap (λ x. add_round_key w (suc k) (mix_columns x)) (half-redone mixed)
      ∙ ap (add_round_key w (suc k)) (Step.mix_inv_columns inner) ∙ Step.add_add w (suc k) (Step.inv_sub_bytes-square (inv_shift_rows s))

  module _ (nr : ℕ) where
    cipher-block : (b : List ℕ) → Block b → Block (cipher nr w b)
    unfolding cipher
    cipher-block b h = to_block-block (search Step.squares)

    invCipher-block : (b : List ℕ) → Block b → Block (inv_cipher nr w b)
    unfolding inv_cipher
    invCipher-block b h = to_block-block (search Step.squares)

    inv-cipher : (b : List ℕ) → Block b → inv_cipher nr w (cipher nr w b) ≡ b
    unfolding cipher inv_cipher
    inv-cipher b h =
        let q : Square (from_block b) = from_block-square h.bytes in
        let last : Square (shift_rows (sub_bytes (rounds w (nr - 1) (from_block b)))) = Step.shift_rows-square (Step.sub_bytes-square (rounds w (nr - 1) (from_block b))) in
        ap (λ x. to_block (add_round_key w 0 (inv_sub_bytes (inv_shift_rows (inv_rounds w (nr - 1) x)))))
        (ap (add_round_key w nr) (from_to (Step.add_round_key-square hw nr last)) ∙ Step.add_add w nr last)
        ∙ ap (λ x. to_block (add_round_key w 0 (inv_sub_bytes (inv_shift_rows x)))) (rounds-undone (nr - 1) q)
        ∙ ap (λ x. to_block (add_round_key w 0 x)) (half-undone (Step.add_round_key-square hw 0 q))
        ∙ ap to_block (Step.add_add w 0 q) ∙ to_from h

    cipher-inv : (b : List ℕ) → Block b → cipher nr w (inv_cipher nr w b) ≡ b
    unfolding cipher inv_cipher
    cipher-inv b h =
        let q : Square (from_block b) = from_block-square h.bytes in
        let first : Square (add_round_key w nr (from_block b)) = Step.add_round_key-square hw nr q in
        ap (λ x. to_block (add_round_key w nr (shift_rows (sub_bytes (rounds w (nr - 1) x)))))
        (from_to (Step.add_round_key-square hw 0 (Step.inv_sub_bytes-square (inv_shift_rows (inv_rounds w (nr - 1) (add_round_key w nr (from_block b)))))))
        ∙ ap (λ x. to_block (add_round_key w nr (shift_rows (sub_bytes x)))) (rounds-redone (nr - 1) first)
        ∙ ap (λ x. to_block (add_round_key w nr x)) (half-redone first) ∙ ap to_block (Step.add_add w nr q) ∙ to_from h

pub enc_cipher : (nr : ℕ) (w b : List ℕ) → rounds_ok nr ≡ true → Enc nr w b ≡ cipher nr w b
unfolding Enc
enc_cipher nr w b e = rw e

pub dec_cipher : (nr : ℕ) (w b : List ℕ) → rounds_ok nr ≡ true → Dec nr w b ≡ inv_cipher nr w b
unfolding Dec
dec_cipher nr w b e = rw e

-- other rounds
pub enc_refused : (nr : ℕ) (w b : List ℕ) → rounds_ok nr ≡ false → Enc nr w b ≡ replicate 16 0
unfolding Enc
enc_refused nr w b e = rw e

pub dec_refused : (nr : ℕ) (w b : List ℕ) → rounds_ok nr ≡ false → Dec nr w b ≡ replicate 16 0
unfolding Dec
dec_refused nr w b e = rw e

-- The theorem that everything above cites.
pub undo_each_other : UndoEachOther
unfolding UndoEachOther
undo_each_other nr w e hw =
    record {
      enc_block = λ b h. rw (enc_cipher nr w b e) (cipher-block w hw nr b h);
      dec_block = λ b h. rw (dec_cipher nr w b e) (invCipher-block w hw nr b h);
      dec_enc = λ b h. ap (Dec nr w) (enc_cipher nr w b e) ∙ dec_cipher nr w (cipher nr w b) e ∙ inv-cipher w hw nr b h;
      enc_dec = λ b h. ap (Enc nr w) (dec_cipher nr w b e) ∙ enc_cipher nr w (inv_cipher nr w b) e ∙ cipher-inv w hw nr b h;
    }
