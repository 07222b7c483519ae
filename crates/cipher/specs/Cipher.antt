-- The cipher and the inverse cipher, FIPS 197 sections 5.1 and 5.3, under given rounds and round keys.
use Rattle.std.specs.Prelude.{ℕ, zero, suc, ◌-◌, Bool, true, cond, List, eqb, replicate}
use Rattle.steps.specs.State.{from_block, to_block}
use Rattle.steps.specs.Steps.{sub_bytes, inv_sub_bytes, shift_rows, inv_shift_rows, mix_columns, inv_mix_columns, add_round_key}

-- The state after the first AddRoundKey and k rounds.
unfoldable pub rounds : List ℕ → ℕ → List (List ℕ) → List (List ℕ)
rounds w zero s = add_round_key w 0 s
rounds w (suc k) s = add_round_key w (suc k) (mix_columns (shift_rows (sub_bytes (rounds w k s))))

-- The last round has no MixColumns.
unfoldable pub cipher : ℕ → List ℕ → List ℕ → List ℕ
cipher nr w b = to_block (add_round_key w nr (shift_rows (sub_bytes (rounds w (nr - 1) (from_block b)))))

-- The inverse cipher's rounds k, k - 1, .. 1.
unfoldable pub inv_rounds : List ℕ → ℕ → List (List ℕ) → List (List ℕ)
inv_rounds w zero s = s
inv_rounds w (suc k) s = inv_rounds w k (inv_mix_columns (add_round_key w (suc k) (inv_sub_bytes (inv_shift_rows s))))

unfoldable pub inv_cipher : ℕ → List ℕ → List ℕ → List ℕ
inv_cipher nr w b =
    to_block (add_round_key w 0 (inv_sub_bytes (inv_shift_rows (inv_rounds w (nr - 1) (add_round_key w nr (from_block b))))))

-- Are the rounds 10, 12 or 14?
unfoldable pub rounds_ok : ℕ → Bool
rounds_ok nr = cond (eqb nr 10) true (cond (eqb nr 12) true (eqb nr 14))

-- The block functions Enc and Dec of document 01, under the rounds nr and the round keys w. Under any other number of
-- rounds they give zero bytes.
unfoldable pub Enc : ℕ → List ℕ → List ℕ → List ℕ
Enc nr w b = cond (rounds_ok nr) (cipher nr w b) (replicate 16 0)

unfoldable pub Dec : ℕ → List ℕ → List ℕ → List ℕ
Dec nr w b = cond (rounds_ok nr) (inv_cipher nr w b) (replicate 16 0)
