-- Which unit lengths, counter lengths and message lengths a mode takes (questions 3, 14 and 7).
use Rattle.std.specs.Prelude.{ℕ, ◌%◌, ◌≤◌, ◌≡◌, Bool, true, ◌&&◌, leb, eqb}
use Rattle.rules.specs.declared.Mode.{Mode}
use Rattle.rules.specs.declared.Mode.TheVariants.{Ecb, Cbc, Cfb, Ofb, Ctr}

-- Question 3: is n from 1 to 128 in CFB, and 128 elsewhere?
unfoldable pub unit_length_ok : Mode → ℕ → Bool
unit_length_ok Ecb n = eqb n 128
unit_length_ok Cbc n = eqb n 128
unit_length_ok Cfb n = leb 1 n && leb n 128
unit_length_ok Ofb n = eqb n 128
unit_length_ok Ctr n = eqb n 128

-- Question 14: is m from 1 to 128 in CTR, and 128 elsewhere?
unfoldable pub counter_length_ok : Mode → ℕ → Bool
counter_length_ok Ecb m = eqb m 128
counter_length_ok Cbc m = eqb m 128
counter_length_ok Cfb m = eqb m 128
counter_length_ok Ofb m = eqb m 128
counter_length_ok Ctr m = leb 1 m && leb m 128

-- Question 7: are this many bits whole units in ECB, CBC and CFB?
unfoldable pub whole_units : Mode → ℕ → ℕ → Bool
whole_units Ecb n bits = eqb (bits % n) 0
whole_units Cbc n bits = eqb (bits % n) 0
whole_units Cfb n bits = eqb (bits % n) 0
whole_units Ofb n bits = true
whole_units Ctr n bits = true

-- ---- in plain numbers

-- From 1 to 128 in the mode `own`, and 128 elsewhere: n in CFB (question 3), m in CTR (question 14).
pub record LengthIn (own mode : Mode) (bits : ℕ) : Type 0 where
  pub in_own : mode ≡ own → (1 ≤ bits) × (bits ≤ 128)
  pub elsewhere : (mode ≡ own → ⊥) → bits ≡ 128
