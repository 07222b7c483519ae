-- MixColumns and its inverse by whole rows: what the code makes of joined rows is what the matrices make of each
-- column. Assumes nothing.
use mathlib.Core.Path.{◌≡◌, ap, ◌∙◌}
use mathlib.Core.List.{List, map}
use Prim.Native.Nat.{ℕ, ◌+◌, ◌%◌, ◌<◌}
use Rattle.bits.specs.Xor.{xor}
use Rattle.bits.specs.Counter.{number, number_bytes}
use Rattle.bits.proofs.Xor as Xor
use Rattle.field.specs.Field.{double, product}
use Rattle.field.specs.Rows.{four}
use Rattle.field.proofs.FieldLaws.{double-xor, double_byte, times_one, times_two, times_three, times_nine, times_eleven, times_thirteen, times_fourteen}
use Rattle.field.proofs.Fours.{places}
use Rattle.field.proofs.RowLaws.{split_joined, xor-joined, double-joined}
use Rattle.steps.specs.State.{at, state}
use Rattle.steps.specs.Steps.{circulant, dot, mix_with, mix_row, mix_columns, inv_mix_row, inv_mix_columns}
use Rattle.steps.proofs.StateLaws.{at-state, state_ext}
use Rattle.steps.proofs.MixLaws.{dot_ext}

-- four bytes of a column, as MixColumns adds them
unfoldable pub mixed : ℕ → ℕ → ℕ → ℕ → ℕ
mixed a b c d = xor (xor (xor (double (xor a b)) b) c) d

-- a byte and the one two rows away, as the inverse prepares them
unfoldable pub prepared : ℕ → ℕ → ℕ
prepared a c = xor a (double (double (xor a c)))

module _ (a b c d : ℕ → ℕ) (ha : (i : ℕ) → a i < 256) (hb : (i : ℕ) → b i < 256) (hc : (i : ℕ) → c i < 256) (hd : (i : ℕ) → d i < 256) where
  both-byte : (f g : ℕ → ℕ) → ((i : ℕ) → f i < 256) → ((i : ℕ) → g i < 256) → (i : ℕ) → xor (f i) (g i) < 256
  both-byte f g hf hg i = Xor.width 8 (hf i) (hg i)

  pub mixed-row : number_bytes 4 (xor (xor (xor (number (map double (number_bytes 4 (xor (number (four a)) (number (four b)))))) (number (four b))) (number (four c))) (number (four d))) ≡ four (λ i. mixed (a i) (b i) (c i) (d i))
  unfolding mixed
  mixed-row =
      ap (λ x. number_bytes 4 (xor (xor (xor (number (map double (number_bytes 4 x))) (number (four b))) (number (four c))) (number (four d)))) (xor-joined a b ha hb)
      ∙ ap (λ x. number_bytes 4 (xor (xor (xor x (number (four b))) (number (four c))) (number (four d)))) (double-joined (λ i. xor (a i) (b i)) (both-byte a b ha hb))
      ∙ ap (λ x. number_bytes 4 (xor (xor x (number (four c))) (number (four d)))) (xor-joined (λ i. double (xor (a i) (b i))) b doubled hb)
      ∙ ap (λ x. number_bytes 4 (xor x (number (four d)))) (xor-joined (λ i. xor (double (xor (a i) (b i))) (b i)) c first hc)
      ∙ ap (number_bytes 4) (xor-joined (λ i. xor (xor (double (xor (a i) (b i))) (b i)) (c i)) d second hd)
      ∙ split_joined (λ i. xor (xor (xor (double (xor (a i) (b i))) (b i)) (c i)) (d i)) (both-byte (λ i. xor (xor (double (xor (a i) (b i))) (b i)) (c i)) d second hd)
    where
      doubled : (i : ℕ) → double (xor (a i) (b i)) < 256
      doubled i = double_byte (xor (a i) (b i))

      first : (i : ℕ) → xor (double (xor (a i) (b i))) (b i) < 256
      first i = Xor.width 8 (doubled i) (hb i)

      second : (i : ℕ) → xor (xor (double (xor (a i) (b i))) (b i)) (c i) < 256
      second i = Xor.width 8 (first i) (hc i)

  pub prepared-row : number_bytes 4 (xor (number (four a)) (number (map double (number_bytes 4 (number (map double (number_bytes 4 (xor (number (four a)) (number (four c)))))))))) ≡ four (λ i. prepared (a i) (c i))
  unfolding prepared
  prepared-row =
      ap (λ x. number_bytes 4 (xor (number (four a)) (number (map double (number_bytes 4 (number (map double (number_bytes 4 x)))))))) (xor-joined a c ha hc)
      ∙ ap (λ x. number_bytes 4 (xor (number (four a)) (number (map double (number_bytes 4 x))))) (double-joined (λ i. xor (a i) (c i)) (both-byte a c ha hc))
      ∙ ap (λ x. number_bytes 4 (xor (number (four a)) x)) (double-joined (λ i. double (xor (a i) (c i))) (λ i. double_byte (xor (a i) (c i))))
      ∙ ap (number_bytes 4) (xor-joined a (λ i. double (double (xor (a i) (c i)))) ha quadrupled)
      ∙ split_joined (λ i. xor (a i) (double (double (xor (a i) (c i))))) (both-byte a (λ i. double (double (xor (a i) (c i)))) ha quadrupled)
    where
      quadrupled : (i : ℕ) → double (double (xor (a i) (c i))) < 256
      quadrupled i = double_byte (double (xor (a i) (c i)))

-- ---- what the matrices make of a column x

-- each row of the matrix 02 03 01 01
forward_0 : (a b c d : ℕ) → mixed a b c d ≡ xor (product 2 a) (xor (product 3 b) (xor (product 1 c) (product 1 d)))
unfolding mixed
forward_0 a b c d = simp (times_one, times_two, times_three, double-xor, Xor.sorted)

forward_1 : (a b c d : ℕ) → mixed b c d a ≡ xor (product 1 a) (xor (product 2 b) (xor (product 3 c) (product 1 d)))
unfolding mixed
forward_1 a b c d = simp (times_one, times_two, times_three, double-xor, Xor.sorted)

forward_2 : (a b c d : ℕ) → mixed c d a b ≡ xor (product 1 a) (xor (product 1 b) (xor (product 2 c) (product 3 d)))
unfolding mixed
forward_2 a b c d = simp (times_one, times_two, times_three, double-xor, Xor.sorted)

forward_3 : (a b c d : ℕ) → mixed d a b c ≡ xor (product 3 a) (xor (product 1 b) (xor (product 1 c) (product 2 d)))
unfolding mixed
forward_3 a b c d = simp (times_one, times_two, times_three, double-xor, Xor.sorted)

forward_mixed : (x : ℕ → ℕ) (r : ℕ) → r < 4 → mixed (x r) (x ((r + 1) % 4)) (x ((r + 2) % 4)) (x ((r + 3) % 4)) ≡ dot (circulant mix_row r) x
unfolding dot circulant
forward_mixed x =
    places (λ r. mixed (x r) (x ((r + 1) % 4)) (x ((r + 2) % 4)) (x ((r + 3) % 4)) ≡ dot (circulant mix_row r) x)
    (forward_0 (x 0) (x 1) (x 2) (x 3)) (forward_1 (x 0) (x 1) (x 2) (x 3)) (forward_2 (x 0) (x 1) (x 2) (x 3)) (forward_3 (x 0) (x 1) (x 2) (x 3))

-- the matrix 0e 0b 0d 09 is that one after the preparation
ruleset by_doublings = (times_one, times_two, times_three, times_nine, times_eleven, times_thirteen, times_fourteen, double-xor, Xor.assoc, Xor.comm, Xor.left_comm, Xor.self, Xor.cancel, Xor.zero_right)

backward_0 : (a b c d : ℕ) → xor (product 2 (prepared a c)) (xor (product 3 (prepared b d)) (xor (product 1 (prepared c a)) (product 1 (prepared d b)))) ≡ xor (product 14 a) (xor (product 11 b) (xor (product 13 c) (product 9 d)))
unfolding prepared
backward_0 a b c d = simp by_doublings

backward_1 : (a b c d : ℕ) → xor (product 1 (prepared a c)) (xor (product 2 (prepared b d)) (xor (product 3 (prepared c a)) (product 1 (prepared d b)))) ≡ xor (product 9 a) (xor (product 14 b) (xor (product 11 c) (product 13 d)))
unfolding prepared
backward_1 a b c d = simp by_doublings

backward_2 : (a b c d : ℕ) → xor (product 1 (prepared a c)) (xor (product 1 (prepared b d)) (xor (product 2 (prepared c a)) (product 3 (prepared d b)))) ≡ xor (product 13 a) (xor (product 9 b) (xor (product 14 c) (product 11 d)))
unfolding prepared
backward_2 a b c d = simp by_doublings

backward_3 : (a b c d : ℕ) → xor (product 3 (prepared a c)) (xor (product 1 (prepared b d)) (xor (product 1 (prepared c a)) (product 2 (prepared d b)))) ≡ xor (product 11 a) (xor (product 13 b) (xor (product 9 c) (product 14 d)))
unfolding prepared
backward_3 a b c d = simp by_doublings

-- the column that the inverse hands to MixColumns
unfoldable pub prepared_at : (ℕ → ℕ) → ℕ → ℕ
prepared_at x r = prepared (x r) (x ((r + 2) % 4))

backward_prepared : (x : ℕ → ℕ) (r : ℕ) → r < 4 → dot (circulant mix_row r) (prepared_at x) ≡ dot (circulant inv_mix_row r) x
unfolding dot circulant prepared_at
backward_prepared x =
    places (λ r. dot (circulant mix_row r) (prepared_at x) ≡ dot (circulant inv_mix_row r) x) (backward_0 (x 0) (x 1) (x 2) (x 3))
    (backward_1 (x 0) (x 1) (x 2) (x 3)) (backward_2 (x 0) (x 1) (x 2) (x 3)) (backward_3 (x 0) (x 1) (x 2) (x 3))

-- ---- whole states

unfoldable pub mixed_at : List (List ℕ) → ℕ → ℕ → ℕ
mixed_at s r c = mixed (at s r c) (at s ((r + 1) % 4) c) (at s ((r + 2) % 4) c) (at s ((r + 3) % 4) c)

pub mixed_rows : (s : List (List ℕ)) → state (mixed_at s) ≡ mix_columns s
unfolding mixed_at mix_columns mix_with
mixed_rows s = state_ext (mixed_at s) (λ r c. dot (circulant mix_row r) (λ k. at s k c)) (λ r c hr hc. forward_mixed (λ k. at s k c) r hr)

pub prepared_rows : (s : List (List ℕ)) → mix_columns (state (λ r c. prepared_at (λ k. at s k c) r)) ≡ inv_mix_columns s
unfolding mix_columns inv_mix_columns mix_with
prepared_rows s =
    state_ext (λ r c. dot (circulant mix_row r) (λ k. at (state (λ r c. prepared_at (λ k. at s k c) r)) k c)) (λ r c. dot (circulant inv_mix_row r) (λ k. at s k c))
    (λ r c hr hc. dot_ext (circulant mix_row r) (λ k. at (state (λ r c. prepared_at (λ k. at s k c) r)) k c) (prepared_at (λ k. at s k c)) (λ k hk. at-state (λ r c. prepared_at (λ k. at s k c) r) k c hk hc)
    ∙ backward_prepared (λ k. at s k c) r hr)
