-- A block by what the loop over the rounds makes of the words. Assumes nothing.
use mathlib.Core.Path.{◌≡◌, sym, ap, ◌∙◌}
use mathlib.Core.Bool.{Bool, true, false}
use mathlib.Core.List.{List}
use Prim.Native.Nat.{ℕ, suc, ◌+◌, ◌-◌, ◌≤◌}
use native.Mathlib.Omega.{arith}
use lib.ListN.{replicate}
use Rattle.steps.specs.State.{from_block, to_block}
use Rattle.cipher.specs.Cipher.{rounds_ok}
use Rattle.columns.specs.Inner.Rounds.{table_round, last_round, add_words, rounds_by, arranged, decrypts_by, rounds_in, block_by_rounds}
use Rattle.columns.specs.Block.{prepared_block}

pub round_more : (p : List ℕ) (round : ℕ) → 1 ≤ round → (x : List (List ℕ)) {s t next : List (List ℕ)} → s ≡ rounds_by p (round - 1) x
    → t ≡ table_round p s → next ≡ add_words p round t → next ≡ rounds_by p (round + 1 - 1) x
unfolding rounds_by
round_more p round pos x e t q =
    q ∙ ap (add_words p round) t ∙ ap (λ y. add_words p round (table_round p y)) e ∙ ap (λ n. add_words p n (table_round p (rounds_by p (round - 1) x))) down ∙ ap (λ n. rounds_by p n x) up
  where
    down : round ≡ suc (round - 1)
    down = omega arith

    up : suc (round - 1) ≡ round + 1 - 1
    up = omega arith

pub rounds_done : (p : List ℕ) (b : List ℕ) {round rounds : ℕ} {d : Bool} {s t u v : List (List ℕ)} {r : List ℕ} → round ≡ rounds → d ≡ decrypts_by p
    → s ≡ rounds_by p (round - 1) (arranged d (from_block b)) → t ≡ last_round p s → u ≡ add_words p rounds t → v ≡ arranged d u → r ≡ to_block v → r ≡ block_by_rounds p rounds b
unfolding block_by_rounds
rounds_done p b all way e l q a f = cc

module _ (p b : List ℕ) {rounds : ℕ} (kept : rounds ≡ rounds_in p) where
  pub run-rounds : rounds_ok rounds ≡ true → prepared_block p b ≡ block_by_rounds p rounds b
  unfolding prepared_block
  run-rounds e = rw (sym kept, e)

  pub run-refused : rounds_ok rounds ≡ false → prepared_block p b ≡ replicate 16 0
  unfolding prepared_block
  run-refused e = rw (sym kept, e)
