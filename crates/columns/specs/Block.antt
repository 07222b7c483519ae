-- The block function that prepared words stand for. The crate `prepared` passes the name on.
use Rattle.std.specs.Prelude.{ℕ, cond, List, replicate}
use Rattle.cipher.specs.Cipher.{rounds_ok}
use Rattle.columns.specs.Inner.Rounds.{rounds_in, block_by_rounds}

-- Zero bytes under rounds other than 10, 12 and 14.
unfoldable pub prepared_block : List ℕ → List ℕ → List ℕ
prepared_block p b = cond (rounds_ok (rounds_in p)) (block_by_rounds p (rounds_in p) b) (replicate 16 0)
