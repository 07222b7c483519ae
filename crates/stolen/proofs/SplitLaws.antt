-- What a message becomes, in three parts: the blocks before the last two, the block before the end, and the end.
-- Assumes nothing.
use Prim.Native.Nat.{ℕ, zero, suc, ◌-◌, ◌<◌}
use mathlib.Core.Path.{◌≡◌, refl, ap}
use mathlib.Core.Bool.{Bool}
use mathlib.Core.List.{List, ◌++◌}
use native.Mathlib.Numerals.{sub-one}
use native.Mathlib.Omega.{arith}
use borrow.Author.Tests.{lt-ltb, le-ltb}
use lib.ListN.{length}
use Rattle.bits.specs.Texts.{bits, xor_bits}
use Rattle.rules.specs.declared.Direction.TheVariants.{Encrypt, Decrypt}
use Rattle.rules.specs.Rules.{msb, unit_at, units_in, joined}
use Rattle.rules.specs.Standard.{ciph, ciph_inv, cbc_cipher, cbc_plain}
use Rattle.rules.proofs.Joined.{joined_same}
use Rattle.stolen.specs.Stealing.{full_blocks, filled, before, placed, last_full, cipher_at, opened, restored, plain_at, stolen_text}

-- ---- the places

pub placed_early : (m t : ℕ) (a b c : List Bool) → suc t < m → placed m t a b c ≡ a
unfolding placed
placed_early m t a b c h = rw (lt-ltb (suc t) m h)

pub placed-before : (m t : ℕ) (a b c : List Bool) → suc t ≡ m → placed m t a b c ≡ b
unfolding placed
placed-before m t a b c h = rw (le-ltb (suc t) m (omega arith), lt-ltb t m (omega arith))

pub placed_end : (m : ℕ) (a b c : List Bool) → placed m m a b c ≡ c
unfolding placed
placed_end m a b c = rw (le-ltb (suc m) m (omega arith), le-ltb m m (omega arith))

joined-placed : (m : ℕ) (f g : ℕ → List Bool) (e : List Bool) → 0 < m
    → joined (suc m) (λ t. placed m t (f t) (g t) e) ≡ joined (m - 1) f ++ g (m - 1) ++ e
unfolding joined
joined-placed zero f g e h = absurd (omega arith)
joined-placed (suc k) f g e h =
    rw (sub-one, placed-before (suc k) k (f k) (g k) e refl, placed_end (suc k) (f (suc k)) (g (suc k)) e)
    (ap (λ (l : List Bool). l ++ g k ++ e) (joined_same k (λ t i. placed_early (suc k) t (f t) (g t) e (omega arith))))

-- ---- how many

-- A message has a block before its tail, and its tail is its last block.
pub some_full : (n : ℕ) → 128 < n → 0 < full_blocks n
unfolding full_blocks
some_full n long = omega arith

pub tail_last : (n : ℕ) → 128 < n → units_in 128 n ≡ suc (full_blocks n)
unfolding full_blocks units_in
tail_last n long = omega arith

-- ---- the parts

module _ (enc dec : List ℕ → List ℕ) (iv : List ℕ) (x : List Bool) (long : 128 < length x) where
  abbrev block : ℕ → List Bool
  block = unit_at 128 x

  abbrev m : ℕ
  m = full_blocks (length x)

  pub encrypted-split : stolen_text enc dec Encrypt iv x
      ≡ joined (m - 1) (cbc_cipher enc dec block (bits iv)) ++ ciph enc dec (xor_bits (filled (block m)) (last_full enc dec iv x)) ++ msb (length (block m)) (last_full enc dec iv x)
  unfolding stolen_text cipher_at
  encrypted-split =
      rw (tail_last (length x) long)
      (joined-placed m (cbc_cipher enc dec block (bits iv)) (λ _. ciph enc dec (xor_bits (filled (block m)) (last_full enc dec iv x)))
      (msb (length (block m)) (last_full enc dec iv x)) (some_full (length x) long))

  pub decrypted-split : stolen_text enc dec Decrypt iv x
      ≡ joined (m - 1) (cbc_plain enc dec block (bits iv)) ++ xor_bits (ciph_inv enc dec (restored enc dec iv x)) (before block (bits iv) (m - 1)) ++ xor_bits (msb (length (block m)) (opened enc dec iv x)) (block m)
  unfolding stolen_text plain_at
  decrypted-split =
      rw (tail_last (length x) long)
      (joined-placed m (cbc_plain enc dec block (bits iv)) (λ t. xor_bits (ciph_inv enc dec (restored enc dec iv x)) (before block (bits iv) t))
      (xor_bits (msb (length (block m)) (opened enc dec iv x)) (block m)) (some_full (length x) long))
