-- A message in its parts: k blocks, the block before the last, and the last one, of 1 to 128 bits. Assumes nothing.
use Prim.Native.Nat.{ℕ, zero, suc, ◌+◌, ◌-◌, ◌*◌, ◌<◌}
use mathlib.Core.Path.{◌≡◌, sym, ap, ◌∙◌}
use mathlib.Core.Bool.{Bool}
use mathlib.Core.List.{List, [], ◌++◌}
use native.Mathlib.Nat.{le_of_eq}
use native.Mathlib.Numerals.{sub-one}
use native.Mathlib.Omega.{arith}
use lib.Dec.{lit<}
use lib.ListN.{length, length-append}
use lib.Seq.{take_all}
use Rattle.rules.specs.Rules.{unit_at, units_in, joined}
use Rattle.rules.proofs.Counts.{units_cover}
use Rattle.rules.proofs.Joined.{unit_short, unit_full, unit_length, unit-first, unit-last, unit_joined, joined_length, joined_units}
use Rattle.stolen.specs.Stealing.{full_blocks}
use Rattle.stolen.proofs.SplitLaws.{some_full, tail_last}
use Rattle.stolen.proofs.BlockLaws.{Whole}
use Rattle.stolen.proofs.TailLaws.{Tail}

abbrev pub message : ℕ → (ℕ → List Bool) → List Bool → List Bool → List Bool
message k f a e = joined k f ++ a ++ e

pub record Parts (k : ℕ) (f : ℕ → List Bool) (a e : List Bool) : Type 0 where
  pub early : (t : ℕ) → t < k → Whole (f t)
  pub whole : Whole a
  pub tail : Tail e

-- ---- the message of parts

module _ {k : ℕ} {f : ℕ → List Bool} {a e : List Bool} (parts : Parts k f a e) where
  early-length : length (joined k f) ≡ k * 128
  early-length = joined_length k f (λ t h. (parts.early t h).size)

  front_length : length (joined k f ++ a) ≡ suc k * 128
  front_length = simp length-append (omega (arith, early-length, parts.whole))

  pub parts-length : length (message k f a e) ≡ suc k * 128 + length e
  parts-length = length-append (joined k f ++ a) e ∙ ap (λ (n : ℕ). n + length e) front_length

  pub parts-long : 128 < length (message k f a e)
  parts-long = omega (arith, parts-length, parts.tail)

  pub parts-full : full_blocks (length (message k f a e)) ≡ suc k
  unfolding full_blocks
  parts-full = omega (arith, parts-length, parts.tail)

  pub parts-units : units_in 128 (length (message k f a e)) ≡ suc (suc k)
  parts-units = tail_last (length (message k f a e)) parts-long ∙ ap suc parts-full

  pub unit-early : (t : ℕ) → t < k → unit_at 128 (message k f a e) t ≡ f t
  unit-early t h =
      unit-first 128 (suc k) (joined k f ++ a) e front_length t (omega arith)
      ∙ unit-first 128 k (joined k f) a early-length t h
      ∙ unit_joined k f (λ s i. le_of_eq (parts.early s i).size) (λ s i. (parts.early s (omega arith)).size) t h

  pub unit-before : unit_at 128 (message k f a e) k ≡ a
  unit-before =
      unit-first 128 (suc k) (joined k f ++ a) e front_length k (omega arith)
      ∙ unit-last 128 k (joined k f) a early-length (le_of_eq parts.whole.size)

  pub unit-end : unit_at 128 (message k f a e) (suc k) ≡ e
  unit-end = unit-last 128 (suc k) (joined k f ++ a) e front_length parts.tail.short

pub parts_same-length : {k : ℕ} {f g : ℕ → List Bool} {a b d e : List Bool} → Parts k f a d → Parts k g b e → length d ≡ length e
    → length (message k f a d) ≡ length (message k g b e)
parts_same-length {k} one two same = parts-length one ∙ ap (◌+◌ (suc k * 128)) same ∙ sym (parts-length two)

-- A message of two blocks.
pub two_parts : {a e : List Bool} → Whole a → Tail e → Parts 0 (λ _. []) a e
two_parts whole last = record { early = λ t h. absurd (omega arith); whole = whole; tail = last }

-- ---- each message is one of parts

module _ (x : List Bool) (long : 128 < length x) where
  abbrev m : ℕ
  m = full_blocks (length x)

  joined-last : (n : ℕ) → 0 < n → joined n (unit_at 128 x) ≡ joined (n - 1) (unit_at 128 x) ++ unit_at 128 x (n - 1)
  unfolding joined
  joined-last zero h = absurd (omega arith)
  joined-last (suc n) h = rw sub-one

  pub in_parts : message (m - 1) (unit_at 128 x) (unit_at 128 x (m - 1)) (unit_at 128 x m) ≡ x
  unfolding joined
  in_parts =
      ap (λ (l : List Bool). l ++ unit_at 128 x m) (sym (joined-last m (some_full (length x) long)))
      ∙ joined_units 128 x (suc m)
      ∙ take_all (suc m * 128) x (rw (← tail_last (length x) long) (units_cover (length x) (lit< tt)))

  pub have-parts : Parts (m - 1) (unit_at 128 x) (unit_at 128 x (m - 1)) (unit_at 128 x m)
  unfolding full_blocks
  have-parts =
      record {
        early = λ t h. record { size = unit_full x t (omega arith) };
        whole = record { size = unit_full x (m - 1) (omega arith) };
        tail = record { some = rw unit_length (omega arith); short = unit_short 128 x m };
      }
