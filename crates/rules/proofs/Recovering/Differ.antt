-- Two texts under one mask differ where the texts do, and a unit is masked with a block's first bits. Assumes nothing.
use Prim.Native.Nat.{ℕ, ◌≤◌, ◌<◌}
use mathlib.Core.Path.{◌≡◌, sym, ap, ◌∙◌}
use mathlib.Core.Logic.{◌↔◌}
use mathlib.Core.Bool.{Bool, false}
use mathlib.Core.List.{List}
use native.Mathlib.Decide.{dec_lt}
use native.Mathlib.Omega.{arith}
use lib.ListN.{length, take, get_or, get_or-eq_default}
use lib.Seq.{take_all, take-length}
use Rattle.bits.specs.Texts.{bits, xor_bits}
use Rattle.bits.specs.Blocks.{Block}
use Rattle.bits.proofs.Texts.{bits-block}
use Rattle.bits.proofs.Xors.{xor_bit_cancel, length-xor_bits, take-xor_bits, get_or-xor_bits}
use Rattle.rules.specs.Rules.{msb, mask}
use Rattle.rules.specs.Promises.{Differ}

module _ (x y k : List Bool) (same : length x ≡ length y) (covered : length x ≤ length k) (b : ℕ) where
  pub xor_same : (get_or (xor_bits x k) b false ≡ get_or (xor_bits y k) b false) ↔ (get_or x b false ≡ get_or y b false)
  xor_same = either (dec_lt b (length x))
    where
      either : Dec (b < length x) → (get_or (xor_bits x k) b false ≡ get_or (xor_bits y k) b false) ↔ (get_or x b false ≡ get_or y b false)
      either (yes h) =
          let ex = get_or-xor_bits x k b h (omega arith) in
          let ey = get_or-xor_bits y k b (omega arith) (omega arith) in (
            λ e. xor_bit_cancel (get_or x b false) (get_or y b false) (get_or k b false) (cc),
            λ e. cc,
          )
      either (no h) =
          let past : (l : List Bool) → length l ≤ length x → get_or l b false ≡ false = λ l short. get_or-eq_default l false (omega arith) in (
            λ e. past x (omega arith) ∙ sym (past y (omega arith)),
            λ e. past (xor_bits x k) (omega (arith, length-xor_bits x k covered)) ∙ sym (past (xor_bits y k) (omega (arith, length-xor_bits y k (omega arith)))),
          )

  pub xor-differ : Differ (xor_bits x k) (xor_bits y k) b ↔ Differ x y b
  xor-differ = (λ d e. d (xor_same.1 e), λ d e. d (xor_same.0 e))

-- A unit's own length picks the block's first bits.
pub mask-xor : (u : List Bool) {b : List ℕ} → length u ≤ 128 → Block b → mask u b ≡ xor_bits u (bits b)
unfolding mask msb
mask-xor u {b} short block =
    let covered : length u ≤ length (bits b) = omega (arith, bits-block block) in
    sym (take-xor_bits (length u) u (bits b) ∙ ap (λ (v : List Bool). xor_bits v (take (length u) (bits b))) (take-length u))
    ∙ take_all (length u) (xor_bits u (bits b)) (omega (arith, length-xor_bits u (bits b) covered))
