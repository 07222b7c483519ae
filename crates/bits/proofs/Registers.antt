-- A register's shift as a window over the register and the segment after it. Assumes nothing.
use mathlib.Core.Path.{◌≡◌, sym}
use mathlib.Core.List.{List, ◌++◌}
use Prim.Native.Nat.{ℕ, ◌+◌, ◌≤◌}
use native.Mathlib.Omega.{arith}
use native.Mathlib.Nat.{le_refl}
use lib.ListN.{length, take, drop, length-drop, drop_of_length-le}
use lib.Seq.{take_all, take-append-add, drop-append-le}
use Rattle.bits.specs.Texts.{bits, pack_to}
use Rattle.bits.specs.Blocks.{Block}
use Rattle.bits.proofs.Texts.{bits-append, bits-block, pack_to-bits}
use Rattle.bits.proofs.Packed.{pack_to-cut}

pub shift_window : (r c : List ℕ) → Block r → (n : ℕ) → n ≤ 128
    → pack_to 16 (drop n (bits (r ++ c))) ≡ pack_to 16 (drop n (bits r) ++ take n (bits c))
shift_window r c h n l =
    let full : length (drop n (bits r)) + n ≡ 128 = simp (length-drop, bits-block h) (omega arith) in
    let fits : n ≤ length (bits r) = rw (bits-block h) l in
    rw (bits-append, drop-append-le n (bits r) (bits c) fits, ← pack_to-cut 16 128 (drop n (bits r) ++ bits c) (le_refl 128), ← full, take-append-add)

-- nothing of the register is left
pub shift_all : (r c : List ℕ) → Block r → Block c → (n : ℕ) → 128 ≤ n → c ≡ pack_to 16 (drop n (bits r) ++ take n (bits c))
shift_all r c hr hc n l =
    let none : length (bits r) ≤ n = rw (bits-block hr) l in
    let all : length (bits c) ≤ n = rw (bits-block hc) l in
    sym (rw (drop_of_length-le (bits r) none, take_all n (bits c) all) (rw hc.size at (pack_to-bits c hc.bytes)))
