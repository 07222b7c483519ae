-- A table holds a rule when one computed test over its entries says so, or when it is composed of two that do. Assumes
-- nothing.
use mathlib.Core.Path.{◌≡◌, ap, ◌∙◌}
use mathlib.Core.List.{List}
use Prim.Native.Nat.{ℕ, ◌<◌}
use native.Mathlib.Omega.{arith}
use lib.Dec.{T, eqb, eqb→eq}
use lib.ListN.{length, get_or}
use Rattle.bits.proofs.Tables.{tabulated, entry as entry_of}
use Rattle.boxes.specs.Boxes.{Tabulates}

pub tabulates : (f : ℕ → ℕ) (table : List ℕ) → T (eqb (length table) 256) → T (tabulated f table) → Tabulates f table
tabulates f table s t =
    let e : length table ≡ 256 = eqb→eq (length table) 256 s in
    record { entries = e; entry = λ b h. entry_of f table t b (omega arith) }

pub tabulates_too : {f g : ℕ → ℕ} {table : List ℕ} → Tabulates f table → ((b : ℕ) → b < 256 → f b ≡ g b) → Tabulates g table
tabulates_too tab e = record { entries = tab.entries; entry = λ b h. tab.entry b h ∙ e b h }

-- a table of g after f, by a table of each
pub tabulates_composed : {f g : ℕ → ℕ} {outer inner table : List ℕ} → ((b : ℕ) → f b < 256) → Tabulates g outer → Tabulates f inner
    → Tabulates (λ b. get_or outer (get_or inner b 0) 0) table → Tabulates (λ b. g (f b)) table
tabulates_composed {f} {outer = outer} bytes g-table f-table both =
    tabulates_too both (λ b h. ap (λ x. get_or outer x 0) (f-table.entry b h) ∙ g-table.entry (f b) (bytes b))
