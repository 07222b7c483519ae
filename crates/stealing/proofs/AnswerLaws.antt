-- What an accepted call answers. Assumes nothing.
use Prim.Native.Nat.{ℕ}
use mathlib.Core.Path.{◌≡◌, sym}
use mathlib.Core.Bool.{true}
use mathlib.Core.List.{List}
use borrow.Author.Tests.{eq-eqb}
use lib.Dec.{eqb}
use lib.ListN.{length}
use Rattle.aes.specs.Calls.{encrypted, decrypted}
use Rattle.rules.specs.declared.Direction.{Direction}
use Rattle.modes.specs.Sessions.{fed_text, written}
use Rattle.stolen.specs.Stealing.{stolen_text}
use Rattle.stealing.specs.Calls.{steal_number, StolenBy}

module _ (dir : Direction) (key iv input : List ℕ) (count : ℕ) (out : List ℕ) (place : ℕ) where
  pub steal-accepted : {after : List ℕ} → steal_number key iv (length input) count (length out) place ≡ 0
      → after ≡ written out place (stolen_text (encrypted key) (decrypted key) dir iv (fed_text input count)) → StolenBy dir key iv input count out place 0 after
  steal-accepted asked after_is =
      let e : eqb (steal_number key iv (length input) count (length out) place) 0 ≡ true = eq-eqb _ 0 asked in
      record { answer = sym asked; output = rw e after_is }
