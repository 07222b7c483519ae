-- A reason is given exactly where the text does not have the form, which is where the text program answers 12
-- (`NotFormedExactly` of `lines`).
use Rattle.std.specs.Prelude.{ℕ, ◌≤◌, ◌≡◌, ◌↔◌, List, Option, None, IsSome, IfSome}
use Rattle.grammar.specs.Grammar.{request}
use Rattle.reasons.specs.declared.fault.Reason.{Reason}

-- Line 5 is what follows the fourth.
pub record ReasonFor (input : List ℕ) (r : Option Reason) : Type 0 where
  pub exactly : IsSome r ↔ (request input ≡ None)
  pub line : IfSome r (λ reason. (1 ≤ reason.line) × (reason.line ≤ 5))
