-- Only CTR looks at m: elsewhere the registers and the text are the same for every m. Assumes nothing.
use Prim.Native.Nat.{ℕ, zero, suc}
use mathlib.Core.Path.{◌≡◌, refl, ap, ◌∙◌}
use mathlib.Core.Bool.{Bool}
use mathlib.Core.List.{List}
use lib.ListN.{length}
use Rattle.bits.specs.Counter.{increment}
use Rattle.rules.specs.declared.Mode.{Mode}
use Rattle.rules.specs.declared.Mode.TheVariants.{Ecb, Cbc, Cfb, Ofb, Ctr}
use Rattle.rules.specs.declared.Direction.{Direction}
use Rattle.rules.specs.declared.Direction.TheVariants.{Encrypt, Decrypt}
use Rattle.rules.specs.Rules.{next, cipher_unit, out_of, next_of, unit_at, units_in, register_at, out_at, worked}
use Rattle.rules.proofs.Undo.{worked_by}

module _ (enc dec : List ℕ → List ℕ) {m m' : ℕ} where
  next-any : (mode : Mode) → (mode ≡ Ctr → m ≡ m') → (r : List ℕ) (c : List Bool) → next enc dec mode m r c ≡ next enc dec mode m' r c
  unfolding next
  next-any Ecb free r c = refl
  next-any Cbc free r c = refl
  next-any Cfb free r c = refl
  next-any Ofb free r c = refl
  next-any Ctr free r c = ap (λ (k : ℕ). increment k r) (free refl)

  module _ (mode : Mode) (free : mode ≡ Ctr → m ≡ m') where
    pub nextOf-any : (dir : Direction) (r : List ℕ) (u : List Bool) → next_of enc dec mode dir m r u ≡ next_of enc dec mode dir m' r u
    unfolding next_of
    nextOf-any Encrypt r u = next-any mode free r (cipher_unit enc dec mode r u)
    nextOf-any Decrypt r u = next-any mode free r u

    pub register-any : (dir : Direction) (n : ℕ) (r : List ℕ) (x : List Bool) (t : ℕ) → register_at enc dec mode dir n m r x t ≡ register_at enc dec mode dir n m' r x t
    unfolding register_at
    register-any dir n r x zero = refl
    register-any dir n r x (suc t) =
        ap (λ (s : List ℕ). next_of enc dec mode dir m s (unit_at n x t)) (register-any dir n r x t) ∙ nextOf-any dir _ (unit_at n x t)

    pub worked-any : (dir : Direction) (n : ℕ) (r : List ℕ) (x : List Bool) → worked enc dec mode dir n m r x ≡ worked enc dec mode dir n m' r x
    unfolding worked out_at
    worked-any dir n r x =
        worked_by enc dec mode dir n m r x (units_in n (length x)) (out_at enc dec mode dir n m' r x) refl
        (λ t h. ap (λ (s : List ℕ). out_of enc dec mode dir s (unit_at n x t)) (register-any dir n r x t))
