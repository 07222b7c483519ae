-- By the mode. Assumes nothing.
use mathlib.Core.Path.{◌≡◌, refl}
use mathlib.Core.Bool.{false}
use mathlib.Core.Logic.{◌⊎◌, inl, inr}
use Rattle.rules.specs.declared.Mode.TheVariants.{Ecb, Cbc, Cfb, Ofb, Ctr}
use Rattle.units.specs.Inner.Turns.{runs_dec}
use Rattle.units.proofs.unit.runs_dec.Goals as goal

pub returns-in-Ecb : goal.returns-in-Ecb
unfolding runs_dec
returns-in-Ecb c = go c.in-Ecb.is
  where
    go : (c.args.mode ≡ Ecb) ⊎ (c.args.mode ≡ Cbc) → c.decrypts.result ≡ runs_dec c.args.mode c.args.direction
    go (inl e) = rw e c.decrypts.ensures
    go (inr e) = rw e c.decrypts.ensures

pub returns-in-Cfb : goal.returns-in-Cfb
unfolding runs_dec
returns-in-Cfb c = go c.in-Cfb.is
  where
    go : (c.args.mode ≡ Cfb) ⊎ ((c.args.mode ≡ Ofb) ⊎ (c.args.mode ≡ Ctr)) → false ≡ runs_dec c.args.mode c.args.direction
    go (inl e) = rw e refl
    go (inr (inl e)) = rw e refl
    go (inr (inr e)) = rw e refl
