-- The test of `alike` says what it means, both ways. Assumes nothing.
use Prim.Native.Nat.{ℕ, ◌≤◌}
use mathlib.Core.Path.{◌≡◌, refl, sym, ap, ◌∙◌}
use mathlib.Core.Bool.{Bool, true, false, beq, and-eq-true_iff}
use mathlib.Core.List.{List}
use native.Mathlib.Nat.{le_of_eq}
use native.Mathlib.Omega.{arith}
use borrow.Author.Tests.{eq-eqb, eqb-true}
use denote.Enum.Bare.{sameb}
use denote.Enum.Declared.{tag_of}
use lib.Dec.{eqb}
use lib.ListN.{length, take}
use lib.Seq.{take_all}
use Rattle.rules.specs.declared.Mode.{Mode}
use Rattle.rules.specs.declared.Mode.TheVariants.{Ecb, Cbc, Cfb, Ofb, Ctr}
use Rattle.rules.specs.declared.Direction.{Direction}
use Rattle.rules.specs.declared.Direction.TheVariants.{Encrypt, Decrypt}
use Rattle.rules.specs.contracts.Mode as mode
use Rattle.rules.specs.contracts.Direction as direction
use Rattle.rules.specs.Numbers.{mode_number, mode_of, is_decrypt, direction_of}
use Rattle.rules.proofs.NumberLaws.{mode_again, direction_again}
use Rattle.modes.specs.declared.session.Session.{Session}
use Rattle.inspect.specs.Alike.{keys_used, Alike, same_settings, alike_to}
use Rattle.modes.specs.Sessions.{Arrays}
use Rattle.inspect.specs.Promises.{AlikeExactly}
use Rattle.inspect.proofs.SameLaws.{same-means, means-same}

-- ---- `==` at modes and at directions, which the test has by their numbers and flags

tag_mode : (m : Mode) → tag_of mode.the_type m ≡ mode_number m
unfolding mode_number
tag_mode Ecb = refl
tag_mode Cbc = refl
tag_mode Cfb = refl
tag_mode Ofb = refl
tag_mode Ctr = refl

pub modes_equal : (m k : Mode) → sameb mode.the_type m k ≡ eqb (mode_number m) (mode_number k)
modes_equal m k = rw (tag_mode m, tag_mode k) refl

pub directions_equal : (d e : Direction) → sameb direction.the_type d e ≡ beq (is_decrypt d) (is_decrypt e)
unfolding is_decrypt
directions_equal Encrypt Encrypt = refl
directions_equal Encrypt Decrypt = refl
directions_equal Decrypt Encrypt = refl
directions_equal Decrypt Decrypt = refl

-- ---- the whole test

keys_inside : (rounds : ℕ) → keys_used rounds ≤ 240
unfolding keys_used
keys_inside rounds = omega arith

whole : (r : List ℕ) → length r ≡ 16 → take 16 r ≡ r
whole r e = take_all 16 r (le_of_eq e)

flags_same : (a b : Bool) → beq a b ≡ true → a ≡ b
flags_same true true e = refl
flags_same true false e = sym e
flags_same false true e = e
flags_same false false e = refl

flag_itself : (a : Bool) → beq a a ≡ true
flag_itself true = refl
flag_itself false = refl

same_flags : {a b : Bool} → a ≡ b → beq a b ≡ true
same_flags {a} {b} e = rw e (flag_itself b)

module _ (a b : Session) where
  test-means : Arrays a → Arrays b → alike_to a b ≡ true → Alike a b
  unfolding alike_to same_settings
  test-means sa sb e =
      let (most, register) = (and-eq-true_iff _ _).0 e in
      let (settings, keys) = (and-eq-true_iff _ _).0 most in
      let (e1, rounds) = (and-eq-true_iff _ _).0 settings in
      let (e2, counter) = (and-eq-true_iff _ _).0 e1 in
      let (e3, unit) = (and-eq-true_iff _ _).0 e2 in
      let (mode, direction) = (and-eq-true_iff _ _).0 e3 in
      let used = keys_inside a.rounds in
      record {
        mode = sym (mode_again a.mode) ∙ ap mode_of (eqb-true _ _ mode) ∙ mode_again b.mode;
        direction = sym (direction_again a.direction) ∙ ap direction_of (flags_same _ _ direction) ∙ direction_again b.direction;
        unit = eqb-true _ _ unit;
        counter = eqb-true _ _ counter;
        rounds = eqb-true _ _ rounds;
        keys = same-means a.keys b.keys (keys_used a.rounds) (omega (arith, sa.keys_size)) (omega (arith, sb.keys_size)) keys;
        register = sym (whole a.register sa.register.size) ∙ same-means a.register b.register 16 (omega (arith, sa.register.size)) (omega (arith, sb.register.size)) register ∙ whole b.register sb.register.size;
      }

  means-test : Alike a b → alike_to a b ≡ true
  unfolding alike_to same_settings
  means-test h =
      rw (
        eq-eqb _ _ (ap mode_number h.mode),
        same_flags (ap is_decrypt h.direction),
        eq-eqb _ _ h.unit,
        eq-eqb _ _ h.counter,
        eq-eqb _ _ h.rounds,
        means-same a.keys b.keys (keys_used a.rounds) h.keys,
        means-same a.register b.register 16 (ap (take 16) h.register),
      )

pub alike_exactly : AlikeExactly
unfolding AlikeExactly
alike_exactly a b sa sb = (test-means a b sa sb, means-test a b)
