-- Where the older release answered 9: the carried session answers as question 15 does, by the bits of the counter.
-- Assumes nothing.
use Prim.Native.Nat.{ℕ, ◌+◌, ◌^◌, ◌≤◌, ◌<◌}
use mathlib.Core.Path.{◌≡◌, refl, sym, ap, ◌∙◌}
use mathlib.Core.Logic.{◌↔◌}
use mathlib.Core.Bool.{Bool, true, false, cond}
use native.Mathlib.Omega.{arith}
use lib.Pow.{pow_mono}
use lib.Dec.{leb}
use lib.ListN.{length}
use borrow.Author.Tests.{leb-true, le-leb, lt-leb, eqb-true}
use Rattle.rules.specs.declared.Mode.{Mode}
use Rattle.rules.specs.declared.Mode.TheVariants.{Ecb, Cbc, Cfb, Ofb, Ctr}
use Rattle.rules.specs.Lengths.{counter_length_ok}
use Rattle.rules.specs.Rules.{units_in}
use Rattle.rules.proofs.Counts.{units_few}
use Rattle.rules.proofs.Taken.{unit_bounds}
use Rattle.questions.specs.Questions.{counters_ok, max_bits, max_units}
use Rattle.questions.proofs.QuestionLaws.{session_good, bits_small}
use Rattle.modes.specs.Sessions.{FedBy, feed_number_within}
use Rattle.feeds.specs.Lists.{Call}
use Rattle.carry.specs.declared.Session32.{Session32}
use Rattle.carry.specs.OlderQuestions.{older_max_units}
use Rattle.carry.specs.Older.{Fits, carried, Call32, FedBy32}
use Rattle.carry.specs.Promises.{carried_fed, SameFeed, PastTheOlderLimit}
use Rattle.carry.proofs.GivenLaws.{given-feed}
use Rattle.carry.proofs.LimitLaws.{At9, at_9}
use Rattle.carry.proofs.CarryLaws.{same-fed}

-- Which counters have room for this many units: more than the older limit, by no more than the bits of a feed.
module _ (m done new : ℕ) (past : older_max_units < done + new) (near : done + new ≤ older_max_units + max_bits) where
  many-counted : 33 ≤ m → counters_ok m done new ≡ true
  unfolding counters_ok
  many-counted long = le-leb (done + new) (2 ^ m) (omega (arith, pow_mono {i = 33} {j = m} long))

  few-counted : m < 32 → counters_ok m done new ≡ false
  unfolding counters_ok
  few-counted short = lt-leb (done + new) (2 ^ m) (omega (arith, pow_mono {i = m} {j = 31} (omega arith)))

  with-32-counted : m ≡ 32 → (◌≡◌ {A = ℕ} (cond (counters_ok m done new) 0 15) 0) ↔ (done + new ≡ 4294967296)
  unfolding counters_ok
  with-32-counted e = (from_zero (counters_ok m done new) refl, λ last. rw (le-leb (done + new) (2 ^ m) (omega (arith, ap (◌^◌ 2) e, last))))
    where
      from_zero : (b : Bool) → leb (done + new) (2 ^ m) ≡ b → ◌≡◌ {A = ℕ} (cond b 0 15) 0 → done + new ≡ 4294967296
      from_zero true h zero = omega (arith, ap (◌^◌ 2) e, leb-true (done + new) (2 ^ m) h)
      from_zero false h zero = absurd (omega arith)

-- No other mode has a counter of its own length.
without : (mode : Mode) (m : ℕ) → (mode ≡ Ctr → ⊥) → counter_length_ok mode m ≡ true → m ≡ 128
unfolding counter_length_ok
without Ecb m other e = eqb-true m 128 e
without Cbc m other e = eqb-true m 128 e
without Cfb m other e = eqb-true m 128 e
without Ofb m other e = eqb-true m 128 e
without Ctr m other e = absurd (other refl)

module _ (s : Session32) (c : Call32) (d : Call) (same : SameFeed c d) (f : FedBy32 s c)
    (g : FedBy (carried s) d.input d.count d.out d.place d.result d.after) where
  told-by-9 : c.number ≡ 9 → At9 s.mode s.rounds s.n s.m s.closed s.units (length c.input) c.count (length c.out) c.place older_max_units
  unfolding carried_fed carried feed_number_within
  told-by-9 e = at_9 _ _ _ _ _ _ _ _ _ _ older_max_units (sym ((given-feed s c).0 f).answer ∙ e)

  pub past-older : Fits s → c.number ≡ 9 → PastTheOlderLimit s c d
  unfolding Fits carried feed_number_within
  past-older fits e =
      let q = told-by-9 e in
      let good = session_good s.mode s.rounds s.n s.m q.session_good in
      let some = (unit_bounds s.mode s.n good.1).0 in
      let few : units_in s.n c.count ≤ max_bits = omega (arith, units_few c.count some, bits_small max_bits (length c.input) c.count q.bits-good) in
      let near : s.units + units_in s.n c.count ≤ older_max_units + max_bits = omega (arith, fits, few) in
      let number : d.result.number ≡ cond (counters_ok s.m s.units (units_in s.n c.count)) 0 15 = (same-fed s c d same f g).answer ∙ q.by-15 max_units (omega (arith, near)) in
      record {
        exactly = number;
        without_counter = λ other. number ∙ rw (many-counted s.m s.units (units_in s.n c.count) q.past near (omega (arith, without s.mode s.m other good.2)));
        many_bits = λ long. number ∙ rw (many-counted s.m s.units (units_in s.n c.count) q.past near long);
        few_bits = λ short. number ∙ rw (few-counted s.m s.units (units_in s.n c.count) q.past near short);
        with_32 = λ m. rw number (with-32-counted s.m s.units (units_in s.n c.count) q.past near m);
      }
