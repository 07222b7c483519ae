-- Lists of feeds: the same on both sessions, and those of the older release in front of today's. Assumes nothing.
use mathlib.Core.Path.{◌≡◌, refl}
use mathlib.Core.Bool.{Bool, true, false, cond}
use mathlib.Core.List.{List, [], ◌∷◌, ◌++◌}
use native.Mathlib.Omega.{arith}
use lib.Dec.{eqb}
use borrow.Author.Tests.{eqb-true, eqb-false}
use Rattle.calls.specs.Calls.{empty, call}
use Rattle.calls.proofs.CallLaws.{kept}
use Rattle.rules.specs.declared.Direction.TheVariants.{Decrypt}
use Rattle.modes.specs.declared.session.Session.{Session}
use Rattle.feeds.specs.Lists.{Call, fed, Feeds}
use Rattle.feeds.specs.Promises.{DemandTwo, DemandThree}
use Rattle.modes.proofs.FeedLaws.{refused_same}
use Rattle.feeds.proofs.DemandTwo.{demand_two}
use Rattle.feeds.proofs.DemandThree.{demand_three}
use Rattle.carry.specs.declared.Session32.{Session32}
use Rattle.carry.specs.Older.{Fits, carried, Call32, Feed32, fed32, Feeds32}
use Rattle.carry.specs.Promises.{carried_fed, UnitsFit, SameFeeds, SameWhileAllowed, NeverPast, GoesOn, CarriedGoesOn, todays, accepted_feeds, AcrossTheChange, DemandTwoAcross, DemandThreeAcross}
use Rattle.carry.proofs.GivenLaws.{given-feed, given-opening}
use Rattle.carry.proofs.CarryLaws.{raised_32, fits_after, both-same, same_answer}
use Rattle.carry.proofs.PastLaws.{past-older}

-- ---- the older release's count

pub units_fit : UnitsFit
unfolding UnitsFit
units_fit s last olds fits older = kept stay older fits
  where
    stay : (s next : Session32) (c : Call32) → Feed32 s c next → Fits s → Fits next
    stay s next c (fed32 f) = fits_after s c f

-- ---- a list of the same feeds

goes_on : {s t : Session32} {end : Session} {olds : List Call32} {calls : List Call} → Fits s → Feeds32 s olds t → Feeds (carried s) calls end → SameFeeds olds calls
    → GoesOn s olds t calls end
unfolding SameFeeds SameWhileAllowed NeverPast
goes_on fits empty feeds same = ended feeds same
  where
    ended : {s : Session32} {end : Session} {calls : List Call} → Feeds (carried s) calls end → SameFeeds [] calls → GoesOn s [] s calls end
    ended empty same = record { each = tt; at_the_end = λ never. refl }
    ended (call g feeds) same = absurd same
goes_on fits (call (fed32 f) older) empty same = absurd same
goes_on {s} {t} {end} fits (call {c = c} {cs = cs} (fed32 f) older) (call {c = d} {cs = ds} (fed g) feeds) same =
    let alike = same_answer s c d same.0 f g in
    let stay : c.number ≡ 9 → d.result.number ≡ 15 → (d.result.session ≡ carried c.session) × (d.after ≡ c.after) = λ at_9 at-15. both-same s c d same.0 f g (λ e. omega (arith, at_9, e)) (λ e. omega (arith, at-15, e)) in
    let rest : d.result.session ≡ carried c.session → GoesOn c.session cs t ds end = λ e. goes_on (fits_after s c f fits) older (rw e at feeds) same.1 in
    record {
      each =
          record {
            allowed = λ not-9. (alike not-9, (rest (alike not-9).session).each);
            past = past-older s c d same.0 f g fits;
            both-refused = λ at_9 at-15. let (session, output) = stay at_9 at-15 in (session, output, (rest session).each);
          };
      at_the_end = λ never. (rest (alike never.0).session).at_the_end never.1;
    }

pub carried_goes_on : CarriedGoesOn
unfolding CarriedGoesOn
carried_goes_on s t end olds calls fits older feeds same = goes_on fits older feeds same

-- ---- across the change of release

across : {s t : Session32} {end : Session} {olds : List Call32} {calls : List Call} → Feeds32 s olds t → Feeds (carried t) calls end
    → Feeds (carried s) (accepted_feeds olds ++ calls) end
unfolding accepted_feeds todays carried_fed
across empty feeds = feeds
across {s} {end = end} {calls = calls} (call {c = c} {cs = cs} (fed32 f) older) feeds = by_number (eqb c.number 0) refl (across older feeds)
  where
    by_number : (b : Bool) → eqb c.number 0 ≡ b → Feeds (carried c.session) (accepted_feeds cs ++ calls) end
        → Feeds (carried s) (cond b (todays c ∷ accepted_feeds cs) (accepted_feeds cs) ++ calls) end
    by_number true e rest = call (fed (raised_32 s c f (λ at_9. omega (arith, at_9, eqb-true c.number 0 e)))) rest
    by_number false e rest = rw (refused_same ((given-feed s c).0 f) (eqb-false c.number 0 e)).0 at rest

pub across_the_change : AcrossTheChange
unfolding AcrossTheChange
across_the_change s t end olds calls older feeds = across older feeds

pub demand_two_across : DemandTwoAcross
unfolding DemandTwoAcross DemandTwo
demand_two_across mode dir n m key iv s t end olds calls bytes iv_bytes opened older feeds =
    demand_two mode dir n m key iv (record { number = 0; session = carried s }) (accepted_feeds olds ++ calls) end bytes iv_bytes ((given-opening mode dir n m key iv 0 s).0 opened) refl (across older feeds)

pub demand_three_across : DemandThreeAcross
unfolding DemandThreeAcross DemandThree
demand_three_across mode n m m' key v w bytes v_bytes w-bytes s t end olds calls opened older feeds s' t' end' olds' others opened' older' feeds' =
    demand_three mode n m m' key v w (record { number = 0; session = carried s }) (record { number = 0; session = carried s' }) (accepted_feeds olds ++ calls) (accepted_feeds olds' ++ others) end end' bytes v_bytes w-bytes ((given-opening mode Decrypt n m key v 0 s).0 opened) refl ((given-opening mode Decrypt n m' key w 0 s').0 opened') refl (across older feeds) (across older' feeds')
