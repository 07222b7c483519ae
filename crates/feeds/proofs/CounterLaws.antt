-- No counter block is used twice: over a list of feeds in CTR the registers before the units are the first counter
-- blocks from the session's own on, and question 15 keeps them to 2^m. Assumes nothing.
use Prim.Native.Nat.{ℕ, zero, suc, ◌+◌, ◌^◌, ◌≤◌, ◌<◌}
use mathlib.Core.Path.{◌≡◌, refl, sym, ap, ap₂, ◌∙◌}
use mathlib.Core.Bool.{Bool, true, false}
use mathlib.Core.List.{List, [], ◌∷◌, ◌++◌}
use native.Mathlib.Nat.{add-zero, add_assoc, div-zero}
use native.Mathlib.Omega.{arith}
use borrow.Author.Tests.{eqb-true, eqb-false}
use lib.ListN.{length, get_or}
use Rattle.calls.specs.Calls.{empty, call}
use Rattle.calls.proofs.CallLaws.{joined}
use Rattle.rules.specs.declared.Mode.{Mode}
use Rattle.rules.specs.declared.Mode.TheVariants.{Ctr}
use Rattle.rules.specs.Rules.{start, units_in, register_at}
use Rattle.rules.specs.Standard.{counter}
use Rattle.rules.proofs.Counts.{units_none}
use Rattle.rules.proofs.Counters.{ctr_register, counter_add, counter-distinct}
use Rattle.rules.proofs.Taken.{counter_bounds}
use Rattle.modes.specs.declared.session.Session.{Session}
use Rattle.modes.specs.Sessions.{Arrays, opened_session, session_register, fed_session}
use Rattle.feeds.specs.Lists.{Call, fed, Feeds, accepted, fed_bits, all_fed, along, registers_used}
use Rattle.modes.specs.Promises.{RefusedUnchanged}
use Rattle.feeds.specs.Counters.{EachOnce, CounterBlocksDiffer, OpenedBlocksDiffer, OpenedBlocksCountUp}
use Rattle.modes.proofs.SessionLaws.{enc_by, dec_by, fed-ready}
use Rattle.modes.proofs.FeedLaws.{refused_unchanged, asked, accepted-count, accepted-whole, accepted-session, accepted-ready}
use Rattle.feeds.proofs.ListLaws.{accepted_fed, ended}
use Rattle.modes.proofs.OpeningLaws.{opened-session, opened-ready}
use Rattle.feeds.proofs.RegisterLaws.{along-length, along-at, along-same, along-add}

-- The first k counter blocks.
blocks : ℕ → List ℕ → ℕ → List (List ℕ)
blocks m r k = along k (counter m r)

-- k units from the session s to `end`, and the counter blocks that they used.
record Used (s : Session) (calls : List Call) (end : Session) : Type 0 where
  pub k : ℕ
  pub used : registers_used s calls ≡ blocks s.m s.register k
  pub counted : end.units ≡ s.units + k
  pub within : 0 < k → (0 < s.m) × (s.m ≤ 128) × (s.units + k ≤ 2 ^ s.m)

-- A bound that is known where something was added, and one that holds where nothing was.
bounded : (a k : ℕ) {b : ℕ} → a ≤ b → (0 < k → a + k ≤ b) → a + k ≤ b
bounded a zero none some = omega arith
bounded a (suc k) none some = some (omega arith)

no_units : (n : ℕ) → units_in n 0 ≡ 0
unfolding units_in
no_units zero = rw div-zero
no_units (suc n) = units_none (omega arith)

-- ---- one call, before a list that is counted already

register_counts : (s : Session) → s.mode ≡ Ctr → (x : List Bool) (u : ℕ) → session_register s x u ≡ counter s.m s.register u
unfolding session_register
register_counts s ctr x u =
    ap (λ (mode : Mode). register_at (enc_by s) (dec_by s) mode s.direction s.n s.m s.register x u) ctr
    ∙ ctr_register (enc_by s) (dec_by s) s.direction s.n s.m s.register x u

module _ {s end : Session} {c : Call} {cs : List Call} where
  refused-used : fed_bits c ≡ [] → Used s cs end → c.result.session ≡ s → Used s (c ∷ cs) end
  unfolding registers_used along
  refused-used none q same =
      record {
        k = q.k;
        used = rw (none, no_units s.n, same) q.used;
        counted = q.counted;
        within = q.within;
      }

  accepted-used : s.mode ≡ Ctr → (x : List Bool) → fed_bits c ≡ x → (0 < s.m) × (s.m ≤ 128) → s.units + units_in s.n (length x) ≤ 2 ^ s.m → Used (fed_session s x) cs end
      → c.result.session ≡ fed_session s x → Used s (c ∷ cs) end
  unfolding registers_used fed_session blocks
  accepted-used ctr x text fits below q same =
      let new = units_in s.n (length x) in
      record {
        k = new + q.k;
        used =
            rw (text, same, q.used, along-add)
            (ap₂ ◌++◌ (along-same new (λ u h. register_counts s ctr x u))
            (along-same q.k (λ u h. ap (λ b. counter s.m b u) (register_counts s ctr x new) ∙ sym (counter_add s.m s.register new u))));
        counted = q.counted ∙ add_assoc s.units new q.k;
        within = λ some. (fits.0, fits.1, rw (← add_assoc) (bounded (s.units + new) q.k below (λ more. (q.within more).2)));
      }

-- ---- a list of calls

used_list : {s end : Session} {calls : List Call} → Feeds s calls end → s.mode ≡ Ctr → Arrays s → Used s calls end
unfolding registers_used blocks along accepted fed_bits RefusedUnchanged fed_session
used_list {s} empty ctr arrays = record { k = 0; used = refl; counted = sym (add-zero s.units); within = λ some. absurd (omega arith) }
used_list {s} {end} (call {c = c} {cs = cs} (fed f) feeds) ctr arrays = by_answer (accepted c) refl (used_list feeds)
  where
    by_answer : (b : Bool) → accepted c ≡ b → (c.result.session.mode ≡ Ctr → Arrays c.result.session → Used c.result.session cs end) → Used s (c ∷ cs) end
    by_answer false e rest =
        let same = (refused_unchanged s c.input c.count c.out c.place c.result c.after f (eqb-false c.result.number 0 e)).0 in
        refused-used (rw e) ((rw same at rest) ctr arrays) same
    by_answer true e rest =
        let number = eqb-true c.result.number 0 e in
        let a = asked f number in
        let same = accepted-session f number in
        let ready = fed-ready (accepted-ready f number arrays) _ (accepted-whole f number) in
        accepted-used ctr _ (accepted_fed c e) (counter_bounds s.mode s.m a.counter) (rw (accepted-count f number) a.blocks)
        ((rw same at rest) ctr ready.arrays) same

-- the register before unit u
used_at : {s end : Session} {calls : List Call} (q : Used s calls end) (u : ℕ) → u < q.k → get_or (registers_used s calls) u [] ≡ counter s.m s.register u
unfolding blocks
used_at {s} q u h = ap (λ l. get_or l u []) q.used ∙ along-at q.k (counter s.m s.register) [] u h

used_length : {s end : Session} {calls : List Call} (q : Used s calls end) → length (registers_used s calls) ≡ q.k
unfolding blocks
used_length {s} q = ap length q.used ∙ along-length q.k (counter s.m s.register)

-- The block is the session's R counted up u times, and u is below 2^m.
pub record CountedUp (s : Session) (u : ℕ) (block : List ℕ) : Type 0 where
  pub some : 0 < s.m
  pub fits : s.m ≤ 128
  pub below : u < 2 ^ s.m
  pub there : block ≡ counter s.m s.register u

pub counted_up : {s end : Session} {calls : List Call} → s.mode ≡ Ctr → Arrays s → Feeds s calls end → (u : ℕ) → u < length (registers_used s calls)
    → CountedUp s u (get_or (registers_used s calls) u [])
counted_up ctr arrays feeds u inside =
    let q = used_list feeds ctr arrays in
    let h : u < q.k = rw (used_length q) at inside in
    let (some, fits, below) = q.within (omega arith) in
    record { some = some; fits = fits; below = omega arith; there = used_at q u h }

-- ---- the promises

each_once : {s end : Session} {calls : List Call} → Used s calls end → Arrays s → EachOnce s calls end
each_once {s} {end} {calls} q arrays =
    let long = used_length q in
    record {
      different = λ i j before inside same.
          let (some, fits, below) = q.within (omega arith) in
          let e : i ≡ j = counter-distinct fits arrays.register i j (omega arith) (omega arith) (sym (used_at q i (omega arith)) ∙ same ∙ used_at q j (omega arith)) in
          omega arith;
      counted = q.counted ∙ ap (λ k. s.units + k) (sym long);
      at_most = omega (arith, bounded 0 q.k {b = 2 ^ s.m} (omega arith) (λ more. omega (arith, (q.within more).2)));
      block = λ i inside. used_at q i (omega arith);
    }

pub counter_blocks_differ : CounterBlocksDiffer
unfolding CounterBlocksDiffer
counter_blocks_differ s end calls ctr arrays feeds = each_once (used_list feeds ctr arrays) arrays

-- Units that were at most 2^m stay so.
still_few : {s end : Session} {calls : List Call} → Used s calls end → s.units ≤ 2 ^ s.m → end.units ≤ 2 ^ s.m
still_few {s} q few = rw q.counted (bounded s.units q.k few (λ more. (q.within more).2))

pub opened_blocks_differ : OpenedBlocksDiffer
unfolding OpenedBlocksDiffer opened_session fed_session
opened_blocks_differ dir n m key iv r before calls s end key_bytes iv_bytes opening accepted feeds rest =
    let first = opened-session opening accepted in
    let ready = opened-ready opening accepted key_bytes iv_bytes in
    let one = ended (rw first at feeds) ready in
    let later : s ≡ fed_session (opened_session Ctr dir n m key iv) (all_fed before) = (one.as_one refl).session in
    let here = (fed-ready ready (all_fed before) (one.as_one refl).whole).arrays in
    let p = used_list (rw first at feeds) refl ready.arrays in
    let q = used_list (rw later at rest) refl here in
    let all = used_list (rw first at (joined feeds rest)) refl ready.arrays in
    let few : s.units ≤ 2 ^ m = still_few p (omega arith) in
    record {
      in_all = rw first (each_once all ready.arrays);
      from_here = rw later (each_once q here);
      units = still_few q (rw later at few);
    }

pub opened_blocks_count_up : OpenedBlocksCountUp
unfolding OpenedBlocksCountUp opened_session start
opened_blocks_count_up dir n m key iv r calls end key_bytes iv_bytes opening accepted feeds i worked =
    let first = opened-session opening accepted in
    let arrays = (opened-ready opening accepted key_bytes iv_bytes).arrays in
    let once = each_once (used_list (rw first at feeds) refl arrays) arrays in
    rw first (once.block i (omega (arith, worked, once.counted)))
