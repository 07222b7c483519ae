-- The numbers of a session's registers in the message: each is the session's R, or the opening's IV, counted up.
-- Assumes nothing.
use mathlib.Core.Path.{◌≡◌, refl, sym, ap, ◌∙◌}
use mathlib.Core.List.{List}
use Prim.Native.Nat.{ℕ, ◌^◌, ◌<◌, ◌≤◌}
use native.Mathlib.Omega.{arith}
use lib.Pow.{pow_pos}
use Rattle.bits.specs.Blocks.{Block}
use Rattle.rules.specs.declared.Mode.TheVariants.{Ctr}
use Rattle.rules.specs.Rules.{start}
use Rattle.rules.specs.Standard.{counter}
use Rattle.rules.proofs.Counters.{ctr_register, counter-block}
use Rattle.rules.proofs.Taken.{counter_bounds}
use Rattle.modes.specs.Sessions.{opened_session}
use Rattle.feeds.specs.Machine.{Opening}
use Rattle.feeds.specs.Counters.{CounterBlocksDiffer}
use Rattle.modes.proofs.OpeningLaws.{asked, opened-session, opened-ready}
use Rattle.feeds.proofs.OpenedFeeds.{opened_feeds}
use Rattle.feeds.proofs.CounterLaws.{counted_up, counter_blocks_differ}
use Rattle.places.specs.Answers.{Place}
use Rattle.places.specs.Answers.{ToldBy}
use Rattle.places.specs.Promises.{Answers, RegistersTell, OpenedRegistersTell, NextRegisterTells}
use Rattle.places.proofs.ToldLaws.{back}

-- A block that is another, counted up t times.
tells : {m : ℕ} {iv block : List ℕ} {r : Place} → Block iv → 0 < m → m ≤ 128 → (t : ℕ) → t < 2 ^ m → block ≡ counter m iv t → ToldBy iv block m r → Answers r t
tells {m} hiv some fits t below there by = back hiv (rw there (counter-block m hiv t)) by some fits t (record { below = below; there = sym there })

pub registers_tell : RegistersTell
unfolding RegistersTell
registers_tell s end calls t r ctr arrays run inside by =
    let q = counted_up ctr arrays run t (omega (arith, inside)) in
    tells arrays.register q.some q.fits t q.below q.there by

pub opened_registers_tell : OpenedRegistersTell
unfolding OpenedRegistersTell RegistersTell CounterBlocksDiffer opened_session start
opened_registers_tell dir n m key iv opened calls s t r key_bytes iv_bytes opening accepted run done by =
    let first = opened-session opening accepted in
    let arrays = (opened-ready opening accepted key_bytes iv_bytes).arrays in
    let from = rw first at run in
    let once = counter_blocks_differ _ s calls refl arrays from in
    registers_tell _ s calls t r refl arrays from (omega (arith, done, once.counted)) (rw first at by)

pub next_register_tells : NextRegisterTells
unfolding NextRegisterTells opened_session start
next_register_tells dir n m key iv opened calls s r key_bytes iv_bytes opening accepted run below by =
    let o : Opening = record { mode = Ctr; n = n; m = m; key = key; iv = iv } in
    let q = opened_feeds o dir key_bytes iv_bytes opening accepted run in
    let there : s.register ≡ counter m iv s.units = q.register ∙ ctr_register _ _ dir n m iv _ _ ∙ ap (counter m iv) (sym q.units) in
    let (some, fits) = counter_bounds Ctr m (asked opening accepted).counter in
    tells (opened-ready opening accepted key_bytes iv_bytes).arrays.register some fits s.units (omega (arith, below, pow_pos m)) there by
