-- Demand 3 for two lists of decrypting feeds: `DemandThree`. Assumes nothing.
use Prim.Native.Nat.{ℕ, zero, suc, ◌+◌, ◌*◌, ◌≤◌, ◌<◌}
use mathlib.Core.Path.{◌≡◌, refl, sym, ap, ◌∙◌}
use mathlib.Core.List.{List, []}
use native.Mathlib.Nat.{le_refl, le_trans, le_of_mul-le-mul_right}
use native.Mathlib.Omega.{arith}
use lib.ListN.{length, get_or}
use Rattle.bits.specs.Blocks.{Bytes}
use Rattle.aes.specs.Calls.{encrypted, decrypted}
use Rattle.rules.specs.declared.Direction.TheVariants.{Decrypt}
use Rattle.rules.specs.Rules.{start, units_in, register_at}
use Rattle.rules.specs.Promises.{RecoveryHolds}
use Rattle.rules.proofs.Counts.{units_cover}
use Rattle.rules.proofs.Taken.{unit_bounds}
use Rattle.rules.proofs.Recovering.{recovery_holds}
use Rattle.modes.specs.declared.session.Session.{Session}
use Rattle.modes.specs.declared.session.Opened.{Opened}
use Rattle.modes.specs.Sessions.{OpenedBy, opened_session, session_register}
use Rattle.feeds.specs.Machine.{Opening, machine_start}
use Rattle.feeds.specs.Lists.{Call, Feeds, all_fed, registers_after, registers}
use Rattle.feeds.specs.Promises.{Followed, DemandThree}
use Rattle.modes.proofs.OpeningLaws.{opened-session, opened-ready}
use Rattle.feeds.proofs.OpenedFeeds.{opened_feeds}
use Rattle.feeds.proofs.MachineLaws.{session_of}
use Rattle.feeds.proofs.AgreementLaws.{beside}
use Rattle.feeds.proofs.RegisterLaws.{along-length, along-at, session_registers, list_registers}
use Rattle.feeds.proofs.UsedLaws.{list_used}

-- One list: its machine, and the registers by the unit rules.
record ListFed (o : Opening) (calls : List Call) : Type 0 where
  pub followed : Followed o calls
  pub register : (t : ℕ) → t ≤ units_in o.n (length (all_fed calls))
      → get_or (registers o calls) t [] ≡ register_at (encrypted o.key) (decrypted o.key) o.mode Decrypt o.n o.m (start o.mode o.iv) (all_fed calls) t

list_fed : (o : Opening) {r : Opened} {calls : List Call} {end : Session} → Bytes o.key → Bytes o.iv
    → OpenedBy o.mode Decrypt o.n o.m o.key o.iv r → r.number ≡ 0 → Feeds r.session calls end → ListFed o calls
unfolding machine_start session_of opened_session registers session_registers session_register register_at encrypted decrypted
list_fed o {r} {calls} {end} key_bytes iv_bytes opening accepted feeds =
    let from = rw (opened-session opening accepted) at feeds in
    let ready = opened-ready opening accepted key_bytes iv_bytes in
    let m = beside from (machine_start o) refl ready in
    let regs = list_registers from (machine_start o) refl ready in
    let q = opened_feeds o Decrypt key_bytes iv_bytes opening accepted feeds in
    let count = sym q.units ∙ ap (λ (s : Session). s.units) m.session in
    record {
      followed = record {
        agrees = m.agrees;
        ciphertext = m.ciphertext;
        plaintext = m.plaintext;
        counted = ap suc (ap length regs ∙ along-length _ _ ∙ count);
        last =
            ap (λ k. get_or (registers o calls) k []) (sym count) ∙ by_place regs (units_in o.n (length (all_fed calls))) (le_refl (units_in o.n (length (all_fed calls))))
            ∙ sym q.register ∙ ap (λ (s : Session). s.register) m.session;
        used = list_used from (machine_start o) refl ready;
      };
      register = by_place regs;
    }
  where
    by_place : registers_after (machine_start o) calls ≡ session_registers (opened_session o.mode Decrypt o.n o.m o.key o.iv) (all_fed calls) → (t : ℕ) → t ≤ units_in o.n (length (all_fed calls))
        → get_or (registers o calls) t [] ≡ register_at (encrypted o.key) (decrypted o.key) o.mode Decrypt o.n o.m (start o.mode o.iv) (all_fed calls) t
    by_place regs zero h = refl
    by_place regs (suc t) h = ap (λ l. get_or l t []) regs ∙ along-at (units_in o.n (length (all_fed calls))) _ [] t (omega arith)

-- A run's registers are among them.
within : {n : ℕ} (i k s bits : ℕ) → 0 < n → (i + k) * n ≤ bits → s ≤ k → i + s ≤ units_in n bits
within i k s bits some inside to = let cover = le_of_mul-le-mul_right (le_trans inside (units_cover bits some)) some in omega arith

pub demand_three : DemandThree
unfolding DemandThree RecoveryHolds
demand_three mode n m m' key v w r r' calls others end end' key_bytes v_bytes w-bytes opening accepted opening' accepted' feeds feeds' =
    let o : Opening = record { mode = mode; n = n; m = m; key = key; iv = v } in
    let o' : Opening = record { mode = mode; n = n; m = m'; key = key; iv = w } in
    let q = opened_feeds o Decrypt key_bytes v_bytes opening accepted feeds in
    let q' = opened_feeds o' Decrypt key_bytes w-bytes opening' accepted' feeds' in
    let l = list_fed o key_bytes v_bytes opening accepted feeds in
    let l' = list_fed o' key_bytes w-bytes opening' accepted' feeds' in
    let some = (unit_bounds mode n q.unit).0 in
    let recovery = recovery_holds (encrypted key) (decrypted key) mode n m m' v w (all_fed calls) (all_fed others) q.block_ciphers q.unit q.whole q'.whole q.block q'.block in
    record {
      machine = l.followed;
      other-machine = l'.followed;
      run-plain = λ count right i j k common s from to. rw (q.text, q'.text) (recovery.run-plain count right i j k common s from to);
      run-registers = λ count right i j k common s from to.
          l.register (i + s) (within i k s _ some common.inside_x to) ∙ recovery.run-registers count right i j k common s from to
          ∙ sym (l'.register (j + s) (within j k s _ some common.inside_y to));
      one-block-ecb = λ ecb j change. rw (q.text, q'.text) (recovery.one-block-ecb ecb j change);
      one_block = λ cbc same j change. rw (q.text, q'.text) (recovery.one_block cbc same j change);
      one-segment = λ cfb same j change. rw (q.text, q'.text) (recovery.one-segment cfb same j change);
      same_bits = λ free same counters long b. rw (q.text, q'.text) (recovery.same_bits free same counters long b);
    }
