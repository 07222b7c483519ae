-- A list of feeds on the session that an accepted opening returned: all that the laws about whole texts ask for, and
-- the text that was written. Assumes nothing.
use mathlib.Core.Path.{◌≡◌, refl, ap, ◌∙◌}
use mathlib.Core.Bool.{true}
use mathlib.Core.List.{List}
use native.Mathlib.Nat.{zero-add}
use lib.ListN.{length}
use Rattle.bits.specs.Blocks.{Bytes, Block, BlockCipher}
use Rattle.aes.specs.Calls.{encrypted, decrypted}
use Rattle.aes.specs.Promises.{KeyGivesCipher}
use Rattle.aes.proofs.CallLaws.{key_gives_cipher}
use Rattle.rules.specs.declared.Direction.{Direction}
use Rattle.rules.specs.Lengths.{unit_length_ok, whole_units}
use Rattle.rules.specs.Rules.{start, units_in, register_at, worked}
use Rattle.modes.specs.declared.session.Session.{Session}
use Rattle.modes.specs.declared.session.Opened.{Opened}
use Rattle.modes.specs.Sessions.{OpenedBy, opened_session, session_text, session_register, fed_session}
use Rattle.feeds.specs.Machine.{Opening}
use Rattle.feeds.specs.Lists.{Call, Feeds, all_fed, all_written}
use Rattle.feeds.proofs.ListLaws.{ended}
use Rattle.modes.proofs.OpeningLaws.{asked, opened-session, opened-ready}

pub record OpenedFeeds (o : Opening) (dir : Direction) (calls : List Call) (end : Session) : Type 0 where
  pub block_ciphers : BlockCipher (encrypted o.key) (decrypted o.key)
  pub unit : unit_length_ok o.mode o.n ≡ true
  pub block : Block (start o.mode o.iv)
  pub whole : whole_units o.mode o.n (length (all_fed calls)) ≡ true
  pub text : all_written calls ≡ worked (encrypted o.key) (decrypted o.key) o.mode dir o.n o.m (start o.mode o.iv) (all_fed calls)
  pub register : end.register ≡ register_at (encrypted o.key) (decrypted o.key) o.mode dir o.n o.m (start o.mode o.iv) (all_fed calls) (units_in o.n (length (all_fed calls)))
  pub units : end.units ≡ units_in o.n (length (all_fed calls))

pub opened_feeds : (o : Opening) (dir : Direction) {r : Opened} {calls : List Call} {end : Session} → Bytes o.key → Bytes o.iv
    → OpenedBy o.mode dir o.n o.m o.key o.iv r → r.number ≡ 0 → Feeds r.session calls end → OpenedFeeds o dir calls end
unfolding KeyGivesCipher opened_session session_text session_register fed_session encrypted decrypted
opened_feeds o dir {r} {calls} {end} key_bytes iv_bytes opening accepted feeds =
    let ready = opened-ready opening accepted key_bytes iv_bytes in
    let one = (ended (rw (opened-session opening accepted) at feeds) ready).as_one refl in
    record {
      block_ciphers = key_gives_cipher o.key key_bytes (asked opening accepted).key_size;
      unit = ready.unit;
      block = ready.arrays.register;
      whole = one.whole;
      text = one.text;
      register = ap (λ (s : Session). s.register) one.session;
      units = ap (λ (s : Session). s.units) one.session ∙ zero-add (units_in o.n (length (all_fed calls)));
    }
