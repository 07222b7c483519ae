-- Demand 2 for lists of feeds: `DemandTwo` and `UndoneByTheOther`. Assumes nothing.
use mathlib.Core.Path.{◌∙◌}
use mathlib.Core.List.{List}
use Rattle.aes.specs.Calls.{encrypted, decrypted}
use Rattle.rules.specs.declared.Direction.{Direction}
use Rattle.rules.specs.Promises.{other, Texts, TextsHold}
use Rattle.rules.proofs.Texts.{texts_hold}
use Rattle.modes.specs.declared.session.Session.{Session}
use Rattle.feeds.specs.Machine.{Opening}
use Rattle.feeds.specs.Lists.{Call, all_fed}
use Rattle.feeds.specs.Promises.{DemandTwo, UndoneByTheOther}
use Rattle.feeds.proofs.OpenedFeeds.{OpenedFeeds, opened_feeds}

texts : {o : Opening} {dir : Direction} {calls : List Call} {end : Session} → OpenedFeeds o dir calls end
    → Texts (encrypted o.key) (decrypted o.key) o.mode dir o.n o.m o.iv (all_fed calls)
unfolding TextsHold
texts {o} {dir} {calls} q =
    texts_hold (encrypted o.key) (decrypted o.key) o.mode dir o.n o.m o.iv (all_fed calls) q.block_ciphers q.unit q.whole q.block

pub demand_two : DemandTwo
unfolding DemandTwo
demand_two mode dir n m key iv r calls end key_bytes iv_bytes opening accepted feeds =
    let q = opened_feeds (record { mode = mode; n = n; m = m; key = key; iv = iv }) dir key_bytes iv_bytes opening accepted feeds in
    record { standard_text = q.text ∙ (texts q).standard_text; units = q.units }

pub undone_by_the_other : UndoneByTheOther
unfolding UndoneByTheOther
undone_by_the_other mode dir n m key iv r q calls back end end' key_bytes iv_bytes opening accepted opening-back accepted-back feeds feeds-back same =
    let o : Opening = record { mode = mode; n = n; m = m; key = key; iv = iv } in
    let there = opened_feeds o dir key_bytes iv_bytes opening accepted feeds in
    (opened_feeds o (other dir) key_bytes iv_bytes opening-back accepted-back feeds-back).text ∙ rw (same, there.text) (texts there).undone
