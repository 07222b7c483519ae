-- Lists of calls from C as lists of the crates' own calls, and an older session carried over. Assumes nothing.
use Prim.Native.Nat.{ℕ, ◌<◌}
use mathlib.Core.Path.{◌≡◌, refl}
use mathlib.Core.Bool.{Bool, true, false, cond}
use mathlib.Core.List.{List}
use lib.Dec.{eqb}
use Rattle.calls.specs.Calls.{empty, call}
use Rattle.rules.specs.declared.Direction.TheVariants.{Decrypt}
use Rattle.rules.specs.Numbers.{modes, mode_of, direction_of}
use Rattle.modes.specs.declared.session.Session.{Session}
use Rattle.modes.specs.Sessions.{OpenedBy, open_number, fed_session, fed_text}
use Rattle.feeds.specs.Lists.{fed, Feeds}
use Rattle.feeds.specs.Promises.{DemandTwo, DemandThree}
use Rattle.feeds.proofs.DemandTwo.{demand_two}
use Rattle.feeds.proofs.DemandThree.{demand_three}
use Rattle.carry.specs.Older.{carried}
use Rattle.held.specs.declared.form.HeldSession.{HeldSession}
use Rattle.held.specs.declared.calls.HeldOpened.{HeldOpened}
use Rattle.held.specs.Held.{is_set, session_of, moved_held, carried_held}
use Rattle.held.specs.Calls.{open_held_number, HeldOpenedBy, feed_held_number, HeldFedBy}
use Rattle.held.specs.Promises.{HeldMode, opened_of, fed_of, OpenedFromC, FedFromC}
use Rattle.held.proofs.Laws.{held_mode, mode_accepted}
use Rattle.held.proofs.CallLaws.{opened_from_c, fed_from_c}
use Rattle.conguraha.specs.Promises.{HeldCarried, session32_of, HeldCall, held_fed, HeldFeeds, call_of, calls_of, FeedsFromC, DemandTwoFromC, DemandThreeFromC}

pub held_carried : HeldCarried
unfolding HeldCarried session_of carried_held carried session32_of
held_carried h = refl

-- ---- lists of feeds

-- A feed keeps the mode's number.
same_mode : (b : Bool) (h : HeldSession) (s : Session) → (cond b (moved_held h s) h).mode ≡ h.mode
unfolding moved_held
same_mode true h s = refl
same_mode false h s = refl

module _ (h : HeldSession) (c : HeldCall) (small : h.mode < modes) (f : HeldFedBy h c.input c.count c.out c.place c.result c.after) where
  mode-stays : c.result.session.mode < modes
  mode-stays =
      rw (f.session, same_mode (eqb (feed_held_number h c.input c.count c.out c.place) 0) h (fed_session (session_of h) (fed_text c.input c.count))) small

feeds_of : {h end : HeldSession} {calls : List HeldCall} → h.mode < modes → HeldFeeds h calls end → Feeds (session_of h) (calls_of calls) (session_of end)
unfolding calls_of call_of fed_of FedFromC
feeds_of small empty = empty
feeds_of {h} small (call {c = c} (held_fed f) rest) =
    call (fed (fed_from_c h c.input c.count c.out c.place c.result c.after small f)) (feeds_of (mode-stays h c small f) rest)

pub feeds_from_c : FeedsFromC
unfolding FeedsFromC
feeds_from_c h end calls small feeds = feeds_of small feeds

-- ---- demands 2 and 3

-- An accepted opening had a mode's number, and so has its session.
module _ (mode decrypting n m : ℕ) (key iv : List ℕ) (r : HeldOpened) (o : HeldOpenedBy mode decrypting n m key iv r) where
  mode-held : r.session.mode < modes
  unfolding HeldMode
  mode-held = rw o.opened (held_mode _)

  accepted-opened : r.number ≡ 0 → OpenedBy (mode_of mode) (direction_of (is_set decrypting)) n m key iv (opened_of r)
  unfolding OpenedFromC open_held_number
  accepted-opened accepted = opened_from_c mode decrypting n m key iv r (mode_accepted mode (open_number (mode_of mode) n m key iv) o.answer accepted) o

  -- One for decryption, whatever byte says so.
  decrypting-opened : is_set decrypting ≡ true → r.number ≡ 0 → OpenedBy (mode_of mode) Decrypt n m key iv (opened_of r)
  unfolding direction_of
  decrypting-opened back accepted = rw back at (accepted-opened accepted)

pub demand_two_from_c : DemandTwoFromC
unfolding DemandTwoFromC DemandTwo opened_of
demand_two_from_c mode decrypting n m key iv r calls end key_bytes iv_bytes o accepted feeds =
    demand_two (mode_of mode) (direction_of (is_set decrypting)) n m key iv (opened_of r) (calls_of calls) (session_of end) key_bytes iv_bytes
    (accepted-opened mode decrypting n m key iv r o accepted)
    accepted
    (feeds_of (mode-held mode decrypting n m key iv r o) feeds)

pub demand_three_from_c : DemandThreeFromC
unfolding DemandThreeFromC DemandThree opened_of
demand_three_from_c mode d d' n m m' key v w r q calls others end end' key_bytes v_bytes w-bytes back back' o accepted o' accepted' feeds feeds' =
    demand_three (mode_of mode) n m m' key v w (opened_of r) (opened_of q) (calls_of calls) (calls_of others) (session_of end) (session_of end') key_bytes v_bytes w-bytes
    (decrypting-opened mode d n m key v r o back accepted)
    accepted
    (decrypting-opened mode d' n m' key w q o' back' accepted')
    accepted'
    (feeds_of (mode-held mode d n m key v r o) feeds)
    (feeds_of (mode-held mode d' n m' key w q o') feeds')
