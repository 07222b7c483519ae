-- What the calls promise: refused they change nothing; accepted they write the message, which the other call gives
-- back. Assumes nothing.
use Prim.Native.Nat.{ℕ, ◌+◌, ◌*◌, ◌≤◌, ◌<◌}
use mathlib.Core.Path.{◌≡◌, sym, ap, ◌∙◌}
use mathlib.Core.Bool.{Bool}
use mathlib.Core.List.{List}
use native.Mathlib.Omega.{arith}
use borrow.Author.Tests.{eq-eqb, ne_eqb}
use lib.ListN.{length, drop, length-take}
use Rattle.bits.specs.Texts.{bytes_for}
use Rattle.bits.specs.Blocks.{Bytes}
use Rattle.bits.proofs.Texts.{length-bits}
use Rattle.aes.specs.Calls.{encrypted, decrypted}
use Rattle.rules.specs.declared.Direction.{Direction}
use Rattle.rules.specs.declared.Direction.TheVariants.{Decrypt}
use Rattle.rules.specs.Promises.{other}
use Rattle.modes.specs.Sessions.{fed_text, written}
use Rattle.modes.proofs.WrittenLaws.{written-before, written_behind, written-text, written-size}
use Rattle.stolen.specs.Stealing.{stolen_text}
use Rattle.stealing.specs.Calls.{steal_number, StolenBy}
use Rattle.stolen.specs.Promises.{StealingUndone, StealingRecovers}
use Rattle.stealing.specs.Promises.{StealRefusedUnchanged, ExactlyTheMessage, StealAcceptedExact, Acceptable, StealAccepts, MessageUndone, Message, sent, received, MessagesRecover}
use Rattle.stolen.proofs.UndoLaws.{stealing_undone}
use Rattle.stolen.proofs.RecoveryLaws.{stealing_recovers}
use Rattle.stealing.proofs.KeyLaws.{Keyed, keyed, fed-long, stolen-length}
use Rattle.stealing.proofs.NumberLaws.{StealTaken, steal_taken}
use Rattle.stealing.proofs.AcceptLaws.{steal_accepts}

pub steal_refused_unchanged : StealRefusedUnchanged
unfolding StealRefusedUnchanged
steal_refused_unchanged dir key iv input count out place number after stolen refused =
    rw (ne_eqb (steal_number key iv (length input) count (length out) place) 0 (λ e. refused (stolen.answer ∙ e))) at stolen.output

-- An input with `count` bits of text has the bytes for them.
fed_there : (input : List ℕ) (count : ℕ) → length (fed_text input count) ≡ count → count ≤ 8 * length input
unfolding fed_text
fed_there input count e = omega (arith, length-bits input, rw length-take at e)

-- ---- an accepted call

module _ {dir : Direction} {key iv input : List ℕ} {count : ℕ} {out : List ℕ} {place number : ℕ} {after : List ℕ} (hk : Bytes key) (hi : Bytes iv)
    (stolen : StolenBy dir key iv input count out place number after) (accepted : number ≡ 0) where
  number-zero : steal_number key iv (length input) count (length out) place ≡ 0
  number-zero = sym stolen.answer ∙ accepted

  asked : StealTaken key iv (length input) count (length out) place
  asked = steal_taken key iv (length input) count (length out) place number-zero

  under : Keyed key iv
  under = keyed hk hi asked.key_yes asked.iv_yes

  abbrev text : List Bool
  text = stolen_text (encrypted key) (decrypted key) dir iv (fed_text input count)

  text-length : length text ≡ count
  text-length = stolen-length under dir input count asked.message.there asked.message.more_than_16

  message-long : 128 < length (fed_text input count)
  message-long = fed-long under dir input count asked.message.there asked.message.more_than_16

  output-is : after ≡ written out place text
  output-is = rw (eq-eqb (steal_number key iv (length input) count (length out) place) 0 number-zero) at stolen.output

  exactly : ExactlyTheMessage dir key iv input count out place after
  unfolding fed_text
  exactly =
      rw output-is
      (record {
        same_size = written-size out place text asked.message.inside (rw text-length asked.message.room);
        ahead = written-before out place text asked.message.inside;
        behind = rw text-length at (written_behind out place text asked.message.inside);
        text = rw text-length at (written-text out place text asked.message.inside);
      })

  undone : stolen_text (encrypted key) (decrypted key) (other dir) iv (fed_text (drop place after) count) ≡ fed_text input count
  unfolding StealingUndone
  undone =
      rw exactly.text (stealing_undone (encrypted key) (decrypted key) dir iv (fed_text input count) under.ciphers under.block message-long).undone

  -- the other call, of an input that holds what was written: it is asked for room, and for nothing else that is not
  -- there
  other-takes : (input' out' : List ℕ) (place' : ℕ) → fed_text input' count ≡ fed_text (drop place after) count → place' + bytes_for count ≤ length out'
      → Acceptable key iv input' count out' place'
  unfolding StealAccepts
  other-takes input' out' place' same enough =
      let first = (steal_accepts dir key iv input count out place number after stolen).0 accepted in
      record {
        key-length = first.key-length;
        iv-length = first.iv-length;
        whole_bytes = first.whole_bytes;
        more_than_16 = first.more_than_16;
        at_most = first.at_most;
        there = fed_there input' count (ap length (same ∙ exactly.text) ∙ text-length);
        room = enough;
      }

pub steal_accepted_exact : StealAcceptedExact
unfolding StealAcceptedExact
steal_accepted_exact dir key iv input count out place number after hk hi stolen accepted = exactly hk hi stolen accepted

pub message_undone : MessageUndone
unfolding MessageUndone StealAccepts
message_undone dir key iv input count out place number after input' out' place' number' after' hk hi one accepted two same room =
    let asks = other-takes hk hi one accepted input' out' place' same (omega arith) in
    let zero = (steal_accepts (other dir) key iv input' count out' place' number' after' two).1 asks in
    (zero, (exactly hk hi two zero).text ∙ ap (stolen_text (encrypted key) (decrypted key) (other dir) iv) same ∙ undone hk hi one accepted)

-- ---- two messages

-- A message, sent or received: the key's, longer than a block, and its plaintext is that of its ciphertext.
record Known (key iv : List ℕ) (x p : List Bool) : Type 0 where
  keys : Keyed key iv
  long : 128 < length x
  plain : p ≡ stolen_text (encrypted key) (decrypted key) Decrypt iv x

known : {key iv : List ℕ} {x p : List Bool} → Bytes key → Bytes iv → Message key iv x p → Known key iv x p
unfolding other
known hk hi (sent {place = place} {after = after} stolen accepted) =
    record {
      keys = under hk hi stolen accepted;
      long = rw ((exactly hk hi stolen accepted).text, text-length hk hi stolen accepted) (asked hk hi stolen accepted).message.more_than_16;
      plain = sym (undone hk hi stolen accepted);
    }
known hk hi (received stolen accepted) =
    record { keys = under hk hi stolen accepted; long = message-long hk hi stolen accepted; plain = (exactly hk hi stolen accepted).text }

pub messages_recover : MessagesRecover
unfolding MessagesRecover StealingRecovers
messages_recover key v w x p y q hk hv hw one two =
    let a = known hk hv one in
    let b = known hk hw two in
    rw (a.plain, b.plain)
    (stealing_recovers (encrypted key) (decrypted key) v w x y a.keys.ciphers a.keys.block b.keys.block a.long b.long)
