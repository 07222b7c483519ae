-- The single block by the calls: what it wrote and block j of what the feed wrote are both the bytes of unit j of the
-- feed's text. Assumes nothing.
use Prim.Native.Nat.{ℕ, suc, ◌+◌, ◌*◌, ◌≤◌}
use mathlib.Core.Path.{◌≡◌, sym, ap, ◌∙◌}
use mathlib.Core.Bool.{Bool}
use mathlib.Core.List.{List, ◌++◌}
use native.Mathlib.Nat.{le_of_eq}
use native.Mathlib.Omega.{arith}
use borrow.Author.Tests.{eq-eqb}
use lib.ListN.{length, take, drop, length-drop}
use lib.Seq.{take_all, take_at, take-append-le, drop-append-le}
use Rattle.bits.specs.Texts.{bits, pack}
use Rattle.bits.proofs.Texts.{length-bits, length-pack, bytes_for_whole, pack_bytes, bits-pack, pack-block}
use Rattle.rules.specs.Rules.{unit_at}
use Rattle.rules.proofs.Joined.{unit_full}
use Rattle.questions.proofs.SentenceLaws.{room_exactly}
use Rattle.modes.specs.declared.session.Session.{Session}
use Rattle.modes.specs.declared.session.Fed.{Fed}
use Rattle.modes.specs.Sessions.{Arrays, FedBy, fed_text, session_text, written}
use Rattle.modes.proofs.WrittenLaws.{written_from}
use Rattle.modes.proofs.SessionLaws.{text-length}
use Rattle.modes.proofs.OpeningLaws.{opened-session, opened-ready}
use Rattle.modes.proofs.FeedLaws.{asked, accepted-count, accepted-whole, accepted-ready, accepted-output}
use Rattle.single.specs.Single.{block_at, single_number, plain_block, SingleBy}
use Rattle.single.specs.Promises.{BlockOfTheFeed, BlockByTheCalls}
use Rattle.single.proofs.NumberLaws.{block_there, single-taken}
use Rattle.single.proofs.FeedLaws.{packed-block, block_of_the_feed}

-- ---- the feed

-- block j of bytes, whatever bytes come after them
block_front : (text rest : List ℕ) (j : ℕ) → suc j * 16 ≤ length text → block_at (text ++ rest) j ≡ block_at text j
unfolding block_at
block_front text rest j there =
    ap (take 16) (drop-append-le (j * 16) text rest (omega arith))
    ∙ take-append-le 16 (drop (j * 16) text) rest (simp length-drop (omega arith))

-- block j of a text of k bytes is its unit j
block_packed : (k : ℕ) (x : List Bool) (rest : List ℕ) (j : ℕ) → length x ≡ k * 8 → suc j * 16 ≤ k → block_at (pack x ++ rest) j ≡ pack (unit_at 128 x j)
block_packed k x rest j size there =
    block_front (pack x) rest j (rw (length-pack, size, bytes_for_whole) there)
    ∙ sym (packed-block (pack x) (pack_bytes x) j)
    ∙ ap (λ (y : List Bool). pack (unit_at 128 y j)) (bits-pack k x size)

module _ {s : Session} {text out : List ℕ} {place : ℕ} {r : Fed} {after : List ℕ} (arrays : Arrays s)
    (fed : FedBy s text (length text * 8) out place r after) (accepted : r.number ≡ 0) where
  all-bits : fed_text text (length text * 8) ≡ bits text
  unfolding fed_text
  all-bits = take_all (length text * 8) (bits text) (le_of_eq (length-bits text))

  fed_length : length (session_text s (bits text)) ≡ length text * 8
  fed_length = rw all-bits at (text-length (accepted-ready fed accepted arrays) (fed_text text (length text * 8)) (accepted-whole fed accepted) ∙ accepted-count fed accepted)

  fed-block : (j : ℕ) → suc j * 16 ≤ length text → block_at (drop place after) j ≡ pack (unit_at 128 (session_text s (bits text)) j)
  fed-block j there =
      let x = session_text s (bits text) in
      rw (accepted-output fed accepted, all-bits, written_from out place x (asked fed accepted).inside)
      (block_packed (length text) x (drop (place + length (pack x)) out) j fed_length there)

-- ---- the single block

block_from : (out : List ℕ) (place : ℕ) (x : List Bool) → place ≤ length out → length x ≡ 128 → take 16 (drop place (written out place x)) ≡ pack x
block_from out place x inside size =
    rw (written_from out place x inside) (take_at (pack x) (drop (place + length (pack x)) out) 16 (pack-block x size).size)

module _ {key iv text : List ℕ} {j : ℕ} {out : List ℕ} {place number : ℕ} {after : List ℕ} (single : SingleBy key iv text j out place number after) (accepted : number ≡ 0) where
  number-zero : single_number key iv text j (length out) place ≡ 0
  number-zero = sym single.answer ∙ accepted

  single-output : after ≡ written out place (bits (plain_block key iv text j))
  single-output = rw (eq-eqb (single_number key iv text j (length out) place) 0 number-zero) at single.output

-- ---- the two

pub block_by_the_calls : BlockByTheCalls
unfolding BlockByTheCalls BlockOfTheFeed
block_by_the_calls key iv text j r hk hi ht opening opened out place fed after feeding fed-yes out' place' number after' single single-yes =
    let (block, room) = single-taken key iv text j (length out') place' (number-zero single single-yes) in
    let (whole, there) = block_there (length text) j block in
    let arrays : Arrays r.session = rw (opened-session opening opened) (opened-ready opening opened hk hi).arrays in
    let x = session_text r.session (bits text) in
    let size : length x ≡ length text * 8 = fed_length arrays feeding fed-yes in
    rw (single-output single single-yes, block_of_the_feed key iv text j r hk hi ht opening opened block)
    (block_from out' place' (unit_at 128 x j) (omega (arith, (room_exactly (length out') place' 16).0 room)) (unit_full x j (omega arith)))
    ∙ sym (fed-block arrays feeding fed-yes j there)
