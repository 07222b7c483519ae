-- One feed of all the data's bits, and the line that it gives. Assumes nothing.
use mathlib.Core.Path.{◌≡◌, sym, ap, ◌∙◌}
use mathlib.Core.List.{List, [], append-nil}
use Prim.Native.Nat.{ℕ, ◌+◌, ◌*◌, ◌/◌, ◌≤◌, ◌<◌}
use native.Mathlib.Omega.{arith}
use borrow.Author.Tests.{eq-eqb, le-leb}
use lib.ListN.{length, take, drop, drop_of_length-le, replicate}
use lib.Seq.{take_at}
use Rattle.bits.specs.Texts.{bytes_for, pack}
use Rattle.bits.proofs.Texts.{length-pack, bytes_for_whole}
use Rattle.modes.specs.declared.session.Session.{Session}
use Rattle.modes.specs.declared.session.Fed.{Fed}
use Rattle.modes.specs.Sessions.{Arrays, FedBy, fed_text, session_text, feed_number, written}
use Rattle.modes.proofs.SessionLaws.{text-length}
use Rattle.modes.proofs.FeedLaws.{accepted-ready, accepted-whole, accepted-count}
use Rattle.digits.specs.Texts.{hex_bytes, decoded_into}
use Rattle.digits.proofs.DigitLaws.{length-hex_bytes}
use Rattle.lines.specs.Answer.{line_of, fed_line}
use Rattle.lines.proofs.WrittenLines.{refused_line}
use Rattle.lines.proofs.NumberBounds.{feed_prints}

-- the bytes that were decoded to the front of an array that has room for them
pub decoded : (s out : List ℕ) {l : List ℕ} → length s / 2 ≤ length out → l ≡ decoded_into s out → take (length s / 2) l ≡ hex_bytes s
unfolding decoded_into
decoded s out room e =
    rw (e, le-leb (length s / 2) (length out) room) (take_at (hex_bytes s) (drop (length s / 2) out) (length s / 2) (length-hex_bytes s))

-- What is known of a feed of all the bits of a message of n bytes.
pub record WholeFeed (s : Session) (message : List ℕ) (n : ℕ) (r : Fed) (after : List ℕ) : Type 0 where
  pub prints : r.number < 100
  pub refused : (r.number ≡ 0 → ⊥) → line_of r.number [] ≡ fed_line s message
  pub size : r.number ≡ 0 → length after ≡ n
  pub accepted : r.number ≡ 0 → line_of 0 after ≡ fed_line s message

module _ {s : Session} {message out after : List ℕ} {r : Fed} (arrays : Arrays s) (room : length out ≡ length message)
    (fed : FedBy s message (length message * 8) out 0 r after) where
  abbrev text : List ℕ
  text = pack (session_text s (fed_text message (length message * 8)))

  answer : r.number ≡ feed_number s (length message) (length message * 8) (length message) 0
  answer = rw room at fed.answer

  refused-feed : (r.number ≡ 0 → ⊥) → line_of r.number [] ≡ fed_line s message
  unfolding fed_line
  refused-feed refused = sym (refused_line r.number text refused) ∙ ap (λ (k : ℕ). line_of k text) answer

  text-bytes : r.number ≡ 0 → length text ≡ length message
  text-bytes accepted =
      let x = fed_text message (length message * 8) in
      length-pack (session_text s x)
      ∙ ap bytes_for (text-length (accepted-ready fed accepted arrays) x (accepted-whole fed accepted) ∙ accepted-count fed accepted)
      ∙ bytes_for_whole (length message)

  all-written : r.number ≡ 0 → after ≡ text
  unfolding written
  all-written accepted =
      let zero : feed_number s (length message) (length message * 8) (length out) 0 ≡ 0 = sym fed.answer ∙ accepted in
      let enough : length out ≤ 0 + length text = omega (arith, text-bytes accepted) in
      rw (eq-eqb _ _ zero) at fed.output ∙ rw (drop_of_length-le out enough, append-nil)

  accepted-feed : r.number ≡ 0 → line_of 0 after ≡ fed_line s message
  unfolding fed_line
  accepted-feed accepted = rw (all-written accepted, ← answer, accepted)

  known : WholeFeed s message (length message) r after
  known =
      record {
        prints = rw answer (feed_prints s (length message) (length message * 8) (length message) 0);
        refused = refused-feed;
        size = λ accepted. ap length (all-written accepted) ∙ text-bytes accepted;
        accepted = accepted-feed;
      }

-- The same of the bytes that were decoded to the front of an array of 4,096, and lent.
pub whole_feed : {s : Session} (digits : List ℕ) {input out after : List ℕ} {r : Fed} → Arrays s → length digits / 2 ≤ 4096
    → input ≡ decoded_into digits (replicate 4096 0) → length out ≡ length digits / 2
    → FedBy s (take (length digits / 2) input) (length digits / 2 * 8) out 0 r after
    → WholeFeed s (hex_bytes digits) (length digits / 2) r after
whole_feed digits arrays few read room fed =
    let bytes = length-hex_bytes digits in
    let is = decoded digits (replicate 4096 0) few read in
    rw bytes at (known arrays (room ∙ sym bytes) (rw (is, ← bytes) at fed))
