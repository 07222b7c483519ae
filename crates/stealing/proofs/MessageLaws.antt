-- A message by its session: the blocks before the last two are fed, and the last two are put after what these became.
-- Assumes nothing.
use Prim.Native.Nat.{ℕ, ◌+◌, ◌-◌, ◌*◌, ◌/◌}
use mathlib.Core.Path.{◌≡◌, refl, sym, ap₂, ◌∙◌}
use mathlib.Core.Bool.{Bool}
use mathlib.Core.List.{List, ◌++◌, append_assoc}
use native.Mathlib.Nat.{zero-add, le_of_eq}
use native.Mathlib.Omega.{arith}
use lib.Dec.{lit<}
use lib.ListN.{length, take, drop, length-append}
use lib.Seq.{length-take-le, take_all, take-take}
use Rattle.bits.specs.Texts.{bits, bytes_for, pack, put_bits}
use Rattle.bits.specs.Blocks.{Block}
use Rattle.bits.proofs.Texts.{drop_bits, length-pack, bits-block}
use Rattle.cipher.specs.Cipher.{Enc, Dec}
use Rattle.rules.specs.declared.Mode.TheVariants.{Cbc}
use Rattle.rules.specs.Rules.{units_in, register_at, worked}
use Rattle.rules.proofs.Counts.{units_of}
use Rattle.modes.specs.declared.session.Session.{Session}
use Rattle.modes.specs.declared.session.Fed.{Fed}
use Rattle.modes.specs.Sessions.{Arrays, feed_number_within, feed_number, fed_text, session_text, session_register, fed_session, written, FedBy}
use Rattle.modes.proofs.SessionLaws.{text-length, ciphers}
use Rattle.modes.proofs.FeedLaws.{accepted-count, accepted-whole, accepted-ready, accepted-session, accepted-output}
use Rattle.modes.proofs.WorkLaws.{drop-take, put_next}
use Rattle.ending.specs.declared.Ending.{Ending}
use Rattle.stolen.specs.Stealing.{full_blocks, stolen_text}
use Rattle.stealing.specs.Inner.Messages.{Begins}
use Rattle.stolen.proofs.RestLaws.{fed-and-ended}
use Rattle.stealing.proofs.KeyLaws.{length_fed}
use Rattle.stealing.proofs.NumberLaws.{front_bits, end_bits, front_number}

module _ {s : Session} {input : List ℕ} {count : ℕ} {out : List ℕ} (b : Begins s input count out) where
  pub front-accepted : feed_number s (length input) (front_bits count) (length out) 0 ≡ 0
  unfolding feed_number_within
  front-accepted = rw (b.mode, b.unit, b.counter, b.not_closed, b.no_units) (front_number s.rounds (length input) count (length out) b.rounds_good b.there b.small b.room)

  abbrev x : List Bool
  x = fed_text input count

  abbrev E : List ℕ → List ℕ
  E = Enc s.rounds s.keys

  abbrev D : List ℕ → List ℕ
  D = Dec s.rounds s.keys

  abbrev t : ℕ
  t = full_blocks (length x) - 1

  message-length : length x ≡ count
  message-length = length_fed input count b.there

  front-is : fed_text input (front_bits count) ≡ take (t * 128) x
  unfolding fed_text full_blocks
  front-is = rw message-length (sym (take-take (front_bits count) count (bits input) (omega arith)))

  front_length : length (take (t * 128) x) ≡ t * 128
  unfolding full_blocks
  front_length = length-take-le (t * 128) x (omega arith)

  front-text-is : session_text s (fed_text input (front_bits count)) ≡ worked E D Cbc s.direction 128 128 s.register (take (t * 128) x)
  unfolding session_text
  front-text-is = rw (b.mode, b.unit, b.counter, front-is)

  front-register-is : session_register s (fed_text input (front_bits count)) (units_in s.n (length (fed_text input (front_bits count)))) ≡ register_at E D Cbc s.direction 128 128 s.register (take (t * 128) x) t
  unfolding session_register
  front-register-is = rw (b.mode, b.unit, b.counter, front-is, front_length, units_of t (lit< tt))

  rest-is : take (128 + end_bits count) (bits (drop (front_bits count / 8) input)) ≡ drop (t * 128) x
  unfolding fed_text full_blocks
  rest-is =
      let size : 128 + end_bits count ≡ count - front_bits count = omega (arith, b.more_than_16) in
      let bytes : front_bits count / 8 * 8 ≡ front_bits count = omega arith in
      rw (message-length, drop-take, ← drop_bits, bytes, size)

  accepted : {r : Fed} {after : List ℕ} → FedBy s input (front_bits count) out 0 r after → r.number ≡ 0
  accepted fed = fed.answer ∙ front-accepted

  pub fed-session : {r : Fed} {after : List ℕ} → FedBy s input (front_bits count) out 0 r after → r.session ≡ fed_session s (fed_text input (front_bits count))
  fed-session fed = accepted-session fed (accepted fed)

  -- what the feed of the front wrote, and what the last two blocks then leave
  module _ (arrays : Arrays s) {r : Fed} {after : List ℕ} (fed : FedBy s input (front_bits count) out 0 r after) where
    abbrev front : List Bool
    front = session_text s (fed_text input (front_bits count))

    fed_length : length front ≡ front_bits count
    fed_length = text-length (accepted-ready fed (accepted fed) arrays) (fed_text input (front_bits count)) (accepted-whole fed (accepted fed)) ∙ accepted-count fed (accepted fed)

    fed-out : after ≡ pack front ++ drop (bytes_for (length front)) out
    unfolding written
    fed-out = accepted-output fed (accepted fed) ∙ rw (zero-add, length-pack)

    ended-text : {ending : List Bool}
        → ending ≡ stolen_text (Enc r.session.rounds r.session.keys) (Dec r.session.rounds r.session.keys) r.session.direction r.session.register (take (128 + end_bits count) (bits (drop (front_bits count / 8) input)))
        → front ++ ending ≡ stolen_text E D s.direction s.register x
    unfolding fed_session
    ended-text ended =
        ap₂ (λ (a e : List Bool). a ++ e) front-text-is (rw (fed-session fed, front-register-is, rest-is) at ended)
        ∙ fed-and-ended (ciphers (accepted-ready fed (accepted fed) arrays)) arrays.register x (rw message-length b.more_than_16) s.direction

    pub message-written : {l : Ending} {final : List ℕ} → Block l.block → Block l.end
        → bits l.block ++ take (end_bits count) (bits l.end) ≡ stolen_text (Enc r.session.rounds r.session.keys) (Dec r.session.rounds r.session.keys) r.session.direction r.session.register (take (128 + end_bits count) (bits (drop (front_bits count / 8) input)))
        → final ≡ put_bits (put_bits after (front_bits count) (take 128 (bits l.block))) (front_bits count + 128) (take (end_bits count) (bits l.end))
        → final ≡ pack (stolen_text E D s.direction s.register x) ++ drop (bytes_for count) out
    message-written {l} hb he ended put =
        let block : List Bool = bits l.block in
        let end : List Bool = take (end_bits count) (bits l.end) in
        let whole : take 128 block ≡ block = take_all 128 block (le_of_eq (bits-block hb)) in
        let end-length : length end ≡ end_bits count = length-take-le (end_bits count) (bits l.end) (omega (arith, bits-block he)) in
        let size : length (front ++ block) ≡ front_bits count + 128 = simp length-append (omega (arith, fed_length, bits-block hb)) in
        let text : front ++ block ++ end ≡ stolen_text E D s.direction s.register x = append_assoc front block end ∙ ended-text ended in
        let all : length (front ++ block ++ end) ≡ count = length-append (front ++ block) end ∙ omega (arith, size, end-length, b.more_than_16) in
        let one = put_next front block out (front_bits count) fed_length fed-out refl in
        put_next (front ++ block) end out (front_bits count + 128) size one (rw whole at put)
        ∙ ap₂ (λ (y : List Bool) (k : ℕ). pack y ++ drop (bytes_for k) out) text all
