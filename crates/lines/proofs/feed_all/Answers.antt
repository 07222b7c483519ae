-- `lines::feed_all` meets its contract: the message is the digits' bytes, and the feed's number decides what is printed
-- (`FeedLines`). Assumes nothing.
use Prim.Native.Nat.{ℕ}
use native.Mathlib.Omega.{arith}
use lib.Seq.{length-take-le, take_at}
use Rattle.bits.proofs.Owned.{arrays}
use Rattle.modes.specs.Sessions.{Arrays}
use Rattle.lines.proofs.FeedLines.{whole_feed}
use borrow.Author.Rules.{rules, length_unmapped}
use Rattle.lines.proofs.feed_all.Goals as goal

pub refusal-requires : goal.refusal-requires
refusal-requires c =
    let keys = length_unmapped ℕ c.args.session.keys 240 (search rules) in
    let held : Arrays c.args.session = record { register = search arrays; keys = search arrays; keys_size = keys } in
    let told = whole_feed c.args.digits.now held (omega arith) c.decode.ensures (length-take-le _ _ (search rules)) c.feed-fed.ensures in
    (omega arith, omega (arith, told.prints))

pub returns-then-number-ne0 : goal.returns-then-number-ne0
returns-then-number-ne0 c =
    let keys = length_unmapped ℕ c.args.session.keys 240 (search rules) in
    let held : Arrays c.args.session = record { register = search arrays; keys = search arrays; keys_size = keys } in
    let told = whole_feed c.args.digits.now held (omega arith) c.decode.ensures (length-take-le _ _ (search rules)) c.feed-fed.ensures in
    rw (← told.refused (λ z. omega arith)) c.refusal.ensures

pub returns : goal.returns
returns c =
    let keys = length_unmapped ℕ c.args.session.keys 240 (search rules) in
    let held : Arrays c.args.session = record { register = search arrays; keys = search arrays; keys_size = keys } in
    let told = whole_feed c.args.digits.now held (omega arith) c.decode.ensures (length-take-le _ _ (search rules)) c.feed-fed.ensures in
    rw (take_at _ _ _ (told.size (omega arith)), told.accepted (omega arith)) at c.success.ensures
