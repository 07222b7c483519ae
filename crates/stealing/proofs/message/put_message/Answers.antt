-- `stealing::message::put_message` meets its contract: the feed and the last two blocks, put together by `MessageLaws`.
-- Assumes nothing.
use Prim.Native.Nat.{ℕ, ◌+◌}
use mathlib.Core.Path.{ap, ◌∙◌}
use mathlib.Core.List.{List}
use native.Mathlib.Omega.{arith}
use lib.ListN.{length-drop, take}
use Rattle.bits.specs.Texts.{bits, bytes_for, put_bits}
use Rattle.bits.specs.Blocks.{Block}
use Rattle.bits.proofs.Owned.{arrays}
use Rattle.modes.specs.Sessions.{Arrays, fed_session}
use Rattle.modes.proofs.WorkLaws.{part_all}
use Rattle.stealing.proofs.MessageLaws.{fed-session, message-written}
use Rattle.stealing.proofs.NumberLaws.{front_bits, end_bits}
use borrow.Author.Rules.{rules, length_unmapped}
use Rattle.stealing.proofs.message.put_message.Goals as goal

pub finish-last-requires : goal.finish-last-requires
unfolding fed_session
finish-last-requires c =
    let b = c.requires in
    record {
      some = omega (arith, b.more_than_16);
      small = omega arith;
      whole_bytes = omega (arith, b.whole_bytes);
      there = rw (part_all, length-drop) (omega (arith, b.there, b.more_than_16));
      rounds_good = rw (fed-session b c.feed-fed.ensures) b.rounds_good;
    }

pub put_bits-requires : goal.put_bits-requires
unfolding bytes_for
put_bits-requires c = (omega arith, omega (arith, c.requires.small, c.requires.room, c.requires.more_than_16, c.feed-fed.auto.out))

pub put_bits-requires-2 : goal.put_bits-requires-2
unfolding bytes_for
put_bits-requires-2 c = (omega arith, omega (arith, c.requires.small, c.requires.room, c.requires.more_than_16, c.feed-fed.auto.out))

pub returns : goal.returns
returns c =
    let s = c.args.session in
    let last = c.finish-last.result in
    let end = take (end_bits c.args.bits) (bits last.end) in
    let register : Block s.register = record { size = length_unmapped ℕ s.register 16 (search rules); bytes = search arrays } in
    let arrays_are : Arrays s = record { register = register; keys = search arrays; keys_size = length_unmapped ℕ s.keys 240 (search rules) } in
    let block : Block last.block = search arrays in
    let ending : Block last.end = search arrays in
    message-written c.requires arrays_are c.feed-fed.ensures block ending (rw part_all at c.finish-last.ensures)
    (c.put_bits-2.ensures ∙ ap (λ (l : List ℕ). put_bits l (front_bits c.args.bits + 128) end) c.put_bits.ensures)
