-- The words so far, then 0 (`KeyLaws`). Assumes nothing.
use Rattle.std.proofs.Common.{◌≡◌, sym, ap, ◌∙◌, ◌+◌, ◌-◌, ◌*◌, ◌/◌, length, arith}
use Rattle.expansion.specs.KeyExpansion.{schedule}
use Rattle.expansion.proofs.Filled.{filled}
use Rattle.expansion.proofs.KeyLaws.{key_words, schedule_none, schedule-more, round_keys-filled}
use Rattle.expansion.proofs.round_keys.Goals as goal

pub with_key-w-requires : goal.with_key-w-requires
with_key-w-requires c = let k = key_words c.args.key.now c.requires in omega arith

pub loop-i-init : goal.loop-i-init
unfolding filled
loop-i-init c = c.with_key-w.ensures ∙ ap filled (sym (schedule_none _ c.args.key.now))

pub next_word-word-requires : goal.next_word-word-requires
next_word-word-requires c = let k = key_words c.args.key.now c.requires in omega arith

pub put_word-requires : goal.put_word-requires
put_word-requires c = let k = key_words c.args.key.now c.requires in omega arith

pub loop-i-preserved : goal.loop-i-preserved
loop-i-preserved c =
    let at = c.loop-i in
    let key = c.args.key.now in
    let k = key_words key c.requires in
    schedule-more _ key k.whole (omega arith) at.i at.auto.i at.invariant c.next_word-word.ensures c.put_word.ensures

pub returns : goal.returns
returns c =
    let key = c.args.key.now in
    let k = key_words key c.requires in
    let done : c.loop-i.i ≡ 4 * (length key / 4 + 7) = omega arith in
    c.loop-i.invariant ∙ ap (λ i. filled (schedule (length key / 4) key (i - length key / 4))) done ∙ sym (round_keys-filled key)
