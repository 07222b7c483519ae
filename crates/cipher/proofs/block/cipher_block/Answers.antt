-- The state is that of `rounds` before each round (`RoundLaws`). Assumes nothing.
use Rattle.std.proofs.Common.{◌≡◌, ap, ◌∙◌, ◌-◌, arith}
use Rattle.steps.specs.State.{from_block}
use Rattle.steps.specs.Steps.{shift_rows, mix_columns, add_round_key}
use Rattle.cipher.specs.Cipher.{rounds}
use Rattle.steps.proofs.Owned.{state_bytes}
use Rattle.cipher.proofs.RoundLaws.{rounds_bounds, round_more, cipher-done}
use Rattle.cipher.proofs.block.cipher_block.Goals as goal

pub loop-round-init : goal.loop-round-init
unfolding rounds
loop-round-init c = (search state_bytes, c.add_round_key-s.ensures ∙ ap (add_round_key _ _) c.load.ensures)

pub add_round_key-s-requires-in-loop-round : goal.add_round_key-s-requires-in-loop-round
add_round_key-s-requires-in-loop-round c = let b = rounds_bounds c.args.rounds c.requires in omega arith

pub loop-round-preserved : goal.loop-round-preserved
loop-round-preserved c =
    let at = c.loop-round in (
      search state_bytes,
      round_more _ at.round (omega arith) c.sbox-table.ensures (from_block c.args.block) at.invariant.0 at.invariant.1
          (c.add_round_key-s-in-loop-round.ensures
          ∙ ap (add_round_key _ _) (c.mix_columns-mixed.ensures ∙ ap mix_columns (c.shift_rows.ensures ∙ ap shift_rows c.sub_bytes.ensures))),
    )

pub add_round_key-requires : goal.add_round_key-requires
add_round_key-requires c = let b = rounds_bounds c.args.rounds c.requires in omega arith

pub returns : goal.returns
returns c =
    let a = c.args in
    let at = c.loop-round in
    let b = rounds_bounds a.rounds c.requires in
    let done : at.round ≡ a.rounds = omega arith in
    cipher-done a.keys.now a.rounds a.block c.sbox-table.ensures at.invariant.0
    (at.invariant.1 ∙ ap (λ n. rounds a.keys.now (n - 1) (from_block a.block)) done)
    c.sub_bytes-2.ensures c.shift_rows-shifted.ensures c.add_round_key.ensures c.store.ensures
