-- What is left to do on the state stays the same (`RoundLaws`). Assumes nothing.
use Rattle.std.proofs.Common.{◌≡◌, refl, ap, ◌∙◌, ◌-◌, arith}
use Rattle.steps.specs.Steps.{bytewise, inv_mix_columns, add_round_key}
use Rattle.cipher.specs.Cipher.{inv_rounds}
use Rattle.steps.proofs.Owned.{state_bytes}
use Rattle.cipher.proofs.RoundLaws.{rounds_bounds, round-less, invCipher-done}
use Rattle.cipher.proofs.block.inv_cipher_block.Goals as goal

pub add_round_key-s-requires : goal.add_round_key-s-requires
add_round_key-s-requires c = let b = rounds_bounds c.args.rounds c.requires in omega arith

pub loop-round-init : goal.loop-round-init
loop-round-init c = (search state_bytes, refl)

pub add_round_key-requires : goal.add_round_key-requires
add_round_key-requires c = let b = rounds_bounds c.args.rounds c.requires in omega arith

pub loop-round-preserved : goal.loop-round-preserved
loop-round-preserved c =
    let at = c.loop-round in (
      search state_bytes,
      round-less _ (at.round - 1) (omega arith) c.inv_sbox-table.ensures at.invariant.0
          (c.inv_mix_columns-s.ensures
          ∙ ap inv_mix_columns (c.add_round_key.ensures ∙ ap (add_round_key _ _) (c.sub_bytes-subbed.ensures ∙ ap (bytewise _) c.inv_shift_rows.ensures)))
          ∙ at.invariant.1,
    )

pub returns : goal.returns
returns c =
    let a = c.args in
    let w = a.keys.now in
    let at = c.loop-round in
    let done : 0 ≡ at.round - 1 = omega arith in
    invCipher-done w a.rounds a.block c.inv_sbox-table.ensures at.invariant.0
    (ap (λ n. inv_rounds w n at.s) done ∙ at.invariant.1
    ∙ ap (inv_rounds w (a.rounds - 1)) (c.add_round_key-s.ensures ∙ ap (add_round_key w a.rounds) c.load.ensures))
    c.inv_shift_rows-2.ensures c.sub_bytes-subbed-2.ensures c.add_round_key-2.ensures c.store.ensures
