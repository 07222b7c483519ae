-- After so many turns the block is the chain's. Assumes nothing.
use Rattle.std.proofs.Common.{◌≡◌}
use Rattle.chains.specs.Chains.{chain_of}
use Rattle.chains.proofs.conguraha_aes_chain.Given as goal

abbrev pub invariant-loop : goal.invariant-loop
invariant-loop l = l.block ≡ chain_of l.decrypting l.schedule.rounds l.schedule.keys l.counter l.initial.block
