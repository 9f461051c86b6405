-- What is left to add is what the draws that are left say.
use Rattle.std.proofs.Common.{◌≡◌, ◌++◌, ◌-◌}
use Rattle.paprvio.specs.Generated.{after, transfers}
use Rattle.paprvio.proofs.generator.put_transfers.Given as goal

abbrev pub invariant-loop-transfer : goal.invariant-loop-transfer
invariant-loop-transfer l = record {
  text : l.text.items ++ transfers (64 - l._transfer) l.number l.draws.last ≡ l.fn.text.items ++ transfers 64 l.number l.fn.draws.last;
  draws : after (64 - l._transfer) l.draws.last ≡ after 64 l.fn.draws.last;
}
