-- What is left to add is the clients that are left.
use Rattle.std.proofs.Common.{◌≡◌, ◌++◌, ◌-◌}
use Rattle.paprvio.specs.Generated.{clients, generated}
use Rattle.paprvio.proofs.generator.boot_text_of.Given as goal

abbrev pub invariant-loop-number : goal.invariant-loop-number
invariant-loop-number l = record {
  text : l.text.items ++ clients (8 - l.number) l.number l.draws.last ≡ generated l.fn.seed;
}
