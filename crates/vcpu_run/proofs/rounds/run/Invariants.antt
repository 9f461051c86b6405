use Rattle.std.proofs.Common.{ℕ, vec_len}
use Rattle.vcpu_run.specs.ClientRuns.{AreClients}
use Rattle.vcpu_run.specs.Holding.{KeepQueues}
use Rattle.vcpu_run.specs.Links.{AreLinked}
use Rattle.vcpu_run.specs.Machines.{IsMachine}
use Rattle.vcpu_run.specs.Rounds.{KeepsParts, PartsStay, parts_at}
use Rattle.block_server.specs.TurnStock.{stock_of}
use Rattle.vcpu_run.specs.Served.{AllServed, ServesOn, books_in}
use Rattle.vcpu_run.proofs.rounds.run.Given as goal

abbrev pub invariant-loop-round : goal.invariant-loop-round
invariant-loop-round g l = record {
  machine : IsMachine l.server.partition (vec_len l.server.units) l.server.copies.items l.pairs l.scripts l.lan.seats;
  served : AllServed (stock_of l.server) l.pairs;
  goes : ServesOn (stock_of l.initial.server) (stock_of l.server) l.initial.pairs l.pairs;
  stays : PartsStay l.initial.pairs l.pairs l.initial.scripts l.scripts l.initial.lan l.lan;
  keeps : KeepsParts (parts_at l.initial.server l.initial.pairs l.initial.scripts l.initial.lan) (parts_at l.server l.pairs l.scripts l.lan);
  unfreed : AreLinked l.initial.server.units.items l.initial.pairs → KeepQueues l.initial.pairs l.initial.scripts → KeepQueues l.pairs l.scripts;
  clients : AreLinked l.initial.server.units.items l.initial.pairs → (granted : ℕ)
      → AreClients granted l.initial.server.partition (books_in l.initial.server) l.initial.pairs l.initial.scripts
      → AreClients granted l.server.partition (books_in l.server) l.pairs l.scripts;
}
