use Rattle.std.proofs.Common.{◌≡◌, ℕ, vec_len}
use Rattle.vio_num.specs.declared.hypervisor.Moved.TheVariants.{Quiet}
use Rattle.vcpu_run.specs.ClientRuns.{AreClients, AreClientsQuietTo, AreClientsTo}
use Rattle.vcpu_run.specs.Holding.{IsOpenUpTo, KeepQueues}
use Rattle.vcpu_run.specs.Links.{AreIdleTo, AreLinked, AreOverTo}
use Rattle.vcpu_run.specs.ScriptTold.{AreOutTo, AreTold}
use Rattle.vcpu_run.specs.Machines.{IsMachine}
use Rattle.vcpu_run.specs.PortsRest.{AreTakenTo}
use Rattle.vcpu_run.specs.Rounds.{KeepsParts, PartsStay, parts_at}
use Rattle.block_server.specs.TurnStock.{stock_of}
use Rattle.vcpu_run.specs.Served.{AllServed, ServesOn, books_in}
use Rattle.vcpu_run.proofs.rounds.round.Given as goal

abbrev pub invariant-loop-number : goal.invariant-loop-number
invariant-loop-number g l = record {
  machine : IsMachine l.server.partition (vec_len l.server.units) l.server.copies.items l.pairs l.scripts l.lan.seats;
  served : AllServed (stock_of l.server) l.pairs;
  goes : ServesOn (stock_of l.initial.server) (stock_of l.server) l.initial.pairs l.pairs;
  stays : PartsStay l.initial.pairs l.pairs l.initial.scripts l.scripts l.initial.lan l.lan;
  keeps : KeepsParts (parts_at l.initial.server l.initial.pairs l.initial.scripts l.initial.lan) (parts_at l.server l.pairs l.scripts l.lan);
  out : l.moved ≡ Quiet → AreTold l.initial.pairs l.initial.scripts → AreOutTo l.number l.pairs l.scripts;
  unfreed : KeepQueues l.initial.pairs l.initial.scripts → KeepQueues l.pairs l.scripts;
  opened : l.moved ≡ Quiet → AreLinked l.initial.server.units.items l.initial.pairs → IsOpenUpTo l.number l.pairs l.scripts;
  idle : l.moved ≡ Quiet → AreLinked l.initial.server.units.items l.initial.pairs → AreOverTo l.number l.scripts → AreIdleTo l.number l.server.units.items l.pairs l.scripts;
  clients : (granted : ℕ) → AreClients granted l.initial.server.partition (books_in l.initial.server) l.initial.pairs l.initial.scripts
      → AreClientsTo granted l.server.partition l.number (books_in l.server) l.pairs l.scripts;
  quietly : l.moved ≡ Quiet → AreLinked l.initial.server.units.items l.initial.pairs → (granted : ℕ)
      → AreClients granted l.initial.server.partition (books_in l.initial.server) l.initial.pairs l.initial.scripts
      → AreClientsQuietTo l.server.partition l.number (books_in l.server) l.pairs l.scripts;
  taken : l.moved ≡ Quiet → AreOverTo l.number l.scripts → AreTakenTo l.number l.lan l.scripts;
}
