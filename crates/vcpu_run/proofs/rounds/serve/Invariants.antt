use Rattle.std.proofs.Common.{◌≡◌, ◌<◌, ℕ, Some, slice_get, vec_len}
use Rattle.vio_num.specs.declared.hypervisor.Moved.TheVariants.{Quiet}
use Rattle.vcpu_run.specs.Links.{AreLinked, LinkState, ServerWaits, links_of}
use Rattle.vcpu_run.specs.Machines.{IsServing}
use Rattle.block_server.specs.TurnStock.{stock_of}
use Rattle.vcpu_run.specs.Served.{AllServed, ServesOn, SparesClients, books_in}
use Rattle.vcpu_run.proofs.OwnRounds.{ServedOwnTo}
use Rattle.vcpu_run.proofs.PlainRounds.{IdledTo, ServedTo}
use Rattle.vcpu_run.proofs.rounds.serve.Given as goal

abbrev pub invariant-loop-unit : goal.invariant-loop-unit
invariant-loop-unit g l = record {
  serving : IsServing l.server.partition (vec_len l.server.units) l.server.copies.items l.pairs;
  served : AllServed (stock_of l.server) l.pairs;
  goes : ServesOn (stock_of l.initial.server) (stock_of l.server) l.initial.pairs l.pairs;
  spares : SparesClients l.initial.server.copies.items l.server.copies.items l.initial.pairs l.pairs;
  linked : AreLinked l.initial.server.units.items l.initial.pairs → AreLinked l.server.units.items l.pairs;
  wait : l.moved ≡ Quiet → AreLinked l.initial.server.units.items l.initial.pairs
      → (k : ℕ) (link : LinkState) → k < l.unit → slice_get (links_of l.pairs) k ≡ Some link → ServerWaits (slice_get l.server.units.items k) link;
  plainly : ServedTo l.unit l.initial.server.partition (books_in l.initial.server) (books_in l.server) l.initial.pairs l.pairs;
  own : ServedOwnTo l.unit l.initial.server.partition (books_in l.initial.server) (books_in l.server) l.initial.pairs l.pairs;
  idled : l.moved ≡ Quiet → IdledTo l.unit l.initial.server.partition (books_in l.initial.server) (books_in l.server) l.initial.pairs;
}
