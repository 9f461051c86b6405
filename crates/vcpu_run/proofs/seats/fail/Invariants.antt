use Rattle.std.proofs.Common.{◌≡◌}
use Rattle.vcpu_run.specs.Agreed.{AllSame, SameElse}
use Rattle.vcpu_run.specs.Pairs.{AreDriven}
use Rattle.vcpu_run.specs.Ports.{HavePorts}
use Rattle.vcpu_run.specs.PortSteps.{AllSilent, IsApart}
use Rattle.vcpu_run.specs.PlainScripts.{AllFailPlainly}
use Rattle.vcpu_run.specs.TakenScripts.{AllGive}
use Rattle.vcpu_run.specs.EventsMade.{AllShut}
use Rattle.vcpu_run.specs.FailedPorts.{AreClosedTo}
use Rattle.vcpu_run.specs.FailedShut.{AreShutTo}
use Rattle.vcpu_run.specs.ClientStrokes.{NoneLay}
use Rattle.vcpu_run.specs.ValuesPut.{AllSameValues}
use Rattle.vcpu_run.specs.Works.{HaveClients}
use Rattle.vcpu_run.specs.ActsAt.{AllLead, FailsOnce}
use Rattle.vcpu_run.proofs.seats.fail.Given as goal

abbrev pub invariant-loop-k : goal.invariant-loop-k
invariant-loop-k l = record {
  driven : AreDriven l.initial.pairs l.pairs;
  gives : AllGive l.initial.pairs l.pairs;
  fails : AllFailPlainly l.initial.pairs l.pairs;
  values : AllSameValues l.initial.pairs l.pairs;
  lays : NoneLay l.initial.pairs l.pairs;
  shut : AllShut l.initial.pairs l.pairs;
  down : AreShutTo l.k l.seats l.pairs;
  closes : AreClosedTo l.partition l.k l.seats l.lan;
  others : SameElse l.seats l.initial.pairs l.pairs;
  credit : AllSame l.initial.pairs l.pairs;
  clients : HaveClients l.seats l.pairs;
  ports : HavePorts l.partition l.seats l.lan.seats;
  lan : l.lan.seats ≡ l.initial.lan.seats;
  idle : AllSilent l.initial.lan l.lan;
  apart : IsApart l.partition l.initial.lan l.lan;
  acts : AllLead FailsOnce l.initial.pairs l.pairs;
}
