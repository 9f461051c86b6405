use Rattle.std.specs.Prelude.{⊤}
use Rattle.std.proofs.Common.{◌≡◌, ◌<◌, ℕ, Some, IsSomeAnd, slice_get}
use Rattle.vio_num.specs.declared.hypervisor.Moved.TheVariants.{Quiet}
use Rattle.lan_script.specs.Resting.{SamePorts}
use Rattle.vcpu_run.specs.PortsRest.{AreTaken}
use Rattle.vcpu_run.specs.declared.unit_seat.Seat.TheVariants as sits
use Rattle.vcpu_run.specs.Freed.{FreesNoneIf}
use Rattle.vcpu_run.specs.Links.{ClientWaits, LinksRest, links_of}
use Rattle.vcpu_run.specs.Agreed.{SameElse}
use Rattle.vcpu_run.specs.Moves.{SeatsHandle}
use Rattle.vcpu_run.specs.Pairs.{AreDriven}
use Rattle.vcpu_run.specs.Ports.{HavePorts}
use Rattle.vcpu_run.specs.PortSteps.{AllTake, IsApart}
use Rattle.vcpu_run.specs.PlainScripts.{AllRestPlainly}
use Rattle.vcpu_run.specs.TakenScripts.{AllGive}
use Rattle.vcpu_run.specs.EventsMade.{AllCalm}
use Rattle.vcpu_run.specs.FailedShut.{AllStayShut}
use Rattle.vcpu_run.specs.ClientStrokes.{NoneLay}
use Rattle.vcpu_run.specs.ValuesPut.{AllSameValues}
use Rattle.vcpu_run.specs.Works.{HaveClients}
use Rattle.vcpu_run.specs.Acts.{TakesRest}
use Rattle.vcpu_run.specs.ActsAt.{AllLead}
use Rattle.vcpu_run.proofs.seats.take_rest.Given as goal

abbrev pub invariant-loop-k : goal.invariant-loop-k
invariant-loop-k l = record {
  driven : AreDriven l.initial.pairs l.pairs;
  gives : AllGive l.initial.pairs l.pairs;
  rests : AllRestPlainly l.initial.pairs l.pairs;
  values : AllSameValues l.initial.pairs l.pairs;
  lays : NoneLay l.initial.pairs l.pairs;
  calm : AllCalm l.initial.pairs l.pairs;
  stay : AllStayShut l.initial.pairs l.pairs;
  others : SameElse l.seats l.initial.pairs l.pairs;
  clients : HaveClients l.seats l.pairs;
  ports : HavePorts l.partition l.seats l.lan.seats;
  lan : l.lan.seats ≡ l.initial.lan.seats;
  takes : AllTake l.partition l.initial.lan l.lan;
  apart : IsApart l.partition l.initial.lan l.lan;
  stays : FreesNoneIf (λ _. ⊤) l.initial.pairs l.pairs;
  still : l.moved ≡ Quiet → SamePorts l.initial.lan l.lan;
  taken : l.moved ≡ Quiet → AreTaken l.partition l.k l.seats l.lan;
  rest : l.moved ≡ Quiet → LinksRest l.initial.pairs l.pairs;
  wait : l.moved ≡ Quiet → (u k : ℕ) → u < l.k → slice_get l.seats u ≡ Some (sits.Client k) → IsSomeAnd (slice_get (links_of l.pairs) k) ClientWaits;
  acts : AllLead TakesRest l.initial.pairs l.pairs;
  moves : SeatsHandle l.moved l.partition l.initial.pairs l.pairs l.initial.lan l.lan;
}
