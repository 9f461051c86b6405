use Rattle.std.specs.Prelude.{⊤}
use Rattle.std.proofs.Common.{◌≡◌, ◌<◌, ℕ, Some, IfSome, slice_get}
use Rattle.vcpu_run.specs.declared.unit_seat.Seat.TheVariants as sits
use Rattle.vio_num.specs.declared.hypervisor.Moved.TheVariants.{Quiet}
use Rattle.vcpu_run.specs.Freed.{FreesNoneIf}
use Rattle.vcpu_run.specs.Links.{EventWaits, LinksRest}
use Rattle.vcpu_run.specs.Agreed.{SameDrivers, SameElse}
use Rattle.vcpu_run.specs.Moves.{EventsMove}
use Rattle.vcpu_run.specs.Pairs.{AreDriven}
use Rattle.vcpu_run.specs.PlainScripts.{AllTalkOn}
use Rattle.vcpu_run.specs.ScriptTold.{SameClients}
use Rattle.vcpu_run.specs.Works.{HaveClients}
use Rattle.vcpu_run.specs.ActsAt.{AllLead, PushesEvent}
use Rattle.vcpu_run.proofs.seats.push_events.Given as goal

abbrev pub invariant-loop-k : goal.invariant-loop-k
invariant-loop-k l = record {
  driven : AreDriven l.initial.pairs l.pairs;
  others : SameElse l.seats l.initial.pairs l.pairs;
  drivers : SameDrivers l.initial.pairs l.pairs;
  talks : AllTalkOn l.initial.pairs l.pairs;
  same : SameClients l.initial.pairs l.pairs;
  clients : HaveClients l.seats l.pairs;
  stays : FreesNoneIf (λ _. ⊤) l.initial.pairs l.pairs;
  rest : l.moved ≡ Quiet → LinksRest l.initial.pairs l.pairs;
  wait : l.moved ≡ Quiet → (u k : ℕ) → u < l.k → slice_get l.seats u ≡ Some (sits.Client k) → IfSome (slice_get l.pairs k) EventWaits;
  acts : AllLead PushesEvent l.initial.pairs l.pairs;
  moves : EventsMove l.moved l.initial.pairs l.pairs;
}
