use Rattle.std.proofs.Common.{◌≡◌, ◌≤◌, None, false}
use Rattle.vio_num.specs.declared.hypervisor.Moved.TheVariants.{Quiet}
use Rattle.vscsi_client.specs.declared.TheConstants.{MIN_PAGES}
use Rattle.vcpu_run.specs.PlainSteps.{own_of}
use Rattle.vcpu_run.specs.Takings.{Gives}
use Rattle.vcpu_run.specs.Works.{Works}
use Rattle.vcpu_run.proofs.Handling.{HandlingSo}
use Rattle.vcpu_run.proofs.PlainRest.{RestsSoFar}
use Rattle.vcpu_run.specs.Acts.{TakesRest, acting}
use Rattle.vcpu_run.proofs.driver.Driver.take_rest.Given as goal

abbrev pub invariant-loop-taken : goal.invariant-loop-taken
invariant-loop-taken g l = record {
  works : Works false g.C.CrqEnd.is_shared g.O.WindowPort.is_shared None (g.C.CrqEnd.state l.initial.crq.end) (g.C.CrqEnd.state l.crq.end) (g.O.WindowPort.state l.initial.own) (g.O.WindowPort.state l.own) l.initial.self l.self;
  values : (g.O.WindowPort.state l.own).values ≡ (g.O.WindowPort.state l.initial.own).values;
  queue : (g.C.CrqEnd.state l.crq.end).registered ≡ (g.C.CrqEnd.state l.initial.crq.end).registered;
  pages : MIN_PAGES ≤ (g.O.WindowPort.state l.own).place.size;
  gives : Gives l.initial.self l.self (g.C.CrqEnd.state l.initial.crq.end) (g.C.CrqEnd.state l.crq.end);
  plainly : g.C.CrqEnd.is_shared ≡ false → g.O.WindowPort.is_shared ≡ false → RestsSoFar (own_of l.initial.self (g.C.CrqEnd.state l.initial.crq.end) (g.O.WindowPort.state l.initial.own))
      (own_of l.self (g.C.CrqEnd.state l.crq.end) (g.O.WindowPort.state l.own));
  fresh : l.moved ≡ Quiet → g.C.CrqEnd.state l.crq.end ≡ g.C.CrqEnd.state l.initial.crq.end;
  acts : TakesRest (acting l.initial.self g.C.CrqEnd.is_shared (g.C.CrqEnd.state l.initial.crq.end) g.O.WindowPort.is_shared (g.O.WindowPort.state l.initial.own))
      (acting l.self g.C.CrqEnd.is_shared (g.C.CrqEnd.state l.crq.end) g.O.WindowPort.is_shared (g.O.WindowPort.state l.own));
  handles : HandlingSo l.moved l._taken (acting l.initial.self g.C.CrqEnd.is_shared (g.C.CrqEnd.state l.initial.crq.end) g.O.WindowPort.is_shared (g.O.WindowPort.state l.initial.own))
      (acting l.self g.C.CrqEnd.is_shared (g.C.CrqEnd.state l.crq.end) g.O.WindowPort.is_shared (g.O.WindowPort.state l.own));
}
