use Rattle.std.proofs.Common.{◌≡◌, ◌≤◌, ◌<◌, None, false}
use Rattle.vscsi_client.specs.declared.TheConstants.{MIN_PAGES}
use Rattle.vcpu_run.specs.Works.{Works}
use Rattle.vcpu_run.proofs.Credits.{TakesOn}
use Rattle.vcpu_run.specs.Takings.{Gives}
use Rattle.vcpu_run.proofs.TakesTold.{TakesSo}
use Rattle.vcpu_run.proofs.TakingTurns.{TakesThem}
use Rattle.vcpu_run.specs.PlainSteps.{own_of}
use Rattle.vcpu_run.proofs.PlainCounting.{TakesSoFar}
use Rattle.vcpu_run.specs.Acts.{acting}
use Rattle.vcpu_run.proofs.ActsTaking.{TakingSo}
use Rattle.vcpu_run.proofs.driver.Driver.take.Given as goal

abbrev pub invariant-loop-entry : goal.invariant-loop-entry
invariant-loop-entry g l = record {
  works : Works false g.C.CrqEnd.is_shared g.O.WindowPort.is_shared None (g.C.CrqEnd.state l.initial.crq.end) (g.C.CrqEnd.state l.crq.end) (g.O.WindowPort.state l.initial.own) (g.O.WindowPort.state l.own) l.initial.self l.self;
  values : (g.O.WindowPort.state l.own).values ≡ (g.O.WindowPort.state l.initial.own).values;
  pages : MIN_PAGES ≤ (g.O.WindowPort.state l.own).place.size;
  takes : TakesOn l.initial.taken l.taken l.initial.self.client l.self.client;
  so : TakesSo l.initial.taken l.taken l.initial.self.client l.self.client;
  queue : (g.C.CrqEnd.state l.crq.end).registered ≡ (g.C.CrqEnd.state l.initial.crq.end).registered;
  less : l.taken < l.count;
  them : TakesThem l.initial.taken l.taken l.initial.self l.self;
  gives : Gives l.initial.self l.self (g.C.CrqEnd.state l.initial.crq.end) (g.C.CrqEnd.state l.crq.end);
  plainly : g.C.CrqEnd.is_shared ≡ false → g.O.WindowPort.is_shared ≡ false → TakesSoFar l.count l.initial.taken l.taken l._entry
      (own_of l.initial.self (g.C.CrqEnd.state l.initial.crq.end) (g.O.WindowPort.state l.initial.own))
      (own_of l.self (g.C.CrqEnd.state l.crq.end) (g.O.WindowPort.state l.own));
  acts : TakingSo l.initial.taken l.taken l._entry (acting l.initial.self g.C.CrqEnd.is_shared (g.C.CrqEnd.state l.initial.crq.end) g.O.WindowPort.is_shared (g.O.WindowPort.state l.initial.own))
      (acting l.self g.C.CrqEnd.is_shared (g.C.CrqEnd.state l.crq.end) g.O.WindowPort.is_shared (g.O.WindowPort.state l.own));
}
