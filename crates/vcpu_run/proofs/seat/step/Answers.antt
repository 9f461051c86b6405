use Rattle.std.proofs.Common.{Ok, arith}
use Rattle.unit_region.specs.declared.step.Step.{Step}
use Rattle.vcpu_run.specs.Agreed.{OnDrivers}
use Rattle.vcpu_run.specs.Credited.{StepsAgreed, taken_in}
use Rattle.vcpu_run.specs.Takings.{StepsTaken}
use Rattle.vcpu_run.proofs.PlainSeated.{pair_plainly, since_keeps}
use Rattle.vcpu_run.specs.ActsAt.{PairActs}
use Rattle.vcpu_run.proofs.ActsSeats.{pair_moves}
use Rattle.vcpu_run.proofs.seat.step.Goals as goal

pub returns-clause-credit : goal.returns-clause-credit
returns-clause-credit c =
    since_keeps
    (λ (step : Step). OnDrivers c.args.pair.now.driver c.drive.new.pair.driver
    (λ a b. StepsAgreed c.args.line.now.verb (taken_in c.args.progress.now) (taken_in c.drive.new.progress) a.client b.client (Ok step)))
    c.count-before.result.put c.count.result.put c.count-before.result.taken c.count.result.taken c.in_ok-step.step c.moved_since.result (λ same. same) c.moved_since.ensures c.in_ok-step.ensures.credit

pub returns-clause-takes : goal.returns-clause-takes
returns-clause-takes c =
    since_keeps
    (λ (step : Step). OnDrivers c.args.pair.now.driver c.drive.new.pair.driver
    (λ a b. StepsTaken c.args.line.now.verb (taken_in c.args.progress.now) (taken_in c.drive.new.progress) a b (Ok step)))
    c.count-before.result.put c.count.result.put c.count-before.result.taken c.count.result.taken c.in_ok-step.step c.moved_since.result (λ same. same) c.moved_since.ensures c.in_ok-step.ensures.takes

pub returns-clause-plainly : goal.returns-clause-plainly
returns-clause-plainly c =
    pair_plainly c.args.line.now.verb c.args.progress.now c.drive.new.progress c.count-before.result.put c.count.result.put c.count-before.result.taken c.count.result.taken c.args.pair.now c.drive.new.pair c.in_ok-step.step
    c.moved_since.result c.in_ok-step.ensures.drives c.count-before.ensures.put c.count.ensures.put c.took_no_more.ensures c.moved_since.ensures c.in_ok-step.ensures.puts
    c.in_ok-step.ensures.plainly

pub returns-clause-acts : goal.returns-clause-acts
returns-clause-acts c =
    since_keeps (λ (step : Step). PairActs c.args.line.now c.args.progress.now c.drive.new.progress c.args.pair.now c.drive.new.pair step)
    c.count-before.result.put c.count.result.put c.count-before.result.taken c.count.result.taken c.in_ok-step.step c.moved_since.result
    (pair_moves c.args.line.now c.args.progress.now c.drive.new.progress c.args.pair.now c.drive.new.pair) c.moved_since.ensures c.in_ok-step.ensures.acts

pub returns-clause-still : goal.returns-clause-still
returns-clause-still c = λ quiet.
    let more = c.moved_since.ensures.quiet quiet in
    record {
      put = omega (arith, more.0, c.count-before.ensures.put, c.count.ensures.put);
      taken = omega (arith, more.1, c.count-before.ensures.taken, c.count.ensures.taken);
    }

pub returns-clause-lawful : goal.returns-clause-lawful
returns-clause-lawful c = c.count-before.ensures.lawful
