use Rattle.std.proofs.Common.{rules, ℕ, ◌≡◌, ◌∙◌, ◌≤◌, ◌<◌, ◌+◌, Err, false, refl, sym, subst, arith}
use Rattle.vio_num.specs.declared.hypervisor.Moved.TheVariants.{Moved as DidMove}
use Rattle.boot_text.specs.declared.verb.Verb.TheVariants as verbs
use Rattle.vcpu_run.specs.declared.taking.Took.{Took}
use Rattle.vcpu_run.specs.Sendings.{TookOf}
use Rattle.vcpu_run.specs.declared.script.Progress.TheVariants as stages
use Rattle.vcpu_run.specs.Telling.{TookTold}
use Rattle.vcpu_run.proofs.TakesTold.{TakesSo, lost_takes_told, takes_none, takes_one, takes_same, took_told, waits_takes_told}
use Rattle.vcpu_run.proofs.Credits.{TakesOn, takes_answer, takes_on, takes_other, took_agreed, waits_agreed}
use Rattle.tce_window.specs.PortState.{PortPlace}
use Rattle.vscsi_client.specs.declared.TheConstants.{MIN_PAGES}
use Rattle.vcpu_run.proofs.Working.{works_on, works_same}
use Rattle.vcpu_run.specs.Takings.{TookTaken}
use Rattle.vcpu_run.proofs.Giving.{gives_on, gives_same}
use Rattle.vcpu_run.proofs.TakingTurns.{TakesThem, lost_taken, them_none, them_one, took_taken, waits_taken}
use Rattle.vcpu_run.proofs.driver.Driver.take.Goals.{in-Answer+else-taken-count-2, in-Other}
use Rattle.vcpu_run.specs.EventsHeard.{Hears, lost_by}
use Rattle.vcpu_run.proofs.EventsHeard.{hears_same}
use Rattle.vcpu_run.proofs.Giving.{loss_hears}
use Rattle.unit_region.specs.declared.step.Step.TheVariants as steps
use Rattle.vio_trace.specs.declared.outcome.Outcome.TheVariants as outcomes
use Rattle.vcpu_run.specs.PlainSteps.{TakesPlainly, own_of}
use Rattle.vcpu_run.specs.declared.taking.Took.TheVariants as tooks
use Rattle.vcpu_run.proofs.PlainAside.{steps_err}
use Rattle.vcpu_run.proofs.PlainCounting.{TakesSoFar, another, ends_full, ends_never, ends_none, ends_sooner, none_yet, one_more, waits_none}
use Rattle.vcpu_run.specs.Acts.{TakesOnce, acting}
use Rattle.vcpu_run.proofs.ActsTaking.{TakingSo, line_ended, line_full, line_lost, line_slots, line_used, line_waits, line_wanted, taking_answer, taking_none, taking_other}
use Rattle.vcpu_run.proofs.driver.Driver.take.Goals as goal

pub returns-in_err-take_one-clause-works : goal.returns-in_err-take_one-clause-works
returns-in_err-take_one-clause-works g c = works_on _ _ _ _ _ _ _ _ _ _ _ _ c.loop-entry.invariant.works c.take_one.ensures.works

pub returns-then-taken-count-2-clause-works : goal.returns-then-taken-count-2-clause-works
returns-then-taken-count-2-clause-works g c = works_on _ _ _ _ _ _ _ _ _ _ _ _ c.loop-entry.invariant.works c.take_one.ensures.works

pub returns-in-Lost-clause-works : goal.returns-in-Lost-clause-works
returns-in-Lost-clause-works g c = works_on _ _ _ _ _ _ _ _ _ _ _ _ c.loop-entry.invariant.works c.take_one.ensures.works

pub returns-in-InUse-clause-works : goal.returns-in-InUse-clause-works
returns-in-InUse-clause-works g c = works_on _ _ _ _ _ _ _ _ _ _ _ _ c.loop-entry.invariant.works c.take_one.ensures.works

pub returns-then-is_empty-clause-works : goal.returns-then-is_empty-clause-works
returns-then-is_empty-clause-works g c = works_on _ _ _ _ _ _ _ _ _ _ _ _ c.loop-entry.invariant.works c.take_one.ensures.works

pub returns-in-Nothing-clause-works : goal.returns-in-Nothing-clause-works
returns-in-Nothing-clause-works g c = works_on _ _ _ _ _ _ _ _ _ _ _ _ c.loop-entry.invariant.works c.take_one.ensures.works

pub returns-then-taken-count-2-clause-credit : goal.returns-then-taken-count-2-clause-credit
returns-then-taken-count-2-clause-credit g c =
    let more : c.saturating_add.result ≡ c.loop-entry.taken + 1 = omega (arith, c.saturating_add.ensures, c.loop-entry.invariant.less, c.ranges.count.fits) in
    took_agreed (verbs.Take c.args.count) c.args.taken.now c.saturating_add.result c.args.self.now.client c.take_one.new.self.client
    (takes_on c.args.taken.now c.loop-entry.taken c.saturating_add.result c.args.self.now.client c.loop-entry.self.client c.take_one.new.self.client c.loop-entry.invariant.takes
    (takes_answer c.loop-entry.taken c.saturating_add.result c.loop-entry.self.client c.take_one.new.self.client more (subst (λ (t : Took). TookOf t c.loop-entry.self.client c.take_one.new.self.client) c.in-Answer.is c.in_ok-take_one.ensures.took)))

pub returns-in-InUse-clause-credit : goal.returns-in-InUse-clause-credit
returns-in-InUse-clause-credit g c =
    waits_agreed (verbs.Take c.args.count) c.args.taken.now c.loop-entry.taken c.args.self.now.client c.take_one.new.self.client c.moved.result refl
    (takes_on c.args.taken.now c.loop-entry.taken c.loop-entry.taken c.args.self.now.client c.loop-entry.self.client c.take_one.new.self.client c.loop-entry.invariant.takes (takes_other c.loop-entry.taken c.loop-entry.self.client c.take_one.new.self.client (subst (λ (t : Took). TookOf t c.loop-entry.self.client c.take_one.new.self.client) c.in-InUse.is c.in_ok-take_one.ensures.took)))

pub returns-then-is_empty-clause-credit : goal.returns-then-is_empty-clause-credit
returns-then-is_empty-clause-credit g c =
    took_agreed (verbs.Take c.args.count) c.args.taken.now c.loop-entry.taken c.args.self.now.client c.take_one.new.self.client
    (takes_on c.args.taken.now c.loop-entry.taken c.loop-entry.taken c.args.self.now.client c.loop-entry.self.client c.take_one.new.self.client c.loop-entry.invariant.takes (takes_other c.loop-entry.taken c.loop-entry.self.client c.take_one.new.self.client (subst (λ (t : Took). TookOf t c.loop-entry.self.client c.take_one.new.self.client) c.in-Nothing.is c.in_ok-take_one.ensures.took)))

pub returns-in-Nothing-clause-credit : goal.returns-in-Nothing-clause-credit
returns-in-Nothing-clause-credit g c =
    waits_agreed (verbs.Take c.args.count) c.args.taken.now c.loop-entry.taken c.args.self.now.client c.take_one.new.self.client c.moved-in-Nothing.result refl
    (takes_on c.args.taken.now c.loop-entry.taken c.loop-entry.taken c.args.self.now.client c.loop-entry.self.client c.take_one.new.self.client c.loop-entry.invariant.takes (takes_other c.loop-entry.taken c.loop-entry.self.client c.take_one.new.self.client (subst (λ (t : Took). TookOf t c.loop-entry.self.client c.take_one.new.self.client) c.in-Nothing.is c.in_ok-take_one.ensures.took)))

pub returns-clause-credit : goal.returns-clause-credit
returns-clause-credit g c =
    waits_agreed (verbs.Take c.args.count) c.args.taken.now c.loop-entry.taken c.args.self.now.client c.loop-entry.self.client DidMove refl c.loop-entry.invariant.takes

pub loop-entry-preserved : goal.loop-entry-preserved
loop-entry-preserved g c =
    let next : TakesOn c.args.taken.now c.match-branch-2.taken c.args.self.now.client c.take_one.new.self.client × (c.match-branch-2.taken < c.args.count) × TakesSo c.args.taken.now c.match-branch-2.taken c.args.self.now.client c.take_one.new.self.client
    × TakesThem c.args.taken.now c.match-branch-2.taken c.args.self.now c.take_one.new.self
    × (g.C.CrqEnd.is_shared ≡ false → g.O.WindowPort.is_shared ≡ false → TakesSoFar c.args.count c.args.taken.now c.match-branch-2.taken (c.loop-entry._entry + 1)
    (own_of c.args.self.now (g.C.CrqEnd.state c.args.crq.now.end) (g.O.WindowPort.state c.args.own.now))
    (own_of c.take_one.new.self (g.C.CrqEnd.state c.take_one.new.crq.end) (g.O.WindowPort.state c.take_one.new.own)))
    × TakingSo c.args.taken.now c.match-branch-2.taken (c.loop-entry._entry + 1) (acting c.args.self.now g.C.CrqEnd.is_shared (g.C.CrqEnd.state c.args.crq.now.end) g.O.WindowPort.is_shared (g.O.WindowPort.state c.args.own.now))
    (acting c.take_one.new.self g.C.CrqEnd.is_shared (g.C.CrqEnd.state c.take_one.new.crq.end) g.O.WindowPort.is_shared (g.O.WindowPort.state c.take_one.new.own)) =
    elim c.match-branch-2.branch [
      | in-Answer+else-taken-count-2 w ↦ (
        subst (λ n. TakesOn c.args.taken.now n c.args.self.now.client c.take_one.new.self.client) (sym w.taken-is)
            (takes_on c.args.taken.now c.loop-entry.taken w.saturating_add.result c.args.self.now.client c.loop-entry.self.client c.take_one.new.self.client c.loop-entry.invariant.takes
            (takes_answer c.loop-entry.taken w.saturating_add.result c.loop-entry.self.client c.take_one.new.self.client (omega (arith, w.saturating_add.ensures, c.loop-entry.invariant.less, c.ranges.count.fits))
            (subst (λ (t : Took). TookOf t c.loop-entry.self.client c.take_one.new.self.client) w.in-Answer.is c.in_ok-take_one.ensures.took))),
        omega (arith, w.taken-is, w.if-taken-count-2.false),
        subst (λ n. TakesSo c.args.taken.now n c.args.self.now.client c.take_one.new.self.client) (sym w.taken-is)
            (takes_one c.args.taken.now c.loop-entry.taken w.saturating_add.result c.args.self.now.client c.loop-entry.self.client c.take_one.new.self.client c.loop-entry.invariant.so
            (omega (arith, w.saturating_add.ensures, c.loop-entry.invariant.less, c.ranges.count.fits))
            (subst (λ (t : Took). TookTold t c.loop-entry.self.client c.take_one.new.self.client) w.in-Answer.is c.in_ok-take_one.ensures.told)),
        subst (λ n. TakesThem c.args.taken.now n c.args.self.now c.take_one.new.self) (sym w.taken-is)
            (them_one c.args.taken.now c.loop-entry.taken w.saturating_add.result c.args.self.now c.loop-entry.self c.take_one.new.self c.loop-entry.invariant.them
            (omega (arith, w.saturating_add.ensures, c.loop-entry.invariant.less, c.ranges.count.fits))
            (subst (λ (t : Took). TookTaken t c.loop-entry.self c.take_one.new.self) w.in-Answer.is c.in_ok-take_one.ensures.takes)),
        λ crq_alone own_alone.
            subst (λ (n : ℕ). TakesSoFar c.args.count c.args.taken.now n (c.loop-entry._entry + 1) (own_of c.args.self.now (g.C.CrqEnd.state c.args.crq.now.end) (g.O.WindowPort.state c.args.own.now))
            (own_of c.take_one.new.self (g.C.CrqEnd.state c.take_one.new.crq.end) (g.O.WindowPort.state c.take_one.new.own))) (sym (omega (arith, w.taken-is, w.saturating_add.ensures, c.loop-entry.invariant.less, c.ranges.count.fits)))
            (one_more c.args.count c.args.taken.now c.loop-entry.taken c.loop-entry._entry (own_of c.args.self.now (g.C.CrqEnd.state c.args.crq.now.end) (g.O.WindowPort.state c.args.own.now))
            (own_of c.loop-entry.self (g.C.CrqEnd.state c.loop-entry.crq.end) (g.O.WindowPort.state c.loop-entry.own))
            (own_of c.take_one.new.self (g.C.CrqEnd.state c.take_one.new.crq.end) (g.O.WindowPort.state c.take_one.new.own)) c.loop-entry.invariant.less (c.loop-entry.invariant.plainly crq_alone own_alone) (subst (λ (t : Took). TakesPlainly t (own_of c.loop-entry.self (g.C.CrqEnd.state c.loop-entry.crq.end) (g.O.WindowPort.state c.loop-entry.own))
            (own_of c.take_one.new.self (g.C.CrqEnd.state c.take_one.new.crq.end) (g.O.WindowPort.state c.take_one.new.own))) w.in-Answer.is (c.in_ok-take_one.ensures.plainly crq_alone own_alone))),
        subst (λ (n : ℕ). TakingSo c.args.taken.now n (c.loop-entry._entry + 1) (acting c.args.self.now g.C.CrqEnd.is_shared (g.C.CrqEnd.state c.args.crq.now.end) g.O.WindowPort.is_shared (g.O.WindowPort.state c.args.own.now))
            (acting c.take_one.new.self g.C.CrqEnd.is_shared (g.C.CrqEnd.state c.take_one.new.crq.end) g.O.WindowPort.is_shared (g.O.WindowPort.state c.take_one.new.own))) (sym (omega (arith, w.taken-is, w.saturating_add.ensures, c.loop-entry.invariant.less, c.ranges.count.fits)))
            (taking_answer c.args.taken.now c.loop-entry.taken c.loop-entry._entry (acting c.args.self.now g.C.CrqEnd.is_shared (g.C.CrqEnd.state c.args.crq.now.end) g.O.WindowPort.is_shared (g.O.WindowPort.state c.args.own.now))
            (acting c.loop-entry.self g.C.CrqEnd.is_shared (g.C.CrqEnd.state c.loop-entry.crq.end) g.O.WindowPort.is_shared (g.O.WindowPort.state c.loop-entry.own))
            (acting c.take_one.new.self g.C.CrqEnd.is_shared (g.C.CrqEnd.state c.take_one.new.crq.end) g.O.WindowPort.is_shared (g.O.WindowPort.state c.take_one.new.own)) c.loop-entry.invariant.acts (subst (λ (t : Took). TakesOnce t (acting c.loop-entry.self g.C.CrqEnd.is_shared (g.C.CrqEnd.state c.loop-entry.crq.end) g.O.WindowPort.is_shared (g.O.WindowPort.state c.loop-entry.own))
            (acting c.take_one.new.self g.C.CrqEnd.is_shared (g.C.CrqEnd.state c.take_one.new.crq.end) g.O.WindowPort.is_shared (g.O.WindowPort.state c.take_one.new.own))) w.in-Answer.is c.in_ok-take_one.ensures.acts)),
      )
      | in-Other w ↦ (
        subst (λ n. TakesOn c.args.taken.now n c.args.self.now.client c.take_one.new.self.client) (sym w.taken-is)
            (takes_on c.args.taken.now c.loop-entry.taken c.loop-entry.taken c.args.self.now.client c.loop-entry.self.client c.take_one.new.self.client c.loop-entry.invariant.takes
            (takes_other c.loop-entry.taken c.loop-entry.self.client c.take_one.new.self.client (subst (λ (t : Took). TookOf t c.loop-entry.self.client c.take_one.new.self.client) w.in-Other.is c.in_ok-take_one.ensures.took))),
        omega (arith, w.taken-is, c.loop-entry.invariant.less),
        subst (λ n. TakesSo c.args.taken.now n c.args.self.now.client c.take_one.new.self.client) (sym w.taken-is)
            (takes_same c.args.taken.now c.loop-entry.taken c.args.self.now.client c.loop-entry.self.client c.take_one.new.self.client c.loop-entry.invariant.so
            (subst (λ (t : Took). TookTold t c.loop-entry.self.client c.take_one.new.self.client) w.in-Other.is c.in_ok-take_one.ensures.told)),
        subst (λ n. TakesThem c.args.taken.now n c.args.self.now c.take_one.new.self) (sym w.taken-is)
            (them_none c.args.taken.now c.loop-entry.taken c.args.self.now c.loop-entry.self c.take_one.new.self c.loop-entry.invariant.them
            (subst (λ (t : Took). TookTaken t c.loop-entry.self c.take_one.new.self) w.in-Other.is c.in_ok-take_one.ensures.takes)),
        λ crq_alone own_alone.
            another c.args.count c.args.taken.now c.loop-entry.taken c.loop-entry._entry c.match-branch-2.taken (c.loop-entry._entry + 1) (own_of c.args.self.now (g.C.CrqEnd.state c.args.crq.now.end) (g.O.WindowPort.state c.args.own.now))
            (own_of c.loop-entry.self (g.C.CrqEnd.state c.loop-entry.crq.end) (g.O.WindowPort.state c.loop-entry.own))
            (own_of c.take_one.new.self (g.C.CrqEnd.state c.take_one.new.crq.end) (g.O.WindowPort.state c.take_one.new.own)) (c.loop-entry.invariant.plainly crq_alone own_alone) (subst (λ (t : Took). TakesPlainly t (own_of c.loop-entry.self (g.C.CrqEnd.state c.loop-entry.crq.end) (g.O.WindowPort.state c.loop-entry.own))
            (own_of c.take_one.new.self (g.C.CrqEnd.state c.take_one.new.crq.end) (g.O.WindowPort.state c.take_one.new.own))) w.in-Other.is (c.in_ok-take_one.ensures.plainly crq_alone own_alone)),
        subst (λ (n : ℕ). TakingSo c.args.taken.now n (c.loop-entry._entry + 1) (acting c.args.self.now g.C.CrqEnd.is_shared (g.C.CrqEnd.state c.args.crq.now.end) g.O.WindowPort.is_shared (g.O.WindowPort.state c.args.own.now))
            (acting c.take_one.new.self g.C.CrqEnd.is_shared (g.C.CrqEnd.state c.take_one.new.crq.end) g.O.WindowPort.is_shared (g.O.WindowPort.state c.take_one.new.own))) (sym w.taken-is)
            (taking_other c.args.taken.now c.loop-entry.taken c.loop-entry._entry (acting c.args.self.now g.C.CrqEnd.is_shared (g.C.CrqEnd.state c.args.crq.now.end) g.O.WindowPort.is_shared (g.O.WindowPort.state c.args.own.now))
            (acting c.loop-entry.self g.C.CrqEnd.is_shared (g.C.CrqEnd.state c.loop-entry.crq.end) g.O.WindowPort.is_shared (g.O.WindowPort.state c.loop-entry.own))
            (acting c.take_one.new.self g.C.CrqEnd.is_shared (g.C.CrqEnd.state c.take_one.new.crq.end) g.O.WindowPort.is_shared (g.O.WindowPort.state c.take_one.new.own)) c.loop-entry.invariant.acts (subst (λ (t : Took). TakesOnce t (acting c.loop-entry.self g.C.CrqEnd.is_shared (g.C.CrqEnd.state c.loop-entry.crq.end) g.O.WindowPort.is_shared (g.O.WindowPort.state c.loop-entry.own))
            (acting c.take_one.new.self g.C.CrqEnd.is_shared (g.C.CrqEnd.state c.take_one.new.crq.end) g.O.WindowPort.is_shared (g.O.WindowPort.state c.take_one.new.own))) w.in-Other.is c.in_ok-take_one.ensures.acts)),
      )
    ] in
    record {
      works = works_on _ _ _ _ _ _ _ _ _ _ _ _ c.loop-entry.invariant.works c.take_one.ensures.works;
      values = c.take_one.ensures.values ∙ c.loop-entry.invariant.values;
      pages = subst (λ (place : PortPlace). MIN_PAGES ≤ place.size) (sym c.take_one.ensures.works.window.place) c.loop-entry.invariant.pages;
      takes = next.0;
      so = next.2;
      queue = c.take_one.ensures.queue ∙ c.loop-entry.invariant.queue;
      less = next.1;
      them = next.3;
      plainly = next.4;
      acts = next.5;
      gives = gives_on c.args.self.now c.loop-entry.self c.take_one.new.self (g.C.CrqEnd.state c.args.crq.now.end) (g.C.CrqEnd.state c.loop-entry.crq.end) (g.C.CrqEnd.state c.take_one.new.crq.end)
          c.loop-entry.invariant.gives c.in_ok-take_one.ensures.gives;
    }

pub returns-then-taken-count-clause-told : goal.returns-then-taken-count-clause-told
returns-then-taken-count-clause-told g c = λ p is.
    took_told (g.O.WindowPort.state c.args.own.now).place.size c.args.count p c.args.taken.now c.args.taken.now c.args.self.now.client c.args.self.now.client (g.C.CrqEnd.state c.args.crq.now.end).registered (g.C.CrqEnd.state c.args.crq.now.end).registered
    (is, takes_none c.args.taken.now c.args.self.now.client, refl)

pub returns-then-taken-count-2-clause-told : goal.returns-then-taken-count-2-clause-told
returns-then-taken-count-2-clause-told g c = λ p is.
    let more : c.saturating_add.result ≡ c.loop-entry.taken + 1 = omega (arith, c.saturating_add.ensures, c.loop-entry.invariant.less, c.ranges.count.fits) in
    took_told (g.O.WindowPort.state c.args.own.now).place.size c.args.count p c.args.taken.now c.saturating_add.result c.args.self.now.client c.take_one.new.self.client (g.C.CrqEnd.state c.args.crq.now.end).registered (g.C.CrqEnd.state c.take_one.new.crq.end).registered (
      is,
      takes_one c.args.taken.now c.loop-entry.taken c.saturating_add.result c.args.self.now.client c.loop-entry.self.client c.take_one.new.self.client c.loop-entry.invariant.so more
          (subst (λ (t : Took). TookTold t c.loop-entry.self.client c.take_one.new.self.client) c.in-Answer.is c.in_ok-take_one.ensures.told),
      (c.take_one.ensures.queue ∙ c.loop-entry.invariant.queue),
    )

pub returns-in-Lost-clause-told : goal.returns-in-Lost-clause-told
returns-in-Lost-clause-told g c = λ p is.
    lost_takes_told (g.O.WindowPort.state c.args.own.now).place.size c.args.count p (stages.Took c.loop-entry.taken) c.args.taken.now c.loop-entry.taken c.loop-entry.taken c.args.self.now.client c.loop-entry.self.client c.take_one.new.self.client (g.C.CrqEnd.state c.args.crq.now.end).registered (g.C.CrqEnd.state c.take_one.new.crq.end).registered
    c.loop-entry.invariant.so (subst (λ (t : Took). TookTold t c.loop-entry.self.client c.take_one.new.self.client) c.in-Lost.is c.in_ok-take_one.ensures.told)

pub returns-in-InUse-clause-told : goal.returns-in-InUse-clause-told
returns-in-InUse-clause-told g c = λ p is.
    waits_takes_told (g.O.WindowPort.state c.args.own.now).place.size c.args.count p c.args.taken.now c.loop-entry.taken c.args.self.now.client c.take_one.new.self.client (g.C.CrqEnd.state c.args.crq.now.end).registered (g.C.CrqEnd.state c.take_one.new.crq.end).registered c.moved.result
    (is, (takes_same c.args.taken.now c.loop-entry.taken c.args.self.now.client c.loop-entry.self.client c.take_one.new.self.client c.loop-entry.invariant.so (subst (λ (t : Took). TookTold t c.loop-entry.self.client c.take_one.new.self.client) c.in-InUse.is c.in_ok-take_one.ensures.told)), (c.take_one.ensures.queue ∙ c.loop-entry.invariant.queue))

pub returns-then-is_empty-clause-told : goal.returns-then-is_empty-clause-told
returns-then-is_empty-clause-told g c = λ p is.
    took_told (g.O.WindowPort.state c.args.own.now).place.size c.args.count p c.args.taken.now c.loop-entry.taken c.args.self.now.client c.take_one.new.self.client (g.C.CrqEnd.state c.args.crq.now.end).registered (g.C.CrqEnd.state c.take_one.new.crq.end).registered
    (is, (takes_same c.args.taken.now c.loop-entry.taken c.args.self.now.client c.loop-entry.self.client c.take_one.new.self.client c.loop-entry.invariant.so (subst (λ (t : Took). TookTold t c.loop-entry.self.client c.take_one.new.self.client) c.in-Nothing.is c.in_ok-take_one.ensures.told)), (c.take_one.ensures.queue ∙ c.loop-entry.invariant.queue))

pub returns-in-Nothing-clause-told : goal.returns-in-Nothing-clause-told
returns-in-Nothing-clause-told g c = λ p is.
    waits_takes_told (g.O.WindowPort.state c.args.own.now).place.size c.args.count p c.args.taken.now c.loop-entry.taken c.args.self.now.client c.take_one.new.self.client (g.C.CrqEnd.state c.args.crq.now.end).registered (g.C.CrqEnd.state c.take_one.new.crq.end).registered c.moved-in-Nothing.result
    (is, (takes_same c.args.taken.now c.loop-entry.taken c.args.self.now.client c.loop-entry.self.client c.take_one.new.self.client c.loop-entry.invariant.so (subst (λ (t : Took). TookTold t c.loop-entry.self.client c.take_one.new.self.client) c.in-Nothing.is c.in_ok-take_one.ensures.told)), (c.take_one.ensures.queue ∙ c.loop-entry.invariant.queue))

pub returns-clause-told : goal.returns-clause-told
returns-clause-told g c = λ p is.
    waits_takes_told (g.O.WindowPort.state c.args.own.now).place.size c.args.count p c.args.taken.now c.loop-entry.taken c.args.self.now.client c.loop-entry.self.client (g.C.CrqEnd.state c.args.crq.now.end).registered (g.C.CrqEnd.state c.loop-entry.crq.end).registered DidMove
    (is, c.loop-entry.invariant.so, c.loop-entry.invariant.queue)

pub returns-then-taken-count-clause-takes : goal.returns-then-taken-count-clause-takes
returns-then-taken-count-clause-takes g c = λ up_to. took_taken c.args.count c.args.taken.now c.args.taken.now c.args.self.now c.args.self.now up_to (λ now agrees. agrees) up_to

pub returns-then-taken-count-2-clause-takes : goal.returns-then-taken-count-2-clause-takes
returns-then-taken-count-2-clause-takes g c =
    let more : c.saturating_add.result ≡ c.loop-entry.taken + 1 = omega (arith, c.saturating_add.ensures, c.loop-entry.invariant.less, c.ranges.count.fits) in
    took_taken c.args.count c.args.taken.now c.saturating_add.result c.args.self.now c.take_one.new.self (let less = c.loop-entry.invariant.less in omega (arith, less, more))
    (them_one c.args.taken.now c.loop-entry.taken c.saturating_add.result c.args.self.now c.loop-entry.self c.take_one.new.self c.loop-entry.invariant.them more
    (subst (λ (t : Took). TookTaken t c.loop-entry.self c.take_one.new.self) c.in-Answer.is c.in_ok-take_one.ensures.takes))

pub returns-in-Lost-clause-takes : goal.returns-in-Lost-clause-takes
returns-in-Lost-clause-takes g c =
    lost_taken c.args.count c.args.taken.now c.loop-entry.taken c.args.self.now c.take_one.new.self (let less = c.loop-entry.invariant.less in omega (arith, less))
    (them_none c.args.taken.now c.loop-entry.taken c.args.self.now c.loop-entry.self c.take_one.new.self c.loop-entry.invariant.them
    (subst (λ (t : Took). TookTaken t c.loop-entry.self c.take_one.new.self) c.in-Lost.is c.in_ok-take_one.ensures.takes))

pub returns-in-InUse-clause-takes : goal.returns-in-InUse-clause-takes
returns-in-InUse-clause-takes g c =
    waits_taken c.args.count c.args.taken.now c.loop-entry.taken c.args.self.now c.take_one.new.self c.moved.result (let less = c.loop-entry.invariant.less in omega (arith, less))
    (them_none c.args.taken.now c.loop-entry.taken c.args.self.now c.loop-entry.self c.take_one.new.self c.loop-entry.invariant.them
    (subst (λ (t : Took). TookTaken t c.loop-entry.self c.take_one.new.self) c.in-InUse.is c.in_ok-take_one.ensures.takes))

pub returns-then-is_empty-clause-takes : goal.returns-then-is_empty-clause-takes
returns-then-is_empty-clause-takes g c =
    took_taken c.args.count c.args.taken.now c.loop-entry.taken c.args.self.now c.take_one.new.self (let less = c.loop-entry.invariant.less in omega (arith, less))
    (them_none c.args.taken.now c.loop-entry.taken c.args.self.now c.loop-entry.self c.take_one.new.self c.loop-entry.invariant.them
    (subst (λ (t : Took). TookTaken t c.loop-entry.self c.take_one.new.self) c.in-Nothing.is c.in_ok-take_one.ensures.takes))

pub returns-in-Nothing-clause-takes : goal.returns-in-Nothing-clause-takes
returns-in-Nothing-clause-takes g c =
    waits_taken c.args.count c.args.taken.now c.loop-entry.taken c.args.self.now c.take_one.new.self c.moved-in-Nothing.result (let less = c.loop-entry.invariant.less in omega (arith, less))
    (them_none c.args.taken.now c.loop-entry.taken c.args.self.now c.loop-entry.self c.take_one.new.self c.loop-entry.invariant.them
    (subst (λ (t : Took). TookTaken t c.loop-entry.self c.take_one.new.self) c.in-Nothing.is c.in_ok-take_one.ensures.takes))

pub returns-clause-takes : goal.returns-clause-takes
returns-clause-takes g c =
    waits_taken c.args.count c.args.taken.now c.loop-entry.taken c.args.self.now c.loop-entry.self DidMove (let less = c.loop-entry.invariant.less in omega (arith, less)) c.loop-entry.invariant.them

pub returns-then-taken-count-2-clause-gives : goal.returns-then-taken-count-2-clause-gives
returns-then-taken-count-2-clause-gives g c =
    gives_on c.args.self.now c.loop-entry.self c.take_one.new.self (g.C.CrqEnd.state c.args.crq.now.end) (g.C.CrqEnd.state c.loop-entry.crq.end) (g.C.CrqEnd.state c.take_one.new.crq.end)
    c.loop-entry.invariant.gives c.in_ok-take_one.ensures.gives

pub returns-in-Lost-clause-gives : goal.returns-in-Lost-clause-gives
returns-in-Lost-clause-gives g c =
    gives_on c.args.self.now c.loop-entry.self c.take_one.new.self (g.C.CrqEnd.state c.args.crq.now.end) (g.C.CrqEnd.state c.loop-entry.crq.end) (g.C.CrqEnd.state c.take_one.new.crq.end)
    c.loop-entry.invariant.gives c.in_ok-take_one.ensures.gives

pub returns-in-InUse-clause-gives : goal.returns-in-InUse-clause-gives
returns-in-InUse-clause-gives g c =
    gives_on c.args.self.now c.loop-entry.self c.take_one.new.self (g.C.CrqEnd.state c.args.crq.now.end) (g.C.CrqEnd.state c.loop-entry.crq.end) (g.C.CrqEnd.state c.take_one.new.crq.end)
    c.loop-entry.invariant.gives c.in_ok-take_one.ensures.gives

pub returns-then-is_empty-clause-gives : goal.returns-then-is_empty-clause-gives
returns-then-is_empty-clause-gives g c =
    gives_on c.args.self.now c.loop-entry.self c.take_one.new.self (g.C.CrqEnd.state c.args.crq.now.end) (g.C.CrqEnd.state c.loop-entry.crq.end) (g.C.CrqEnd.state c.take_one.new.crq.end)
    c.loop-entry.invariant.gives c.in_ok-take_one.ensures.gives

pub returns-in-Nothing-clause-gives : goal.returns-in-Nothing-clause-gives
returns-in-Nothing-clause-gives g c =
    gives_on c.args.self.now c.loop-entry.self c.take_one.new.self (g.C.CrqEnd.state c.args.crq.now.end) (g.C.CrqEnd.state c.loop-entry.crq.end) (g.C.CrqEnd.state c.take_one.new.crq.end)
    c.loop-entry.invariant.gives c.in_ok-take_one.ensures.gives

pub returns-then-taken-count-clause-hears : goal.returns-then-taken-count-clause-hears
returns-then-taken-count-clause-hears g c = hears_same c.args.self.now.client c.args.self.now.client (g.C.CrqEnd.state c.args.crq.now.end) (g.C.CrqEnd.state c.args.crq.now.end) refl refl refl

pub returns-clause-hears : goal.returns-clause-hears
returns-clause-hears g c = c.loop-entry.invariant.gives.heard

pub returns-then-taken-count-2-clause-hears : goal.returns-then-taken-count-2-clause-hears
returns-then-taken-count-2-clause-hears g c =
    loss_hears c.args.self.now c.loop-entry.self c.take_one.new.self (g.C.CrqEnd.state c.args.crq.now.end) (g.C.CrqEnd.state c.loop-entry.crq.end) (g.C.CrqEnd.state c.take_one.new.crq.end) 0
    c.loop-entry.invariant.gives c.in_ok-take_one.ensures.gives.heard

pub returns-in-InUse-clause-hears : goal.returns-in-InUse-clause-hears
returns-in-InUse-clause-hears g c =
    loss_hears c.args.self.now c.loop-entry.self c.take_one.new.self (g.C.CrqEnd.state c.args.crq.now.end) (g.C.CrqEnd.state c.loop-entry.crq.end) (g.C.CrqEnd.state c.take_one.new.crq.end) 0
    c.loop-entry.invariant.gives c.in_ok-take_one.ensures.gives.heard

pub returns-then-is_empty-clause-hears : goal.returns-then-is_empty-clause-hears
returns-then-is_empty-clause-hears g c =
    loss_hears c.args.self.now c.loop-entry.self c.take_one.new.self (g.C.CrqEnd.state c.args.crq.now.end) (g.C.CrqEnd.state c.loop-entry.crq.end) (g.C.CrqEnd.state c.take_one.new.crq.end) 0
    c.loop-entry.invariant.gives c.in_ok-take_one.ensures.gives.heard

pub returns-in-Nothing-clause-hears : goal.returns-in-Nothing-clause-hears
returns-in-Nothing-clause-hears g c =
    loss_hears c.args.self.now c.loop-entry.self c.take_one.new.self (g.C.CrqEnd.state c.args.crq.now.end) (g.C.CrqEnd.state c.loop-entry.crq.end) (g.C.CrqEnd.state c.take_one.new.crq.end) 0
    c.loop-entry.invariant.gives c.in_ok-take_one.ensures.gives.heard

pub returns-in-Lost-clause-hears : goal.returns-in-Lost-clause-hears
returns-in-Lost-clause-hears g c =
    loss_hears c.args.self.now c.loop-entry.self c.take_one.new.self (g.C.CrqEnd.state c.args.crq.now.end) (g.C.CrqEnd.state c.loop-entry.crq.end) (g.C.CrqEnd.state c.take_one.new.crq.end) 1
    c.loop-entry.invariant.gives
    (subst (λ (t : Took). Hears (lost_by t) c.loop-entry.self.client c.take_one.new.self.client (g.C.CrqEnd.state c.loop-entry.crq.end) (g.C.CrqEnd.state c.take_one.new.crq.end))
    c.in-Lost.is c.in_ok-take_one.ensures.hears)

pub returns-then-taken-count-clause-works : goal.returns-then-taken-count-clause-works
returns-then-taken-count-clause-works g c =
    works_same false g.C.CrqEnd.is_shared g.O.WindowPort.is_shared (g.C.CrqEnd.state c.args.crq.now.end) (g.O.WindowPort.state c.args.own.now) c.args.self.now

pub loop-entry-init : goal.loop-entry-init
loop-entry-init g c = record {
  works = works_same false g.C.CrqEnd.is_shared g.O.WindowPort.is_shared (g.C.CrqEnd.state c.args.crq.now.end) (g.O.WindowPort.state c.args.own.now) c.args.self.now;
  values = refl;
  pages = c.requires;
  takes = λ credit agrees. agrees;
  so = takes_none c.args.taken.now c.args.self.now.client;
  queue = refl;
  less = omega (arith, c.if-taken-count.false);
  them = λ now agrees. agrees;
  plainly = λ crq_alone own_alone. none_yet c.args.count c.args.taken.now (own_of c.args.self.now (g.C.CrqEnd.state c.args.crq.now.end) (g.O.WindowPort.state c.args.own.now));
  gives = gives_same c.args.self.now (g.C.CrqEnd.state c.args.crq.now.end);
  acts = taking_none c.args.taken.now (acting c.args.self.now g.C.CrqEnd.is_shared (g.C.CrqEnd.state c.args.crq.now.end) g.O.WindowPort.is_shared (g.O.WindowPort.state c.args.own.now));
}

pub returns-then-taken-count-clause-plainly : goal.returns-then-taken-count-clause-plainly
returns-then-taken-count-clause-plainly g c = λ crq_alone own_alone p is.
    ends_full c.args.count c.args.taken.now c.args.taken.now 0 p (stages.Took c.args.taken.now) (own_of c.args.self.now (g.C.CrqEnd.state c.args.crq.now.end) (g.O.WindowPort.state c.args.own.now))
    (own_of c.args.self.now (g.C.CrqEnd.state c.args.crq.now.end) (g.O.WindowPort.state c.args.own.now)) is (omega (arith, c.if-taken-count.true)) (none_yet c.args.count c.args.taken.now (own_of c.args.self.now (g.C.CrqEnd.state c.args.crq.now.end) (g.O.WindowPort.state c.args.own.now)))

pub returns-then-taken-count-2-clause-plainly : goal.returns-then-taken-count-2-clause-plainly
returns-then-taken-count-2-clause-plainly g c = λ crq_alone own_alone p is.
    let more : c.saturating_add.result ≡ c.loop-entry.taken + 1 = omega (arith, c.saturating_add.ensures, c.loop-entry.invariant.less, c.ranges.count.fits) in
    ends_full c.args.count c.args.taken.now c.saturating_add.result (c.loop-entry._entry + 1) p (stages.Took c.saturating_add.result) (own_of c.args.self.now (g.C.CrqEnd.state c.args.crq.now.end) (g.O.WindowPort.state c.args.own.now))
    (own_of c.take_one.new.self (g.C.CrqEnd.state c.take_one.new.crq.end) (g.O.WindowPort.state c.take_one.new.own)) is (omega (arith, c.if-taken-count-2.true))
    (subst (λ (n : ℕ). TakesSoFar c.args.count c.args.taken.now n (c.loop-entry._entry + 1) (own_of c.args.self.now (g.C.CrqEnd.state c.args.crq.now.end) (g.O.WindowPort.state c.args.own.now))
    (own_of c.take_one.new.self (g.C.CrqEnd.state c.take_one.new.crq.end) (g.O.WindowPort.state c.take_one.new.own))) (sym more)
    (one_more c.args.count c.args.taken.now c.loop-entry.taken c.loop-entry._entry (own_of c.args.self.now (g.C.CrqEnd.state c.args.crq.now.end) (g.O.WindowPort.state c.args.own.now))
    (own_of c.loop-entry.self (g.C.CrqEnd.state c.loop-entry.crq.end) (g.O.WindowPort.state c.loop-entry.own))
    (own_of c.take_one.new.self (g.C.CrqEnd.state c.take_one.new.crq.end) (g.O.WindowPort.state c.take_one.new.own)) c.loop-entry.invariant.less (c.loop-entry.invariant.plainly crq_alone own_alone) (subst (λ (t : Took). TakesPlainly t (own_of c.loop-entry.self (g.C.CrqEnd.state c.loop-entry.crq.end) (g.O.WindowPort.state c.loop-entry.own))
    (own_of c.take_one.new.self (g.C.CrqEnd.state c.take_one.new.crq.end) (g.O.WindowPort.state c.take_one.new.own))) c.in-Answer.is (c.in_ok-take_one.ensures.plainly crq_alone own_alone))))

pub returns-in-Lost-clause-plainly : goal.returns-in-Lost-clause-plainly
returns-in-Lost-clause-plainly g c = λ crq_alone own_alone p is.
    ends_never c.args.count c.args.taken.now c.loop-entry.taken c.loop-entry._entry p (stages.Took c.loop-entry.taken) tooks.Lost (steps.Ends (outcomes.TookThenLost c.loop-entry.taken))
    (own_of c.args.self.now (g.C.CrqEnd.state c.args.crq.now.end) (g.O.WindowPort.state c.args.own.now))
    (own_of c.loop-entry.self (g.C.CrqEnd.state c.loop-entry.crq.end) (g.O.WindowPort.state c.loop-entry.own))
    (own_of c.take_one.new.self (g.C.CrqEnd.state c.take_one.new.crq.end) (g.O.WindowPort.state c.take_one.new.own)) is (λ granted now at leaves. leaves) (c.loop-entry.invariant.plainly crq_alone own_alone) (subst (λ (t : Took). TakesPlainly t (own_of c.loop-entry.self (g.C.CrqEnd.state c.loop-entry.crq.end) (g.O.WindowPort.state c.loop-entry.own))
    (own_of c.take_one.new.self (g.C.CrqEnd.state c.take_one.new.crq.end) (g.O.WindowPort.state c.take_one.new.own))) c.in-Lost.is (c.in_ok-take_one.ensures.plainly crq_alone own_alone))

pub returns-in-InUse-clause-plainly : goal.returns-in-InUse-clause-plainly
returns-in-InUse-clause-plainly g c = λ crq_alone own_alone p is.
    ends_never c.args.count c.args.taken.now c.loop-entry.taken c.loop-entry._entry p (stages.Took c.loop-entry.taken) tooks.InUse (steps.Waits c.moved.result)
    (own_of c.args.self.now (g.C.CrqEnd.state c.args.crq.now.end) (g.O.WindowPort.state c.args.own.now))
    (own_of c.loop-entry.self (g.C.CrqEnd.state c.loop-entry.crq.end) (g.O.WindowPort.state c.loop-entry.own))
    (own_of c.take_one.new.self (g.C.CrqEnd.state c.take_one.new.crq.end) (g.O.WindowPort.state c.take_one.new.own)) is (λ granted now at leaves. leaves) (c.loop-entry.invariant.plainly crq_alone own_alone) (subst (λ (t : Took). TakesPlainly t (own_of c.loop-entry.self (g.C.CrqEnd.state c.loop-entry.crq.end) (g.O.WindowPort.state c.loop-entry.own))
    (own_of c.take_one.new.self (g.C.CrqEnd.state c.take_one.new.crq.end) (g.O.WindowPort.state c.take_one.new.own))) c.in-InUse.is (c.in_ok-take_one.ensures.plainly crq_alone own_alone))

pub returns-then-is_empty-clause-plainly : goal.returns-then-is_empty-clause-plainly
returns-then-is_empty-clause-plainly g c = λ crq_alone own_alone p is.
    ends_none c.args.count c.args.taken.now c.loop-entry.taken c.loop-entry._entry c.outstanding.result.now p (stages.Took c.loop-entry.taken) (own_of c.args.self.now (g.C.CrqEnd.state c.args.crq.now.end) (g.O.WindowPort.state c.args.own.now))
    (own_of c.loop-entry.self (g.C.CrqEnd.state c.loop-entry.crq.end) (g.O.WindowPort.state c.loop-entry.own))
    (own_of c.take_one.new.self (g.C.CrqEnd.state c.take_one.new.crq.end) (g.O.WindowPort.state c.take_one.new.own)) is c.loop-entry.invariant.less c.outstanding.ensures.tags (sym c.is_empty.ensures ∙ c.if-is_empty.true) (c.loop-entry.invariant.plainly crq_alone own_alone) (subst (λ (t : Took). TakesPlainly t (own_of c.loop-entry.self (g.C.CrqEnd.state c.loop-entry.crq.end) (g.O.WindowPort.state c.loop-entry.own))
    (own_of c.take_one.new.self (g.C.CrqEnd.state c.take_one.new.crq.end) (g.O.WindowPort.state c.take_one.new.own))) c.in-Nothing.is (c.in_ok-take_one.ensures.plainly crq_alone own_alone))

pub returns-in-Nothing-clause-plainly : goal.returns-in-Nothing-clause-plainly
returns-in-Nothing-clause-plainly g c = λ crq_alone own_alone p is.
    waits_none c.args.count c.args.taken.now c.loop-entry.taken c.loop-entry._entry c.outstanding.result.now p (stages.Took c.loop-entry.taken) c.moved-in-Nothing.result (own_of c.args.self.now (g.C.CrqEnd.state c.args.crq.now.end) (g.O.WindowPort.state c.args.own.now))
    (own_of c.loop-entry.self (g.C.CrqEnd.state c.loop-entry.crq.end) (g.O.WindowPort.state c.loop-entry.own))
    (own_of c.take_one.new.self (g.C.CrqEnd.state c.take_one.new.crq.end) (g.O.WindowPort.state c.take_one.new.own)) is refl c.loop-entry.invariant.less c.outstanding.ensures.tags (sym c.is_empty.ensures ∙ c.if-is_empty.false) (c.loop-entry.invariant.plainly crq_alone own_alone) (subst (λ (t : Took). TakesPlainly t (own_of c.loop-entry.self (g.C.CrqEnd.state c.loop-entry.crq.end) (g.O.WindowPort.state c.loop-entry.own))
    (own_of c.take_one.new.self (g.C.CrqEnd.state c.take_one.new.crq.end) (g.O.WindowPort.state c.take_one.new.own))) c.in-Nothing.is (c.in_ok-take_one.ensures.plainly crq_alone own_alone))

pub returns-clause-plainly : goal.returns-clause-plainly
returns-clause-plainly g c = λ crq_alone own_alone p is.
    ends_sooner c.args.count c.args.taken.now c.loop-entry.taken c.loop-entry._entry c.slots-entry-end.result p (stages.Took c.loop-entry.taken) (steps.Waits DidMove) (own_of c.args.self.now (g.C.CrqEnd.state c.args.crq.now.end) (g.O.WindowPort.state c.args.own.now))
    (own_of c.loop-entry.self (g.C.CrqEnd.state c.loop-entry.crq.end) (g.O.WindowPort.state c.loop-entry.own)) is c.slots-entry-end.ensures.slots (omega (arith, c.loop-entry-test.false)) (c.loop-entry.invariant.plainly crq_alone own_alone)

pub returns-in_err-take_one-clause-plainly : goal.returns-in_err-take_one-clause-plainly
returns-in_err-take_one-clause-plainly g c =
    let same : c.from_residual.result ≡ Err c.in_err-take_one.field-0.0 = search rules in
    λ crq_alone own_alone p is. steps_err (verbs.Take c.args.count) p (stages.Took c.loop-entry.taken) (own_of c.args.self.now (g.C.CrqEnd.state c.args.crq.now.end) (g.O.WindowPort.state c.args.own.now)) (own_of c.take_one.new.self (g.C.CrqEnd.state c.take_one.new.crq.end) (g.O.WindowPort.state c.take_one.new.own)) c.from_residual.result c.in_err-take_one.field-0.0 same

pub returns-then-taken-count-clause-acts : goal.returns-then-taken-count-clause-acts
returns-then-taken-count-clause-acts g c =
    line_full c.args.count c.args.taken.now (acting c.args.self.now g.C.CrqEnd.is_shared (g.C.CrqEnd.state c.args.crq.now.end) g.O.WindowPort.is_shared (g.O.WindowPort.state c.args.own.now)) (omega (arith, c.if-taken-count.true))

pub returns-then-taken-count-2-clause-acts : goal.returns-then-taken-count-2-clause-acts
returns-then-taken-count-2-clause-acts g c =
    let more : c.saturating_add.result ≡ c.loop-entry.taken + 1 = omega (arith, c.saturating_add.ensures, c.loop-entry.invariant.less, c.ranges.count.fits) in
    line_wanted c.args.count c.args.taken.now c.loop-entry.taken c.saturating_add.result c.loop-entry._entry (acting c.args.self.now g.C.CrqEnd.is_shared (g.C.CrqEnd.state c.args.crq.now.end) g.O.WindowPort.is_shared (g.O.WindowPort.state c.args.own.now))
    (acting c.loop-entry.self g.C.CrqEnd.is_shared (g.C.CrqEnd.state c.loop-entry.crq.end) g.O.WindowPort.is_shared (g.O.WindowPort.state c.loop-entry.own))
    (acting c.take_one.new.self g.C.CrqEnd.is_shared (g.C.CrqEnd.state c.take_one.new.crq.end) g.O.WindowPort.is_shared (g.O.WindowPort.state c.take_one.new.own)) more c.loop-entry.invariant.less (omega (arith, c.if-taken-count-2.true)) c.loop-entry.invariant.acts
    (subst (λ (t : Took). TakesOnce t (acting c.loop-entry.self g.C.CrqEnd.is_shared (g.C.CrqEnd.state c.loop-entry.crq.end) g.O.WindowPort.is_shared (g.O.WindowPort.state c.loop-entry.own))
    (acting c.take_one.new.self g.C.CrqEnd.is_shared (g.C.CrqEnd.state c.take_one.new.crq.end) g.O.WindowPort.is_shared (g.O.WindowPort.state c.take_one.new.own))) c.in-Answer.is c.in_ok-take_one.ensures.acts)

pub returns-in-Lost-clause-acts : goal.returns-in-Lost-clause-acts
returns-in-Lost-clause-acts g c =
    line_lost c.args.count c.args.taken.now c.loop-entry.taken c.loop-entry._entry (acting c.args.self.now g.C.CrqEnd.is_shared (g.C.CrqEnd.state c.args.crq.now.end) g.O.WindowPort.is_shared (g.O.WindowPort.state c.args.own.now))
    (acting c.loop-entry.self g.C.CrqEnd.is_shared (g.C.CrqEnd.state c.loop-entry.crq.end) g.O.WindowPort.is_shared (g.O.WindowPort.state c.loop-entry.own))
    (acting c.take_one.new.self g.C.CrqEnd.is_shared (g.C.CrqEnd.state c.take_one.new.crq.end) g.O.WindowPort.is_shared (g.O.WindowPort.state c.take_one.new.own)) c.loop-entry.invariant.acts
    (subst (λ (t : Took). TakesOnce t (acting c.loop-entry.self g.C.CrqEnd.is_shared (g.C.CrqEnd.state c.loop-entry.crq.end) g.O.WindowPort.is_shared (g.O.WindowPort.state c.loop-entry.own))
    (acting c.take_one.new.self g.C.CrqEnd.is_shared (g.C.CrqEnd.state c.take_one.new.crq.end) g.O.WindowPort.is_shared (g.O.WindowPort.state c.take_one.new.own))) c.in-Lost.is c.in_ok-take_one.ensures.acts)

pub returns-in-InUse-clause-acts : goal.returns-in-InUse-clause-acts
returns-in-InUse-clause-acts g c =
    line_used c.args.count c.args.taken.now c.loop-entry.taken c.loop-entry._entry c.moved.result (acting c.args.self.now g.C.CrqEnd.is_shared (g.C.CrqEnd.state c.args.crq.now.end) g.O.WindowPort.is_shared (g.O.WindowPort.state c.args.own.now))
    (acting c.loop-entry.self g.C.CrqEnd.is_shared (g.C.CrqEnd.state c.loop-entry.crq.end) g.O.WindowPort.is_shared (g.O.WindowPort.state c.loop-entry.own))
    (acting c.take_one.new.self g.C.CrqEnd.is_shared (g.C.CrqEnd.state c.take_one.new.crq.end) g.O.WindowPort.is_shared (g.O.WindowPort.state c.take_one.new.own)) c.loop-entry.invariant.acts
    (subst (λ (t : Took). TakesOnce t (acting c.loop-entry.self g.C.CrqEnd.is_shared (g.C.CrqEnd.state c.loop-entry.crq.end) g.O.WindowPort.is_shared (g.O.WindowPort.state c.loop-entry.own))
    (acting c.take_one.new.self g.C.CrqEnd.is_shared (g.C.CrqEnd.state c.take_one.new.crq.end) g.O.WindowPort.is_shared (g.O.WindowPort.state c.take_one.new.own))) c.in-InUse.is c.in_ok-take_one.ensures.acts)

pub returns-then-is_empty-clause-acts : goal.returns-then-is_empty-clause-acts
returns-then-is_empty-clause-acts g c =
    line_ended c.args.count c.args.taken.now c.loop-entry.taken c.loop-entry._entry c.outstanding.result.now (acting c.args.self.now g.C.CrqEnd.is_shared (g.C.CrqEnd.state c.args.crq.now.end) g.O.WindowPort.is_shared (g.O.WindowPort.state c.args.own.now))
    (acting c.loop-entry.self g.C.CrqEnd.is_shared (g.C.CrqEnd.state c.loop-entry.crq.end) g.O.WindowPort.is_shared (g.O.WindowPort.state c.loop-entry.own))
    (acting c.take_one.new.self g.C.CrqEnd.is_shared (g.C.CrqEnd.state c.take_one.new.crq.end) g.O.WindowPort.is_shared (g.O.WindowPort.state c.take_one.new.own)) c.outstanding.ensures.tags (sym c.is_empty.ensures ∙ c.if-is_empty.true) c.loop-entry.invariant.acts
    (subst (λ (t : Took). TakesOnce t (acting c.loop-entry.self g.C.CrqEnd.is_shared (g.C.CrqEnd.state c.loop-entry.crq.end) g.O.WindowPort.is_shared (g.O.WindowPort.state c.loop-entry.own))
    (acting c.take_one.new.self g.C.CrqEnd.is_shared (g.C.CrqEnd.state c.take_one.new.crq.end) g.O.WindowPort.is_shared (g.O.WindowPort.state c.take_one.new.own))) c.in-Nothing.is c.in_ok-take_one.ensures.acts)

pub returns-in-Nothing-clause-acts : goal.returns-in-Nothing-clause-acts
returns-in-Nothing-clause-acts g c =
    line_waits c.args.count c.args.taken.now c.loop-entry.taken c.loop-entry._entry c.outstanding.result.now c.moved-in-Nothing.result (acting c.args.self.now g.C.CrqEnd.is_shared (g.C.CrqEnd.state c.args.crq.now.end) g.O.WindowPort.is_shared (g.O.WindowPort.state c.args.own.now))
    (acting c.loop-entry.self g.C.CrqEnd.is_shared (g.C.CrqEnd.state c.loop-entry.crq.end) g.O.WindowPort.is_shared (g.O.WindowPort.state c.loop-entry.own))
    (acting c.take_one.new.self g.C.CrqEnd.is_shared (g.C.CrqEnd.state c.take_one.new.crq.end) g.O.WindowPort.is_shared (g.O.WindowPort.state c.take_one.new.own)) c.outstanding.ensures.tags (sym c.is_empty.ensures ∙ c.if-is_empty.false) c.loop-entry.invariant.acts
    (subst (λ (t : Took). TakesOnce t (acting c.loop-entry.self g.C.CrqEnd.is_shared (g.C.CrqEnd.state c.loop-entry.crq.end) g.O.WindowPort.is_shared (g.O.WindowPort.state c.loop-entry.own))
    (acting c.take_one.new.self g.C.CrqEnd.is_shared (g.C.CrqEnd.state c.take_one.new.crq.end) g.O.WindowPort.is_shared (g.O.WindowPort.state c.take_one.new.own))) c.in-Nothing.is c.in_ok-take_one.ensures.acts)

pub returns-clause-acts : goal.returns-clause-acts
returns-clause-acts g c =
    line_slots c.args.count c.args.taken.now c.loop-entry.taken c.loop-entry._entry (acting c.args.self.now g.C.CrqEnd.is_shared (g.C.CrqEnd.state c.args.crq.now.end) g.O.WindowPort.is_shared (g.O.WindowPort.state c.args.own.now))
    (acting c.loop-entry.self g.C.CrqEnd.is_shared (g.C.CrqEnd.state c.loop-entry.crq.end) g.O.WindowPort.is_shared (g.O.WindowPort.state c.loop-entry.own)) (omega (arith, c.slots-entry-end.ensures.slots, c.loop-entry-test.false)) c.loop-entry.invariant.acts
