use Rattle.vcpu_run.proofs.Resting.{not_quiet}
use Rattle.vcpu_run.specs.Links.{EndRests}
use Rattle.crq_session.specs.Control.{IsQueueSize}
use Rattle.crq_session.specs.EndState.{EndState}
use Rattle.std.proofs.Common.{arith, rules, ◌≡◌, ◌<◌, ◌≤◌, ◌∙◌, Err, false, refl, sym, subst}
use Rattle.tce_window.specs.PortState.{PortPlace}
use Rattle.vscsi_client.specs.declared.TheConstants.{MIN_PAGES}
use Rattle.vcpu_run.proofs.Working.{works_on, works_same}
use Rattle.vcpu_run.proofs.Giving.{gives_on, gives_same}
use Rattle.vcpu_run.specs.PlainSteps.{own_of}
use Rattle.vcpu_run.proofs.PlainRest.{rests_err, rests_more, rests_none}
use Rattle.vcpu_run.specs.Acts.{acting}
use Rattle.vcpu_run.proofs.ActsTaking.{rest_more, rest_none}
use Rattle.vcpu_run.specs.Acts.{TakesOnce}
use Rattle.vcpu_run.specs.declared.taking.Took.{Took}
use Rattle.vcpu_run.proofs.Handling.{handled_all, handled_slots, handled_used, handling_more, handling_none, one_handled}
use Rattle.vcpu_run.proofs.driver.Driver.take_rest.Goals as goal

pub returns-in_err-take_one-clause-works : goal.returns-in_err-take_one-clause-works
returns-in_err-take_one-clause-works g c = works_on _ _ _ _ _ _ _ _ _ _ _ _ c.loop-taken.invariant.works c.take_one.ensures.works

pub returns-in-Nothing-clause-works : goal.returns-in-Nothing-clause-works
returns-in-Nothing-clause-works g c = works_on _ _ _ _ _ _ _ _ _ _ _ _ c.loop-taken.invariant.works c.take_one.ensures.works

pub loop-taken-preserved : goal.loop-taken-preserved
loop-taken-preserved g c = record {
  works = works_on _ _ _ _ _ _ _ _ _ _ _ _ c.loop-taken.invariant.works c.take_one.ensures.works;
  values = c.take_one.ensures.values ∙ c.loop-taken.invariant.values;
  queue = c.take_one.ensures.queue ∙ c.loop-taken.invariant.queue;
  pages = subst (λ (place : PortPlace). MIN_PAGES ≤ place.size) (sym c.take_one.ensures.works.window.place) c.loop-taken.invariant.pages;
  gives = gives_on c.args.self.now c.loop-taken.self c.take_one.new.self (g.C.CrqEnd.state c.args.crq.now.end) (g.C.CrqEnd.state c.loop-taken.crq.end) (g.C.CrqEnd.state c.take_one.new.crq.end)
      c.loop-taken.invariant.gives c.in_ok-take_one.ensures.gives;
  plainly = λ crq_alone own_alone. rests_more (own_of c.args.self.now (g.C.CrqEnd.state c.args.crq.now.end) (g.O.WindowPort.state c.args.own.now))
      (own_of c.loop-taken.self (g.C.CrqEnd.state c.loop-taken.crq.end) (g.O.WindowPort.state c.loop-taken.own))
      (own_of c.take_one.new.self (g.C.CrqEnd.state c.take_one.new.crq.end) (g.O.WindowPort.state c.take_one.new.own)) _ (c.loop-taken.invariant.plainly crq_alone own_alone) (c.in_ok-take_one.ensures.plainly crq_alone own_alone);
  fresh = λ is. absurd (not_quiet is);
  handles = handling_more c.loop-taken.moved c.loop-taken._taken _ (acting c.args.self.now g.C.CrqEnd.is_shared (g.C.CrqEnd.state c.args.crq.now.end) g.O.WindowPort.is_shared (g.O.WindowPort.state c.args.own.now))
      (acting c.loop-taken.self g.C.CrqEnd.is_shared (g.C.CrqEnd.state c.loop-taken.crq.end) g.O.WindowPort.is_shared (g.O.WindowPort.state c.loop-taken.own))
      (acting c.take_one.new.self g.C.CrqEnd.is_shared (g.C.CrqEnd.state c.take_one.new.crq.end) g.O.WindowPort.is_shared (g.O.WindowPort.state c.take_one.new.own)) (one_handled c.in_ok-take_one.field-0 c.in-Answer.is)
      c.loop-taken.invariant.handles c.in_ok-take_one.ensures.acts;
  acts = rest_more (acting c.args.self.now g.C.CrqEnd.is_shared (g.C.CrqEnd.state c.args.crq.now.end) g.O.WindowPort.is_shared (g.O.WindowPort.state c.args.own.now))
      (acting c.loop-taken.self g.C.CrqEnd.is_shared (g.C.CrqEnd.state c.loop-taken.crq.end) g.O.WindowPort.is_shared (g.O.WindowPort.state c.loop-taken.own))
      (acting c.take_one.new.self g.C.CrqEnd.is_shared (g.C.CrqEnd.state c.take_one.new.crq.end) g.O.WindowPort.is_shared (g.O.WindowPort.state c.take_one.new.own)) _ c.loop-taken.invariant.acts c.in_ok-take_one.ensures.acts;
}

pub returns-in-InUse-clause-works : goal.returns-in-InUse-clause-works
returns-in-InUse-clause-works g c = works_on _ _ _ _ _ _ _ _ _ _ _ _ c.loop-taken.invariant.works c.take_one.ensures.works

pub returns-in-InUse-clause-quiet : goal.returns-in-InUse-clause-quiet
returns-in-InUse-clause-quiet g c = λ alone is. absurd (not_quiet is)

pub returns-clause-quiet : goal.returns-clause-quiet
returns-clause-quiet g c = λ alone is. absurd (not_quiet is)

pub returns-in-Nothing-clause-quiet : goal.returns-in-Nothing-clause-quiet
returns-in-Nothing-clause-quiet g c = λ alone is.
    subst (λ (end : EndState). EndRests end (g.C.CrqEnd.state c.take_one.new.crq.end)) (c.loop-taken.invariant.fresh is) (c.in_ok-take_one.ensures.none alone c.in-Nothing.is)

pub returns-in-Nothing-clause-gives : goal.returns-in-Nothing-clause-gives
returns-in-Nothing-clause-gives g c =
    gives_on c.args.self.now c.loop-taken.self c.take_one.new.self (g.C.CrqEnd.state c.args.crq.now.end) (g.C.CrqEnd.state c.loop-taken.crq.end) (g.C.CrqEnd.state c.take_one.new.crq.end)
    c.loop-taken.invariant.gives c.in_ok-take_one.ensures.gives

pub returns-in-InUse-clause-gives : goal.returns-in-InUse-clause-gives
returns-in-InUse-clause-gives g c =
    gives_on c.args.self.now c.loop-taken.self c.take_one.new.self (g.C.CrqEnd.state c.args.crq.now.end) (g.C.CrqEnd.state c.loop-taken.crq.end) (g.C.CrqEnd.state c.take_one.new.crq.end)
    c.loop-taken.invariant.gives c.in_ok-take_one.ensures.gives

pub loop-taken-init : goal.loop-taken-init
loop-taken-init g c = record {
  works = works_same false g.C.CrqEnd.is_shared g.O.WindowPort.is_shared (g.C.CrqEnd.state c.args.crq.now.end) (g.O.WindowPort.state c.args.own.now) c.args.self.now;
  values = refl;
  queue = refl;
  pages = c.requires;
  gives = gives_same c.args.self.now (g.C.CrqEnd.state c.args.crq.now.end);
  plainly = λ crq_alone own_alone. rests_none (own_of c.args.self.now (g.C.CrqEnd.state c.args.crq.now.end) (g.O.WindowPort.state c.args.own.now));
  fresh = λ is. refl;
  handles = handling_none (acting c.args.self.now g.C.CrqEnd.is_shared (g.C.CrqEnd.state c.args.crq.now.end) g.O.WindowPort.is_shared (g.O.WindowPort.state c.args.own.now));
  acts = rest_none (acting c.args.self.now g.C.CrqEnd.is_shared (g.C.CrqEnd.state c.args.crq.now.end) g.O.WindowPort.is_shared (g.O.WindowPort.state c.args.own.now));
}

pub returns-in_err-take_one-clause-plainly : goal.returns-in_err-take_one-clause-plainly
returns-in_err-take_one-clause-plainly g c =
    let same : c.from_residual.result ≡ Err c.in_err-take_one.field-0.0 = search rules in
    λ crq_alone own_alone. rests_err (own_of c.args.self.now (g.C.CrqEnd.state c.args.crq.now.end) (g.O.WindowPort.state c.args.own.now)) (own_of c.take_one.new.self (g.C.CrqEnd.state c.take_one.new.crq.end) (g.O.WindowPort.state c.take_one.new.own)) c.from_residual.result c.in_err-take_one.field-0.0 same

pub returns-in-Nothing-clause-plainly : goal.returns-in-Nothing-clause-plainly
returns-in-Nothing-clause-plainly g c = λ crq_alone own_alone.
    (rests_more (own_of c.args.self.now (g.C.CrqEnd.state c.args.crq.now.end) (g.O.WindowPort.state c.args.own.now))
    (own_of c.loop-taken.self (g.C.CrqEnd.state c.loop-taken.crq.end) (g.O.WindowPort.state c.loop-taken.own))
    (own_of c.take_one.new.self (g.C.CrqEnd.state c.take_one.new.crq.end) (g.O.WindowPort.state c.take_one.new.own)) _ (c.loop-taken.invariant.plainly crq_alone own_alone)
    (c.in_ok-take_one.ensures.plainly crq_alone own_alone)).leaves

pub returns-in-InUse-clause-plainly : goal.returns-in-InUse-clause-plainly
returns-in-InUse-clause-plainly g c = λ crq_alone own_alone.
    (rests_more (own_of c.args.self.now (g.C.CrqEnd.state c.args.crq.now.end) (g.O.WindowPort.state c.args.own.now))
    (own_of c.loop-taken.self (g.C.CrqEnd.state c.loop-taken.crq.end) (g.O.WindowPort.state c.loop-taken.own))
    (own_of c.take_one.new.self (g.C.CrqEnd.state c.take_one.new.crq.end) (g.O.WindowPort.state c.take_one.new.own)) _ (c.loop-taken.invariant.plainly crq_alone own_alone)
    (c.in_ok-take_one.ensures.plainly crq_alone own_alone)).leaves

pub returns-clause-plainly : goal.returns-clause-plainly
returns-clause-plainly g c = λ crq_alone own_alone. (c.loop-taken.invariant.plainly crq_alone own_alone).leaves

pub returns-in-Nothing-clause-acts : goal.returns-in-Nothing-clause-acts
returns-in-Nothing-clause-acts g c =
    rest_more (acting c.args.self.now g.C.CrqEnd.is_shared (g.C.CrqEnd.state c.args.crq.now.end) g.O.WindowPort.is_shared (g.O.WindowPort.state c.args.own.now))
    (acting c.loop-taken.self g.C.CrqEnd.is_shared (g.C.CrqEnd.state c.loop-taken.crq.end) g.O.WindowPort.is_shared (g.O.WindowPort.state c.loop-taken.own))
    (acting c.take_one.new.self g.C.CrqEnd.is_shared (g.C.CrqEnd.state c.take_one.new.crq.end) g.O.WindowPort.is_shared (g.O.WindowPort.state c.take_one.new.own)) _ c.loop-taken.invariant.acts c.in_ok-take_one.ensures.acts

pub returns-in-InUse-clause-acts : goal.returns-in-InUse-clause-acts
returns-in-InUse-clause-acts g c =
    rest_more (acting c.args.self.now g.C.CrqEnd.is_shared (g.C.CrqEnd.state c.args.crq.now.end) g.O.WindowPort.is_shared (g.O.WindowPort.state c.args.own.now))
    (acting c.loop-taken.self g.C.CrqEnd.is_shared (g.C.CrqEnd.state c.loop-taken.crq.end) g.O.WindowPort.is_shared (g.O.WindowPort.state c.loop-taken.own))
    (acting c.take_one.new.self g.C.CrqEnd.is_shared (g.C.CrqEnd.state c.take_one.new.crq.end) g.O.WindowPort.is_shared (g.O.WindowPort.state c.take_one.new.own)) _ c.loop-taken.invariant.acts c.in_ok-take_one.ensures.acts

pub returns-in-Nothing-clause-moved : goal.returns-in-Nothing-clause-moved
returns-in-Nothing-clause-moved g c =
    handled_all c.loop-taken.moved c.loop-taken._taken (acting c.args.self.now g.C.CrqEnd.is_shared (g.C.CrqEnd.state c.args.crq.now.end) g.O.WindowPort.is_shared (g.O.WindowPort.state c.args.own.now))
    (acting c.loop-taken.self g.C.CrqEnd.is_shared (g.C.CrqEnd.state c.loop-taken.crq.end) g.O.WindowPort.is_shared (g.O.WindowPort.state c.loop-taken.own))
    (acting c.take_one.new.self g.C.CrqEnd.is_shared (g.C.CrqEnd.state c.take_one.new.crq.end) g.O.WindowPort.is_shared (g.O.WindowPort.state c.take_one.new.own)) c.loop-taken.invariant.handles
    (subst (λ (took : Took). TakesOnce took
    (acting c.loop-taken.self g.C.CrqEnd.is_shared (g.C.CrqEnd.state c.loop-taken.crq.end) g.O.WindowPort.is_shared (g.O.WindowPort.state c.loop-taken.own))
    (acting c.take_one.new.self g.C.CrqEnd.is_shared (g.C.CrqEnd.state c.take_one.new.crq.end) g.O.WindowPort.is_shared (g.O.WindowPort.state c.take_one.new.own))) c.in-Nothing.is c.in_ok-take_one.ensures.acts)

pub returns-in-InUse-clause-moved : goal.returns-in-InUse-clause-moved
returns-in-InUse-clause-moved g c =
    handled_used c.loop-taken.moved _ c.loop-taken._taken (acting c.args.self.now g.C.CrqEnd.is_shared (g.C.CrqEnd.state c.args.crq.now.end) g.O.WindowPort.is_shared (g.O.WindowPort.state c.args.own.now))
    (acting c.loop-taken.self g.C.CrqEnd.is_shared (g.C.CrqEnd.state c.loop-taken.crq.end) g.O.WindowPort.is_shared (g.O.WindowPort.state c.loop-taken.own))
    (acting c.take_one.new.self g.C.CrqEnd.is_shared (g.C.CrqEnd.state c.take_one.new.crq.end) g.O.WindowPort.is_shared (g.O.WindowPort.state c.take_one.new.own)) c.loop-taken.invariant.handles
    (subst (λ (took : Took). TakesOnce took
    (acting c.loop-taken.self g.C.CrqEnd.is_shared (g.C.CrqEnd.state c.loop-taken.crq.end) g.O.WindowPort.is_shared (g.O.WindowPort.state c.loop-taken.own))
    (acting c.take_one.new.self g.C.CrqEnd.is_shared (g.C.CrqEnd.state c.take_one.new.crq.end) g.O.WindowPort.is_shared (g.O.WindowPort.state c.take_one.new.own))) c.in-InUse.is c.in_ok-take_one.ensures.acts)
    refl c.loop-taken.invariant.works.window

pub returns-clause-moved : goal.returns-clause-moved
returns-clause-moved g c =
    handled_slots c.loop-taken.moved _ c.loop-taken._taken (acting c.args.self.now g.C.CrqEnd.is_shared (g.C.CrqEnd.state c.args.crq.now.end) g.O.WindowPort.is_shared (g.O.WindowPort.state c.args.own.now))
    (acting c.loop-taken.self g.C.CrqEnd.is_shared (g.C.CrqEnd.state c.loop-taken.crq.end) g.O.WindowPort.is_shared (g.O.WindowPort.state c.loop-taken.own)) (full c.slots-taken-end.ensures.size) c.loop-taken.invariant.handles
  where
    full : IsQueueSize c.slots-taken-end.result → 0 < c.loop-taken._taken
    full size = let some = size.some in omega (arith, some, c.loop-taken-test.false)
