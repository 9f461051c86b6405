use Rattle.std.proofs.Common.{rules, ◌≡◌, ◌∙◌, ◌∷◌, [], false, IfOk, OnOk, Some, ap, refl, subst, sym}
use Rattle.crq_session.specs.EndState.{EndPlace}
use Rattle.crq_session.specs.declared.link.PlainLink.{PlainLink}
use Rattle.vcpu_run.specs.declared.pair.Pair.{Pair}
use Rattle.vcpu_run.specs.TakenScripts.{PairGives}
use Rattle.vcpu_run.proofs.GivesAll.{pair_gives_ok}
use Rattle.vcpu_run.specs.EventsMade.{PairCalm}
use Rattle.vcpu_run.proofs.CalmTurns.{calm_link}
use Rattle.vcpu_run.specs.Pairs.{Drives}
use Rattle.vcpu_run.proofs.StepDrives.{step_drives}
use Rattle.crq_session.specs.PlainState.{end_of, side_of}
use Rattle.vcpu_run.proofs.FailedShut.{queue_link}
use Rattle.vcpu_run.proofs.ClientsLay.{lays_none}
use Rattle.vcpu_run.specs.PlainScripts.{PairRestsPlainly}
use Rattle.vcpu_run.specs.PlainTalk.{TookNoMore}
use Rattle.vcpu_run.proofs.PlainSeated.{pair_rests}
use Rattle.vcpu_run.specs.Acts.{TakesRest}
use Rattle.vcpu_run.specs.ActsAt.{AtPair}
use Rattle.vcpu_run.proofs.ActsSeats.{at_pair_ok}
use Rattle.vcpu_run.specs.Moves.{PairHandlesBy}
use Rattle.vcpu_run.proofs.Handling.{pair_handles}
use Rattle.vcpu_run.proofs.seat.take_rest.Goals as goal

pub returns-clause-gives : goal.returns-clause-gives
returns-clause-gives c =
    let old = c.args.pair.now in
    let end = c.take_rest-moved.new.crq.end in
    let lent = c.side.result.link in
    let pair : PlainLink → Pair = λ link. record { server = old.server; link = link; own = old.own; window = c.take_rest-moved.new.own; driver = Some c.take_rest-moved.new.self } in
    let link_is : end.link.now ≡ c.pair-2-1.given.0 = search rules in
    subst (λ (link : PlainLink). OnOk c.take_rest-moved.result (PairGives old (pair link))) link_is
    (pair_gives_ok c.take_rest-moved.result old (pair end.link.now) c.in-Some.driver c.take_rest-moved.new.self c.side.result.first end.first (lent.ghost_name ∷ []) (end.link.ghost_name ∷ []) lent.now
    c.in-Some.is refl c.side.ensures.link c.side.ensures.first (ap (λ (p : EndPlace). p.first) c.take_rest-moved.ensures.works.place ∙ c.side.ensures.first) c.take_rest-moved.ensures.gives)

pub returns-clause-calm : goal.returns-clause-calm
returns-clause-calm c =
    let old = c.args.pair.now in
    let end = c.take_rest-moved.new.crq.end in
    let lent = c.side.result.link in
    let pair : PlainLink → Pair = λ link. record { server = old.server; link = link; own = old.own; window = c.take_rest-moved.new.own; driver = Some c.take_rest-moved.new.self } in
    let link_is : end.link.now ≡ c.pair-2-1.given.0 = search rules in
    subst (λ (link : PlainLink). PairCalm old (pair link)) link_is
    (calm_link c.side.result.first end.first (lent.ghost_name ∷ []) (end.link.ghost_name ∷ []) lent.now old.link end.link.now
    c.side.ensures.link c.side.ensures.first (ap (λ (p : EndPlace). p.first) c.take_rest-moved.ensures.works.place ∙ c.side.ensures.first) (c.take_rest-moved.ensures.works.calm refl))

pub returns-clause-drives : goal.returns-clause-drives
returns-clause-drives c =
    let old = c.args.pair.now in
    let end = c.take_rest-moved.new.crq.end in
    let lent = c.side.result.link in
    let pair : PlainLink → Pair = λ link. record { server = old.server; link = link; own = old.own; window = c.take_rest-moved.new.own; driver = Some c.take_rest-moved.new.self } in
    let link_is : end.link.now ≡ c.pair-2-1.given.0 = search rules in
    subst (λ (link : PlainLink). Drives old (pair link)) link_is
    (step_drives _ c.side.result.first end.first (lent.ghost_name ∷ []) (end.link.ghost_name ∷ []) old c.in-Some.driver c.take_rest-moved.new.self lent.now end.link.now c.take_rest-moved.new.own
    c.in-Some.is c.side.ensures.link c.side.ensures.first c.take_rest-moved.ensures.works)

pub returns-clause-lays : goal.returns-clause-lays
returns-clause-lays c =
    lays_none c.args.pair.now _ c.take_rest-moved.ensures.works.window.place c.take_rest-moved.ensures.works.lays

pub returns-clause-queue : goal.returns-clause-queue
returns-clause-queue c =
    let old = c.args.pair.now in
    let end = c.take_rest-moved.new.crq.end in
    let lent = c.side.result.link in
    let link_is : end.link.now ≡ c.pair-2-1.given.0 = search rules in
    subst (λ (link : PlainLink). (side_of link false).registered ≡ (side_of old.link false).registered) link_is
    (queue_link c.side.result.first end.first (lent.ghost_name ∷ []) (end.link.ghost_name ∷ []) lent.now old.link end.link.now
    c.side.ensures.link c.side.ensures.first (ap (λ (p : EndPlace). p.first) c.take_rest-moved.ensures.works.place ∙ c.side.ensures.first) c.take_rest-moved.ensures.queue)

pub returns-clause-plainly : goal.returns-clause-plainly
returns-clause-plainly c =
    let old = c.args.pair.now in
    let end = c.take_rest-moved.new.crq.end in
    let lent = c.side.result.link in
    let pair : PlainLink → Pair = λ link. record { server = old.server; link = link; own = old.own; window = c.take_rest-moved.new.own; driver = Some c.take_rest-moved.new.self } in
    let link_is : end.link.now ≡ c.pair-2-1.given.0 = search rules in
    let drives : Drives old (pair end.link.now) =
    step_drives _ c.side.result.first end.first (lent.ghost_name ∷ []) (end.link.ghost_name ∷ []) old c.in-Some.driver c.take_rest-moved.new.self lent.now end.link.now c.take_rest-moved.new.own
    c.in-Some.is c.side.ensures.link c.side.ensures.first c.take_rest-moved.ensures.works in
    subst (λ (link : PlainLink). OnOk c.take_rest-moved.result (PairRestsPlainly old (pair link))) link_is
    (pair_rests c.side.result.first end.first (lent.ghost_name ∷ []) (end.link.ghost_name ∷ []) lent.now old (pair end.link.now) c.in-Some.driver c.take_rest-moved.new.self
    c.take_rest-moved.result c.in-Some.is refl c.side.ensures.link c.side.ensures.first (ap (λ (p : EndPlace). p.first) c.take_rest-moved.ensures.works.place ∙ c.side.ensures.first) drives
    (subst (λ (link : PlainLink). TookNoMore (end_of [] link false)) (sym link_is) c.took_no_more.ensures) (c.take_rest-moved.ensures.plainly refl refl) c.take_rest-moved.ensures.values)

pub returns-clause-acts : goal.returns-clause-acts
returns-clause-acts c =
    let old = c.args.pair.now in
    let end = c.take_rest-moved.new.crq.end in
    let lent = c.side.result.link in
    let pair : PlainLink → Pair = λ link. record { server = old.server; link = link; own = old.own; window = c.take_rest-moved.new.own; driver = Some c.take_rest-moved.new.self } in
    let link_is : end.link.now ≡ c.pair-2-1.given.0 = search rules in
    subst (λ (link : PlainLink). OnOk c.take_rest-moved.result (AtPair TakesRest old (pair link))) link_is
    (at_pair_ok TakesRest c.take_rest-moved.result c.side.result.first end.first (lent.ghost_name ∷ []) (end.link.ghost_name ∷ []) lent.now old (pair end.link.now) c.in-Some.driver c.take_rest-moved.new.self
    c.in-Some.is refl c.side.ensures.link c.side.ensures.first (ap (λ (p : EndPlace). p.first) c.take_rest-moved.ensures.works.place ∙ c.side.ensures.first)
    (ap (λ (p : EndPlace). p.lenders) c.take_rest-moved.ensures.works.place) c.take_rest-moved.ensures.acts)

pub returns-clause-moved : goal.returns-clause-moved
returns-clause-moved c =
    let old = c.args.pair.now in
    let end = c.take_rest-moved.new.crq.end in
    let lent = c.side.result.link in
    let pair : PlainLink → Pair = λ link. record { server = old.server; link = link; own = old.own; window = c.take_rest-moved.new.own; driver = Some c.take_rest-moved.new.self } in
    let link_is : end.link.now ≡ c.pair-2-1.given.0 = search rules in
    subst (λ (link : PlainLink). IfOk c.take_rest-moved.result (λ moved. PairHandlesBy moved old (pair link))) link_is
    (pair_handles c.take_rest-moved.result c.side.result.first end.first (lent.ghost_name ∷ []) (end.link.ghost_name ∷ []) lent.now old (pair end.link.now) c.in-Some.driver c.take_rest-moved.new.self
    c.in-Some.is refl c.side.ensures.link c.side.ensures.first (ap (λ (p : EndPlace). p.first) c.take_rest-moved.ensures.works.place ∙ c.side.ensures.first)
    c.take_rest-moved.ensures.moved)
