use Rattle.std.proofs.Common.{rules, ◌≡◌, ◌∙◌, ◌∷◌, [], false, IfOk, OnOk, Some, ap, refl, subst}
use Rattle.crq_session.specs.EndState.{EndPlace}
use Rattle.crq_session.specs.declared.link.PlainLink.{PlainLink}
use Rattle.tce_window.specs.PortState.{PortPlace}
use Rattle.vcpu_run.specs.declared.pair.Pair.{Pair}
use Rattle.vcpu_run.specs.DropsShown.{PairShowsLine}
use Rattle.vcpu_run.proofs.DropsKept.{pair_full}
use Rattle.vcpu_run.proofs.ShutKept.{pair_shut}
use Rattle.vcpu_run.proofs.LinesShown.{pair_shows}
use Rattle.vcpu_run.specs.TakenScripts.{PairGives, PairHears, PairReads}
use Rattle.vcpu_run.proofs.DataSteps.{pair_reads}
use Rattle.vcpu_run.proofs.GivesAll.{pair_gives_ok, pair_hears}
use Rattle.vcpu_run.specs.EventsMade.{PairMakes}
use Rattle.vcpu_run.specs.Freeing.{is_reset}
use Rattle.vcpu_run.proofs.CalmTurns.{makes_link}
use Rattle.vcpu_run.specs.Pairs.{Drives}
use Rattle.vcpu_run.proofs.StepDrives.{step_drives}
use Rattle.vcpu_run.proofs.ClientsLay.{lays_marked}
use Rattle.vcpu_run.specs.PlainSeated.{DriverPlainly}
use Rattle.vcpu_run.proofs.PlainSeated.{driver_plainly}
use Rattle.vcpu_run.specs.ActsAt.{PairActs}
use Rattle.vcpu_run.proofs.ActsSeats.{drive_acts}
use Rattle.vcpu_run.proofs.seat.drive.Goals as goal

pub returns-clause-shows : goal.returns-clause-shows
returns-clause-shows c =
    let old = c.args.pair.now in
    let end = c.step.new.crq.end in
    let lent = c.side.result.link in
    let pair : PlainLink → Pair = λ link. record { server = old.server; link = link; own = old.own; window = c.step.new.own; driver = Some c.step.new.self } in
    let link_is : end.link.now ≡ c.pair-2-1.given.0 = search rules in
    let side : end.first ≡ false = ap (λ (p : EndPlace). p.first) c.step.ensures.works.place ∙ c.side.ensures.first in
    subst (λ (link : PlainLink). PairShowsLine c.args.line.now old (pair link) c.step.result) link_is (
      pair_shows old (pair end.link.now) (lent.ghost_name ∷ []) (end.link.ghost_name ∷ []) c.side.result.first end.first lent.now old.window.unit c.args.line.now c.step.result
          c.side.ensures.link c.side.ensures.first side (ap (λ (p : PortPlace). p.unit) c.step.ensures.works.window.place) c.step.ensures.shows,
      pair_full (pair end.link.now) (end.link.ghost_name ∷ []) end.first c.step.result side c.step.ensures.full,
      pair_shut old (pair end.link.now) c.in-Some.driver (lent.ghost_name ∷ []) (end.link.ghost_name ∷ []) c.side.result.first end.first lent.now c.args.line.now.verb c.step.result
          c.in-Some.is c.side.ensures.link c.side.ensures.first side c.step.ensures.shut,
    )

pub returns-clause-gives : goal.returns-clause-gives
returns-clause-gives c =
    let old = c.args.pair.now in
    let end = c.step.new.crq.end in
    let lent = c.side.result.link in
    let pair : PlainLink → Pair = λ link. record { server = old.server; link = link; own = old.own; window = c.step.new.own; driver = Some c.step.new.self } in
    let link_is : end.link.now ≡ c.pair-2-1.given.0 = search rules in
    subst (λ (link : PlainLink). OnOk c.step.result (PairGives old (pair link))) link_is
    (pair_gives_ok c.step.result old (pair end.link.now) c.in-Some.driver c.step.new.self c.side.result.first end.first (lent.ghost_name ∷ []) (end.link.ghost_name ∷ []) lent.now
    c.in-Some.is refl c.side.ensures.link c.side.ensures.first (ap (λ (p : EndPlace). p.first) c.step.ensures.works.place ∙ c.side.ensures.first) c.step.ensures.gives)

pub returns-clause-hears : goal.returns-clause-hears
returns-clause-hears c =
    let old = c.args.pair.now in
    let end = c.step.new.crq.end in
    let lent = c.side.result.link in
    let pair : PlainLink → Pair = λ link. record { server = old.server; link = link; own = old.own; window = c.step.new.own; driver = Some c.step.new.self } in
    let link_is : end.link.now ≡ c.pair-2-1.given.0 = search rules in
    subst (λ (link : PlainLink). PairHears old (pair link) c.step.result) link_is
    (pair_hears c.step.result old (pair end.link.now) c.in-Some.driver c.step.new.self c.side.result.first end.first (lent.ghost_name ∷ []) (end.link.ghost_name ∷ []) lent.now
    c.in-Some.is refl c.side.ensures.link c.side.ensures.first (ap (λ (p : EndPlace). p.first) c.step.ensures.works.place ∙ c.side.ensures.first) c.step.ensures.hears)

pub returns-clause-reads : goal.returns-clause-reads
returns-clause-reads c =
    let old = c.args.pair.now in
    let end = c.step.new.crq.end in
    let pair : PlainLink → Pair = λ link. record { server = old.server; link = link; own = old.own; window = c.step.new.own; driver = Some c.step.new.self } in
    let link_is : end.link.now ≡ c.pair-2-1.given.0 = search rules in
    subst (λ (link : PlainLink). PairReads c.args.line.now.verb old (pair link) c.step.result) link_is
    (pair_reads c.step.result old (pair end.link.now) c.in-Some.driver c.step.new.self end.first (end.link.ghost_name ∷ []) c.args.line.now.verb
    c.in-Some.is refl (ap (λ (p : EndPlace). p.first) c.step.ensures.works.place ∙ c.side.ensures.first) (c.step.ensures.reads refl) c.step.ensures.inward)

pub returns-clause-makes : goal.returns-clause-makes
returns-clause-makes c =
    let old = c.args.pair.now in
    let end = c.step.new.crq.end in
    let lent = c.side.result.link in
    let pair : PlainLink → Pair = λ link. record { server = old.server; link = link; own = old.own; window = c.step.new.own; driver = Some c.step.new.self } in
    let link_is : end.link.now ≡ c.pair-2-1.given.0 = search rules in
    subst (λ (link : PlainLink). PairMakes c.args.line.now.verb c.args.progress.now c.step.new.progress old (pair link)) link_is
    (makes_link (is_reset c.args.line.now.verb) c.side.result.first end.first (lent.ghost_name ∷ []) (end.link.ghost_name ∷ []) c.args.progress.now c.step.new.progress
    lent.now old.link end.link.now c.side.ensures.link c.side.ensures.first (ap (λ (p : EndPlace). p.first) c.step.ensures.works.place ∙ c.side.ensures.first) c.step.ensures.frees)

pub returns-clause-drives : goal.returns-clause-drives
returns-clause-drives c =
    let old = c.args.pair.now in
    let end = c.step.new.crq.end in
    let lent = c.side.result.link in
    let pair : PlainLink → Pair = λ link. record { server = old.server; link = link; own = old.own; window = c.step.new.own; driver = Some c.step.new.self } in
    let link_is : end.link.now ≡ c.pair-2-1.given.0 = search rules in
    subst (λ (link : PlainLink). Drives old (pair link)) link_is
    (step_drives _ c.side.result.first end.first (lent.ghost_name ∷ []) (end.link.ghost_name ∷ []) old c.in-Some.driver c.step.new.self lent.now end.link.now c.step.new.own
    c.in-Some.is c.side.ensures.link c.side.ensures.first c.step.ensures.works)

pub returns-clause-lays : goal.returns-clause-lays
returns-clause-lays c =
    lays_marked c.args.line.now.number c.args.pair.now _ c.step.ensures.works.window.place c.step.ensures.works.lays

pub returns-clause-region : goal.returns-clause-region
returns-clause-region c = c.step.ensures.region

pub returns-clause-plainly : goal.returns-clause-plainly
returns-clause-plainly c =
    let old = c.args.pair.now in
    let end = c.step.new.crq.end in
    let lent = c.side.result.link in
    let pair : PlainLink → Pair = λ link. record { server = old.server; link = link; own = old.own; window = c.step.new.own; driver = Some c.step.new.self } in
    let link_is : end.link.now ≡ c.pair-2-1.given.0 = search rules in
    subst (λ (link : PlainLink). DriverPlainly c.args.line.now.verb c.args.progress.now c.step.new.progress old (pair link) c.step.result) link_is
    (driver_plainly c.side.result.first end.first (lent.ghost_name ∷ []) (end.link.ghost_name ∷ []) lent.now old (pair end.link.now) c.in-Some.driver c.step.new.self
    c.args.line.now.verb c.args.progress.now c.step.new.progress c.step.result c.in-Some.is refl c.side.ensures.link c.side.ensures.first
    (ap (λ (p : EndPlace). p.first) c.step.ensures.works.place ∙ c.side.ensures.first) (c.step.ensures.plainly refl refl))

pub returns-clause-acts : goal.returns-clause-acts
returns-clause-acts c =
    let old = c.args.pair.now in
    let end = c.step.new.crq.end in
    let lent = c.side.result.link in
    let pair : PlainLink → Pair = λ link. record { server = old.server; link = link; own = old.own; window = c.step.new.own; driver = Some c.step.new.self } in
    let link_is : end.link.now ≡ c.pair-2-1.given.0 = search rules in
    subst (λ (link : PlainLink). IfOk c.step.result (PairActs c.args.line.now c.args.progress.now c.step.new.progress old (pair link))) link_is
    (drive_acts c.side.result.first end.first (lent.ghost_name ∷ []) (end.link.ghost_name ∷ []) lent.now old (pair end.link.now) c.in-Some.driver c.step.new.self
    c.args.line.now c.args.progress.now c.step.new.progress c.step.result c.in-Some.is refl c.side.ensures.link c.side.ensures.first
    (ap (λ (p : EndPlace). p.first) c.step.ensures.works.place ∙ c.side.ensures.first) (ap (λ (p : EndPlace). p.lenders) c.step.ensures.works.place) c.step.ensures.acts)
