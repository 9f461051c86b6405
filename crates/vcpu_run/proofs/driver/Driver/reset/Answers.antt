use Rattle.std.proofs.Common.{◌∙◌, ap, refl, rules, subst, true}
use Rattle.boot_text.specs.declared.verb.Verb.TheVariants as verbs
use Rattle.vscsi_client.specs.Turned.{unlinked}
use Rattle.vcpu_run.specs.Takings.{AgreesTaken, Gives}
use Rattle.vcpu_run.specs.Credited.{taken_in}
use Rattle.vcpu_run.proofs.Credits.{fresh_both, fresh_from}
use Rattle.vcpu_run.specs.declared.script.Progress.TheVariants as progress
use Rattle.crq_session.specs.EndState.{OnlyReserves}
use Rattle.vcpu_run.specs.Holding.{IsHeldOff, link_seen}
use Rattle.vcpu_run.proofs.Opening.{freed_open, moved_open, off_by, turns_by}
use Rattle.vcpu_run.specs.LinesShow.{seen_since}
use Rattle.vcpu_run.specs.Telling.{seated}
use Rattle.vcpu_run.proofs.LinesShown.{since_from, step_more}
use Rattle.vcpu_run.proofs.LoginSteps.{begins_freed}
use Rattle.vcpu_run.proofs.Working.{works_freed, works_on, works_ready, works_any}
use Rattle.vcpu_run.proofs.Elsewhere.{ok_then}
use Rattle.vcpu_run.proofs.Giving.{gives_freed, gives_on, gives_ready}
use Rattle.vcpu_run.proofs.AnswersCounted.{from_taken, none_taken, same_agrees}
use Rattle.vcpu_run.proofs.TakingCalls.{tags_still}
use Rattle.vcpu_run.proofs.EventsHeard.{hears_same}
use Rattle.vcpu_run.proofs.Giving.{step_hears_on}
use Rattle.vio_num.specs.Entry.{partner_freed}
use Rattle.std.proofs.Common.{◌+◌, ◌≤◌, arith}
use Rattle.vcpu_run.specs.EventsPut.{MakesNoEvent, events_of}
use Rattle.vcpu_run.proofs.Calming.{calm_on, calm_ready, calm_same, freed_once}
use Rattle.vcpu_run.proofs.CalmTurns.{frees_calm, frees_later, frees_one}
use Rattle.std.proofs.Common.{◌≡◌, ◌≢◌, false, sym, true≢false}
use Rattle.std.specs.Prelude.{Err}
use Rattle.crq_session.specs.Answered.{Frees}
use Rattle.crq_session.specs.EndState.{OnlyFrees}
use Rattle.vio_num.specs.declared.hypervisor.Moved.TheVariants.{Moved, Quiet}
use Rattle.vcpu_run.specs.EventsPut.{times_freed}
use Rattle.vcpu_run.specs.PlainSteps.{StepsPlainly, own_of}
use Rattle.vcpu_run.specs.declared.script.Progress.{Progress}
use Rattle.vcpu_run.proofs.PlainAside.{steps_err}
use Rattle.vcpu_run.proofs.PlainOpens.{reserves_on}
use Rattle.vcpu_run.proofs.PlainResets.{renews_steps, resets_plainly, resets_unregistered, unfreed}
use Rattle.vcpu_run.specs.Acts.{acting}
use Rattle.vcpu_run.proofs.ActsLines.{free_acts, frees_acts, renews_acts, used_acts}
use Rattle.vcpu_run.proofs.driver.Driver.reset.Goals as goal

pub returns-then-eq-clause-credit : goal.returns-then-eq-clause-credit
returns-then-eq-clause-credit g c =
    fresh_both verbs.Reset (taken_in c.args.progress.now) c.args.self.now.client c.login.new.self.client c.login.result refl (c.login.ensures.credit verbs.Reset)

pub returns-in-Parameter-clause-credit : goal.returns-in-Parameter-clause-credit
returns-in-Parameter-clause-credit g c =
    fresh_from verbs.Reset (taken_in c.args.progress.now) c.args.self.now.client c.login-in-Parameter.new.self.client c.login-in-Parameter.result refl
    (c.login-in-Parameter.ensures.credit verbs.Reset)

pub returns-in_err-reserve-clause-works : goal.returns-in_err-reserve-clause-works
returns-in_err-reserve-clause-works g c = works_ready _ _ _ _ _ _ c.args.self.now c.in_err-reserve.ensures.rest

pub returns-in-Success-clause-works : goal.returns-in-Success-clause-works
returns-in-Success-clause-works g c =
    works_on _ _ _ _ _ _ _ _ _ c.args.self.now c.args.self.now c.freed.new.self (works_ready _ _ _ _ _ _ c.args.self.now c.in_ok-reserve.ensures.rest)
    (works_freed _ _ _ _ _ c.args.self.now c.freed.new.self c.in-Success.ensures.success c.free.ensures.rest c.freed.ensures.unit (ap (λ rows. rows.items) c.freed.ensures.answers) c.freed.ensures.client)

pub returns-then-eq-clause-registered : goal.returns-then-eq-clause-registered
returns-then-eq-clause-registered g c = λ alone.
    freed_open verbs.Reset c.args.progress.now (IsHeldOff (link_seen (g.C.CrqEnd.state c.args.crq.now.end)))
    (g.C.CrqEnd.state c.login.new.crq.end).registered c.login.result (search rules) (c.login.ensures.registered alone)

pub returns-in-Parameter-clause-registered : goal.returns-in-Parameter-clause-registered
returns-in-Parameter-clause-registered g c = λ alone.
    let ready : OnlyReserves (g.C.CrqEnd.state c.args.crq.now.end) (g.C.CrqEnd.state c.reserve.new.self.end) = c.in_ok-reserve.ensures.rest in
    let still : OnlyReserves (g.C.CrqEnd.state c.reserve.new.self.end) (g.C.CrqEnd.state c.free.new.self.end) = c.in-Parameter.ensures.refused in
    freed_open verbs.Reset progress.Freed (IsHeldOff (link_seen (g.C.CrqEnd.state c.args.crq.now.end)))
    (g.C.CrqEnd.state c.login-in-Parameter.new.crq.end).registered c.login-in-Parameter.result refl
    (turns_by (IsHeldOff (link_seen (g.C.CrqEnd.state c.free.new.self.end))) (IsHeldOff (link_seen (g.C.CrqEnd.state c.args.crq.now.end)))
    (g.C.CrqEnd.state c.login-in-Parameter.new.crq.end).registered c.login-in-Parameter.result
    (λ off. off_by _ _ ready (off_by _ _ still off)) (c.login-in-Parameter.ensures.registered alone))

pub returns-in-Success-clause-registered : goal.returns-in-Success-clause-registered
returns-in-Success-clause-registered g c = λ alone reset.
    moved_open (IsHeldOff (link_seen (g.C.CrqEnd.state c.args.crq.now.end))) (g.C.CrqEnd.state c.free.new.self.end).registered

pub returns-then-eq-clause-takes : goal.returns-then-eq-clause-takes
returns-then-eq-clause-takes g c =
    none_taken verbs.Reset (taken_in c.args.progress.now) c.args.self.now c.login.new.self c.login.result refl c.login.ensures.retakes

pub returns-in-Parameter-clause-takes : goal.returns-in-Parameter-clause-takes
returns-in-Parameter-clause-takes g c =
    from_taken verbs.Reset (taken_in c.args.progress.now) c.args.self.now c.login-in-Parameter.new.self c.login-in-Parameter.result refl c.login-in-Parameter.ensures.retakes

pub returns-in-Success-clause-takes : goal.returns-in-Success-clause-takes
returns-in-Success-clause-takes g c = λ up_to. (
  refl,
  λ now agrees.
      same_agrees 0 now c.args.self.now c.freed.new.self
      (tags_still c.args.self.now c.freed.new.self (unlinked c.args.self.now.client) (ap (λ xs. xs.items) c.freed.ensures.answers) c.freed.ensures.client refl refl)
      (subst (λ n. AgreesTaken n now c.args.self.now) up_to agrees),
)

pub returns-in-Success-clause-gives : goal.returns-in-Success-clause-gives
returns-in-Success-clause-gives g c =
    gives_on c.args.self.now c.args.self.now c.freed.new.self (g.C.CrqEnd.state c.args.crq.now.end) (g.C.CrqEnd.state c.reserve.new.self.end) (g.C.CrqEnd.state c.free.new.self.end)
    (gives_ready c.args.self.now (g.C.CrqEnd.state c.args.crq.now.end) (g.C.CrqEnd.state c.reserve.new.self.end) c.in_ok-reserve.ensures.rest)
    (gives_freed g.C.CrqEnd.is_shared c.args.self.now c.freed.new.self (g.C.CrqEnd.state c.reserve.new.self.end) (g.C.CrqEnd.state c.free.new.self.end)
    c.in-Success.ensures.success c.free.ensures.rest c.freed.ensures.answers c.freed.ensures.client)

pub returns-in-Parameter-clause-told : goal.returns-in-Parameter-clause-told
returns-in-Parameter-clause-told g c =
    begins_freed (g.O.WindowPort.state c.args.own.now).place.size c.args.self.now.client c.args.progress.now (g.C.CrqEnd.state c.args.crq.now.end).registered
    (g.C.CrqEnd.state c.free.new.self.end).registered
    (seated c.login-in-Parameter.new.self.client progress.Freed (g.C.CrqEnd.state c.login-in-Parameter.new.crq.end).registered) c.login-in-Parameter.result
    (c.in-Parameter.ensures.refused.registered ∙ c.free.ensures.parameter.0 c.in-Parameter.is) c.login-in-Parameter.ensures.renewed

pub returns-in-Parameter-clause-gives : goal.returns-in-Parameter-clause-gives
returns-in-Parameter-clause-gives g c =
    ok_then c.login-in-Parameter.result
    (Gives c.args.self.now c.login-in-Parameter.new.self (g.C.CrqEnd.state c.free.new.self.end) (g.C.CrqEnd.state c.login-in-Parameter.new.crq.end)) _
    (λ given.
    gives_on c.args.self.now c.args.self.now c.login-in-Parameter.new.self (g.C.CrqEnd.state c.args.crq.now.end) (g.C.CrqEnd.state c.free.new.self.end) (g.C.CrqEnd.state c.login-in-Parameter.new.crq.end)
    (gives_on c.args.self.now c.args.self.now c.args.self.now (g.C.CrqEnd.state c.args.crq.now.end) (g.C.CrqEnd.state c.reserve.new.self.end) (g.C.CrqEnd.state c.free.new.self.end)
    (gives_ready c.args.self.now (g.C.CrqEnd.state c.args.crq.now.end) (g.C.CrqEnd.state c.reserve.new.self.end) c.in_ok-reserve.ensures.rest)
    (gives_ready c.args.self.now (g.C.CrqEnd.state c.reserve.new.self.end) (g.C.CrqEnd.state c.free.new.self.end) c.in-Parameter.ensures.refused)) given)
    c.login-in-Parameter.ensures.gives

pub returns-in-Parameter-clause-hears : goal.returns-in-Parameter-clause-hears
returns-in-Parameter-clause-hears g c =
    step_hears_on c.login-in-Parameter.result c.args.self.now c.args.self.now c.login-in-Parameter.new.self.client
    (g.C.CrqEnd.state c.args.crq.now.end) (g.C.CrqEnd.state c.free.new.self.end) (g.C.CrqEnd.state c.login-in-Parameter.new.crq.end)
    (gives_on c.args.self.now c.args.self.now c.args.self.now (g.C.CrqEnd.state c.args.crq.now.end) (g.C.CrqEnd.state c.reserve.new.self.end) (g.C.CrqEnd.state c.free.new.self.end)
    (gives_ready c.args.self.now (g.C.CrqEnd.state c.args.crq.now.end) (g.C.CrqEnd.state c.reserve.new.self.end) c.in_ok-reserve.ensures.rest)
    (gives_ready c.args.self.now (g.C.CrqEnd.state c.reserve.new.self.end) (g.C.CrqEnd.state c.free.new.self.end) c.in-Parameter.ensures.refused)) c.login-in-Parameter.ensures.hears

pub returns-in-Success-clause-hears : goal.returns-in-Success-clause-hears
returns-in-Success-clause-hears g c =
    let gives = gives_on c.args.self.now c.args.self.now c.freed.new.self (g.C.CrqEnd.state c.args.crq.now.end) (g.C.CrqEnd.state c.reserve.new.self.end) (g.C.CrqEnd.state c.free.new.self.end)
    (gives_ready c.args.self.now (g.C.CrqEnd.state c.args.crq.now.end) (g.C.CrqEnd.state c.reserve.new.self.end) c.in_ok-reserve.ensures.rest)
    (gives_freed g.C.CrqEnd.is_shared c.args.self.now c.freed.new.self (g.C.CrqEnd.state c.reserve.new.self.end) (g.C.CrqEnd.state c.free.new.self.end)
    c.in-Success.ensures.success c.free.ensures.rest c.freed.ensures.answers c.freed.ensures.client) in
    gives.heard

pub returns-in-Busy-clause-hears : goal.returns-in-Busy-clause-hears
returns-in-Busy-clause-hears g c =
    hears_same c.args.self.now.client c.args.self.now.client (g.C.CrqEnd.state c.args.crq.now.end) (g.C.CrqEnd.state c.free.new.self.end) refl refl
    (c.free.ensures.rest.taken ∙ c.in_ok-reserve.ensures.rest.taken)

pub returns-in-Parameter-clause-shows : goal.returns-in-Parameter-clause-shows
returns-in-Parameter-clause-shows g c = λ has unit mark verb no_request no_bytes no_read logs.
    step_more
    (seen_since g.C.CrqEnd.is_shared (g.O.WindowPort.state c.login-in-Parameter.new.own) (g.C.CrqEnd.state c.free.new.self.end) (g.C.CrqEnd.state c.login-in-Parameter.new.crq.end))
    (seen_since g.C.CrqEnd.is_shared (g.O.WindowPort.state c.login-in-Parameter.new.own) (g.C.CrqEnd.state c.args.crq.now.end) (g.C.CrqEnd.state c.login-in-Parameter.new.crq.end))
    (since_from g.C.CrqEnd.is_shared (g.O.WindowPort.state c.login-in-Parameter.new.own) (g.C.CrqEnd.state c.args.crq.now.end) (g.C.CrqEnd.state c.free.new.self.end)
    (g.C.CrqEnd.state c.login-in-Parameter.new.crq.end) (c.in-Parameter.ensures.refused.sent ∙ c.in_ok-reserve.ensures.rest.sent))
    unit mark verb c.login-in-Parameter.result (c.login-in-Parameter.ensures.shows has unit mark verb no_request no_bytes no_read logs)

pub returns-then-eq-clause-frees : goal.returns-then-eq-clause-frees
returns-then-eq-clause-frees g c = frees_calm c.args.progress.now (g.C.CrqEnd.state c.args.crq.now.end) (g.C.CrqEnd.state c.login.new.crq.end) (c.login.ensures.works.calm refl)

pub returns-in_err-reserve-clause-frees : goal.returns-in_err-reserve-clause-frees
returns-in_err-reserve-clause-frees g c = frees_calm c.args.progress.now (g.C.CrqEnd.state c.args.crq.now.end) (g.C.CrqEnd.state c.reserve.new.self.end) (calm_ready (g.C.CrqEnd.state c.args.crq.now.end) (g.C.CrqEnd.state c.reserve.new.self.end) c.in_err-reserve.ensures.rest)

pub returns-in-Success-clause-frees : goal.returns-in-Success-clause-frees
returns-in-Success-clause-frees g c =
    let calm : MakesNoEvent (g.C.CrqEnd.state c.args.crq.now.end) (g.C.CrqEnd.state c.reserve.new.self.end) = calm_ready (g.C.CrqEnd.state c.args.crq.now.end) (g.C.CrqEnd.state c.reserve.new.self.end) c.in_ok-reserve.ensures.rest in
    let one : events_of (g.C.CrqEnd.state c.free.new.self.end) ≤ events_of (g.C.CrqEnd.state c.reserve.new.self.end) + 1 = freed_once g.C.CrqEnd.is_shared (g.C.CrqEnd.state c.reserve.new.self.end) (g.C.CrqEnd.state c.free.new.self.end) partner_freed c.in-Success.ensures.success in
    frees_one c.args.progress.now (g.C.CrqEnd.state c.args.crq.now.end) (g.C.CrqEnd.state c.free.new.self.end) (search rules) (omega (arith, calm, one))

pub returns-in-Parameter-clause-frees : goal.returns-in-Parameter-clause-frees
returns-in-Parameter-clause-frees g c =
    frees_later c.args.progress.now (g.C.CrqEnd.state c.args.crq.now.end) (g.C.CrqEnd.state c.login-in-Parameter.new.crq.end)
    (calm_on (g.C.CrqEnd.state c.args.crq.now.end) (g.C.CrqEnd.state c.free.new.self.end) (g.C.CrqEnd.state c.login-in-Parameter.new.crq.end)
    (calm_on (g.C.CrqEnd.state c.args.crq.now.end) (g.C.CrqEnd.state c.reserve.new.self.end) (g.C.CrqEnd.state c.free.new.self.end) (calm_ready (g.C.CrqEnd.state c.args.crq.now.end) (g.C.CrqEnd.state c.reserve.new.self.end) c.in_ok-reserve.ensures.rest) (calm_ready (g.C.CrqEnd.state c.reserve.new.self.end) (g.C.CrqEnd.state c.free.new.self.end) c.in-Parameter.ensures.refused))
    (c.login-in-Parameter.ensures.works.calm refl))

pub returns-in-Busy-clause-frees : goal.returns-in-Busy-clause-frees
returns-in-Busy-clause-frees g c =
    frees_calm c.args.progress.now (g.C.CrqEnd.state c.args.crq.now.end) (g.C.CrqEnd.state c.free.new.self.end)
    (calm_on (g.C.CrqEnd.state c.args.crq.now.end) (g.C.CrqEnd.state c.reserve.new.self.end) (g.C.CrqEnd.state c.free.new.self.end) (calm_ready (g.C.CrqEnd.state c.args.crq.now.end) (g.C.CrqEnd.state c.reserve.new.self.end) c.in_ok-reserve.ensures.rest) (calm_same (g.C.CrqEnd.state c.reserve.new.self.end) (g.C.CrqEnd.state c.free.new.self.end) c.in-Busy.ensures.busy.none.sent c.in-Busy.ensures.busy.kept))

pub returns-in-Parameter-clause-works : goal.returns-in-Parameter-clause-works
returns-in-Parameter-clause-works g c =
    let turned = c.login-in-Parameter.ensures.works in
    works_on _ _ _ _ _ _ _ _ _ c.args.self.now c.args.self.now c.login-in-Parameter.new.self
    (works_on _ _ _ _ _ _ _ _ _ c.args.self.now c.args.self.now c.args.self.now
    (works_ready true g.C.CrqEnd.is_shared g.O.WindowPort.is_shared _ _ _ c.args.self.now c.in_ok-reserve.ensures.rest)
    (works_ready true g.C.CrqEnd.is_shared g.O.WindowPort.is_shared _ _ _ c.args.self.now c.in-Parameter.ensures.refused))
    (works_any true _ _ _ _ _ _ _ _ turned)

pub returns-then-eq-clause-plainly : goal.returns-then-eq-clause-plainly
returns-then-eq-clause-plainly g c = λ crq_alone own_alone.
    let old = own_of c.args.self.now (g.C.CrqEnd.state c.args.crq.now.end) (g.O.WindowPort.state c.args.own.now) in
    let new = own_of c.login.new.self (g.C.CrqEnd.state c.login.new.crq.end) (g.O.WindowPort.state c.login.new.own) in
    let freed : c.args.progress.now ≡ progress.Freed = search rules in
    subst (λ (p : Progress). StepsPlainly verbs.Reset p p old new c.login.result) (sym freed) (renews_steps old new c.login.result (c.login.ensures.plainly crq_alone own_alone))

pub returns-in_err-reserve-clause-plainly : goal.returns-in_err-reserve-clause-plainly
returns-in_err-reserve-clause-plainly g c = λ crq_alone own_alone.
    let same : c.from_residual.result ≡ Err c.in_err-reserve.field-0.0 = search rules in
    steps_err verbs.Reset c.args.progress.now c.args.progress.now (own_of c.args.self.now (g.C.CrqEnd.state c.args.crq.now.end) (g.O.WindowPort.state c.args.own.now))
    (own_of c.args.self.now (g.C.CrqEnd.state c.reserve.new.self.end) (g.O.WindowPort.state c.args.own.now)) c.from_residual.result c.in_err-reserve.field-0.0 same

pub returns-in-Success-clause-plainly : goal.returns-in-Success-clause-plainly
returns-in-Success-clause-plainly g c = λ crq_alone own_alone.
    let room = g.C.CrqEnd.state c.reserve.new.self.end in
    let end = g.C.CrqEnd.state c.free.new.self.end in
    resets_plainly c.args.progress.now (own_of c.args.self.now (g.C.CrqEnd.state c.args.crq.now.end) (g.O.WindowPort.state c.args.own.now))
    (own_of c.freed.new.self end (g.O.WindowPort.state c.args.own.now)) room Moved (unfreed c.args.progress.now (search rules)) c.in_ok-reserve.ensures.rest
    (subst (λ shared. Frees shared room partner_freed end) crq_alone c.in-Success.ensures.success) (subst (λ shared. OnlyFrees shared room end) crq_alone c.free.ensures.rest)
    c.freed.ensures.client (ap (λ answers. answers.items) c.freed.ensures.answers) refl

pub returns-in-Parameter-clause-plainly : goal.returns-in-Parameter-clause-plainly
returns-in-Parameter-clause-plainly g c = λ crq_alone own_alone.
    let first = g.C.CrqEnd.state c.args.crq.now.end in
    let room = g.C.CrqEnd.state c.reserve.new.self.end in
    let end = g.C.CrqEnd.state c.free.new.self.end in
    resets_unregistered c.args.progress.now (own_of c.args.self.now first (g.O.WindowPort.state c.args.own.now))
    (own_of c.login-in-Parameter.new.self (g.C.CrqEnd.state c.login-in-Parameter.new.crq.end) (g.O.WindowPort.state c.login-in-Parameter.new.own)) end
    c.login-in-Parameter.result (unfreed c.args.progress.now (search rules)) (sym c.in_ok-reserve.ensures.rest.registered ∙ c.free.ensures.parameter.0 c.in-Parameter.is)
    (reserves_on first room end c.in_ok-reserve.ensures.rest c.in-Parameter.ensures.refused) (c.login-in-Parameter.ensures.plainly crq_alone own_alone)

pub returns-in-Busy-clause-plainly : goal.returns-in-Busy-clause-plainly
returns-in-Busy-clause-plainly g c = λ crq_alone own_alone. absurd (true≢false (sym c.in-Busy.ensures.busy.shared_end ∙ crq_alone))

pub returns-then-eq-clause-acts : goal.returns-then-eq-clause-acts
returns-then-eq-clause-acts g c =
    renews_acts c.args.line c.args.progress.now (acting c.args.self.now g.C.CrqEnd.is_shared (g.C.CrqEnd.state c.args.crq.now.end) g.O.WindowPort.is_shared (g.O.WindowPort.state c.args.own.now))
    (acting c.login.new.self g.C.CrqEnd.is_shared (g.C.CrqEnd.state c.login.new.crq.end) g.O.WindowPort.is_shared (g.O.WindowPort.state c.login.new.own)) c.login.result (search rules) c.login.ensures.acts

pub returns-in-Success-clause-acts : goal.returns-in-Success-clause-acts
returns-in-Success-clause-acts g c =
    frees_acts c.args.line c.args.progress.now (acting c.args.self.now g.C.CrqEnd.is_shared (g.C.CrqEnd.state c.args.crq.now.end) g.O.WindowPort.is_shared (g.O.WindowPort.state c.args.own.now))
    (acting c.freed.new.self g.C.CrqEnd.is_shared (g.C.CrqEnd.state c.free.new.self.end) g.O.WindowPort.is_shared (g.O.WindowPort.state c.args.own.now)) (g.C.CrqEnd.state c.reserve.new.self.end) (unfreed c.args.progress.now (search rules))
    c.in_ok-reserve.ensures.rest c.in-Success.ensures.success c.free.ensures.rest refl c.freed.ensures.client (ap (λ answers. answers.items) c.freed.ensures.answers)

pub returns-in-Parameter-clause-acts : goal.returns-in-Parameter-clause-acts
returns-in-Parameter-clause-acts g c =
    let first = g.C.CrqEnd.state c.args.crq.now.end in
    let room = g.C.CrqEnd.state c.reserve.new.self.end in
    let end = g.C.CrqEnd.state c.free.new.self.end in
    free_acts c.args.line c.args.progress.now (acting c.args.self.now g.C.CrqEnd.is_shared (g.C.CrqEnd.state c.args.crq.now.end) g.O.WindowPort.is_shared (g.O.WindowPort.state c.args.own.now))
    (acting c.login-in-Parameter.new.self g.C.CrqEnd.is_shared (g.C.CrqEnd.state c.login-in-Parameter.new.crq.end) g.O.WindowPort.is_shared (g.O.WindowPort.state c.login-in-Parameter.new.own)) end c.login-in-Parameter.result
    (unfreed c.args.progress.now (search rules)) (reserves_on first room end c.in_ok-reserve.ensures.rest c.in-Parameter.ensures.refused)
    (c.in-Parameter.ensures.refused.registered ∙ c.free.ensures.parameter.0 c.in-Parameter.is) c.login-in-Parameter.ensures.acts

pub returns-in-Busy-clause-acts : goal.returns-in-Busy-clause-acts
returns-in-Busy-clause-acts g c =
    used_acts c.args.line c.args.progress.now (acting c.args.self.now g.C.CrqEnd.is_shared (g.C.CrqEnd.state c.args.crq.now.end) g.O.WindowPort.is_shared (g.O.WindowPort.state c.args.own.now))
    (acting c.args.self.now g.C.CrqEnd.is_shared (g.C.CrqEnd.state c.free.new.self.end) g.O.WindowPort.is_shared (g.O.WindowPort.state c.args.own.now)) (g.C.CrqEnd.state c.reserve.new.self.end) _ Quiet (unfreed c.args.progress.now (search rules))
    c.in_ok-reserve.ensures.rest c.in-Busy.ensures.busy c.free.ensures.rest refl refl refl
