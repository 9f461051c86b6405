use Rattle.std.proofs.Common.{◌≡◌, refl, rules}
use Rattle.std.specs.Prelude.{Err}
use Rattle.boot_text.specs.declared.verb.Verb.TheVariants as verbs
use Rattle.vscsi_client.specs.Ports.{ports}
use Rattle.vscsi_client.specs.Turned.{site}
use Rattle.vcpu_run.proofs.LoginSteps.{login_out, login_told, reset_told, stays_open}
use Rattle.vcpu_run.proofs.Credits.{turn_agreed}
use Rattle.vcpu_run.proofs.Giving.{turn_gives}
use Rattle.vcpu_run.specs.LinesShow.{PutsOne}
use Rattle.vcpu_run.proofs.FurtherShown.{login_shows}
use Rattle.vcpu_run.proofs.Opening.{turn_open}
use Rattle.vcpu_run.proofs.Working.{turn_works}
use Rattle.vcpu_run.proofs.TakingTurns.{tags_runs, turned_taken}
use Rattle.vcpu_run.proofs.EventsHeard.{turned_hears}
use Rattle.vcpu_run.specs.DropsShown.{IsFullBy}
use Rattle.vcpu_run.proofs.DropsShown.{turned_full}
use Rattle.vcpu_run.specs.PlainSteps.{own_by, own_of}
use Rattle.vcpu_run.proofs.PlainLogsIn.{logs_err, logs_in_plainly}
use Rattle.vcpu_run.proofs.driver.Driver.login.Goals as goal

pub returns-in_err-turn-clause-works : goal.returns-in_err-turn-clause-works
returns-in_err-turn-clause-works g c =
    turn_works g.C.CrqEnd.is_shared g.O.WindowPort.is_shared _ _ _ _ c.args.self.now _ c.args.line c.login_turn.result refl refl
    c.login_turn.ensures.turned c.login_turn.ensures.crq_rest c.login_turn.ensures.own_rest

pub returns-clause-works : goal.returns-clause-works
returns-clause-works g c =
    turn_works g.C.CrqEnd.is_shared g.O.WindowPort.is_shared _ _ _ _ c.args.self.now _ c.args.line c.login_turn.result refl refl
    c.login_turn.ensures.turned c.login_turn.ensures.crq_rest c.login_turn.ensures.own_rest

pub returns-clause-credit : goal.returns-clause-credit
returns-clause-credit g c = λ verb.
    let a = site c.args.self.now.client (ports g.C.CrqEnd.is_shared (g.C.CrqEnd.state c.args.crq.now.end) g.O.WindowPort.is_shared (g.O.WindowPort.state c.args.own.now)) in
    let b = site c.login_turn.new.self (ports g.C.CrqEnd.is_shared (g.C.CrqEnd.state c.login_turn.new.crq.end) g.O.WindowPort.is_shared (g.O.WindowPort.state c.login_turn.new.own)) in
    turn_agreed verb c.args.line a b c.in_ok-turn.turn c.turned.result c.in_ok-turn.ensures.turned c.turned.ensures

pub returns-clause-told : goal.returns-clause-told
returns-clause-told g c = λ p.
    let a = site c.args.self.now.client (ports g.C.CrqEnd.is_shared (g.C.CrqEnd.state c.args.crq.now.end) g.O.WindowPort.is_shared (g.O.WindowPort.state c.args.own.now)) in
    let b = site c.login_turn.new.self (ports g.C.CrqEnd.is_shared (g.C.CrqEnd.state c.login_turn.new.crq.end) g.O.WindowPort.is_shared (g.O.WindowPort.state c.login_turn.new.own)) in
    login_told (g.O.WindowPort.state c.args.own.now).place.size c.args.line p a b c.in_ok-turn.turn c.turned.result c.in_ok-turn.ensures.turned c.turned.ensures c.in_ok-turn.ensures.registered
    (stays_open g.C.CrqEnd.is_shared (g.C.CrqEnd.state c.args.crq.now.end) (g.C.CrqEnd.state c.login_turn.new.crq.end) c.login_turn.ensures.crq_rest)

pub returns-clause-renewed : goal.returns-clause-renewed
returns-clause-renewed g c =
    let a = site c.args.self.now.client (ports g.C.CrqEnd.is_shared (g.C.CrqEnd.state c.args.crq.now.end) g.O.WindowPort.is_shared (g.O.WindowPort.state c.args.own.now)) in
    let b = site c.login_turn.new.self (ports g.C.CrqEnd.is_shared (g.C.CrqEnd.state c.login_turn.new.crq.end) g.O.WindowPort.is_shared (g.O.WindowPort.state c.login_turn.new.own)) in
    reset_told (g.O.WindowPort.state c.args.own.now).place.size c.args.line a b c.in_ok-turn.turn c.turned.result c.in_ok-turn.ensures.turned c.turned.ensures c.in_ok-turn.ensures.registered

pub returns-clause-out : goal.returns-clause-out
returns-clause-out g c = λ queue.
    let a = site c.args.self.now.client (ports g.C.CrqEnd.is_shared (g.C.CrqEnd.state c.args.crq.now.end) g.O.WindowPort.is_shared (g.O.WindowPort.state c.args.own.now)) in
    let b = site c.login_turn.new.self (ports g.C.CrqEnd.is_shared (g.C.CrqEnd.state c.login_turn.new.crq.end) g.O.WindowPort.is_shared (g.O.WindowPort.state c.login_turn.new.own)) in
    login_out c.args.line a b c.in_ok-turn.turn c.turned.result c.in_ok-turn.ensures.turned c.turned.ensures queue

pub returns-clause-registered : goal.returns-clause-registered
returns-clause-registered g c = λ alone.
    let a = site c.args.self.now.client (ports g.C.CrqEnd.is_shared (g.C.CrqEnd.state c.args.crq.now.end) g.O.WindowPort.is_shared (g.O.WindowPort.state c.args.own.now)) in
    let b = site c.login_turn.new.self (ports g.C.CrqEnd.is_shared (g.C.CrqEnd.state c.login_turn.new.crq.end) g.O.WindowPort.is_shared (g.O.WindowPort.state c.login_turn.new.own)) in
    turn_open c.args.line a b c.in_ok-turn.turn c.turned.result c.turned.ensures c.in_ok-turn.ensures.registered c.in_ok-turn.ensures.turned c.login_turn.ensures.crq_rest alone

pub returns-clause-gives : goal.returns-clause-gives
returns-clause-gives g c =
    let a = site c.args.self.now.client (ports g.C.CrqEnd.is_shared (g.C.CrqEnd.state c.args.crq.now.end) g.O.WindowPort.is_shared (g.O.WindowPort.state c.args.own.now)) in
    let b = site c.login_turn.new.self (ports g.C.CrqEnd.is_shared (g.C.CrqEnd.state c.login_turn.new.crq.end) g.O.WindowPort.is_shared (g.O.WindowPort.state c.login_turn.new.own)) in
    turn_gives c.args.self.now c.login_turn.new.self c.args.line a b c.in_ok-turn.turn refl refl c.in_ok-turn.ensures.turned

pub returns-clause-takes : goal.returns-clause-takes
returns-clause-takes g c =
    let a = site c.args.self.now.client (ports g.C.CrqEnd.is_shared (g.C.CrqEnd.state c.args.crq.now.end) g.O.WindowPort.is_shared (g.O.WindowPort.state c.args.own.now)) in
    let b = site c.login_turn.new.self (ports g.C.CrqEnd.is_shared (g.C.CrqEnd.state c.login_turn.new.crq.end) g.O.WindowPort.is_shared (g.O.WindowPort.state c.login_turn.new.own)) in
    turned_taken verbs.Login c.args.self.now (record c.args.self.now { client = c.login_turn.new.self }) c.in_ok-turn.turn c.turned.result refl refl refl
    (tags_runs c.args.line c.in_ok-turn.ensures.turned.steps a b c.in_ok-turn.ensures.turned.runs) c.turned.ensures

pub returns-clause-retakes : goal.returns-clause-retakes
returns-clause-retakes g c =
    let a = site c.args.self.now.client (ports g.C.CrqEnd.is_shared (g.C.CrqEnd.state c.args.crq.now.end) g.O.WindowPort.is_shared (g.O.WindowPort.state c.args.own.now)) in
    let b = site c.login_turn.new.self (ports g.C.CrqEnd.is_shared (g.C.CrqEnd.state c.login_turn.new.crq.end) g.O.WindowPort.is_shared (g.O.WindowPort.state c.login_turn.new.own)) in
    turned_taken verbs.Reset c.args.self.now (record c.args.self.now { client = c.login_turn.new.self }) c.in_ok-turn.turn c.turned.result refl refl refl
    (tags_runs c.args.line c.in_ok-turn.ensures.turned.steps a b c.in_ok-turn.ensures.turned.runs) c.turned.ensures

pub returns-clause-shows : goal.returns-clause-shows
returns-clause-shows g c = λ has unit mark verb no_request no_bytes no_read logs.
    let a = site c.args.self.now.client (ports g.C.CrqEnd.is_shared (g.C.CrqEnd.state c.args.crq.now.end) g.O.WindowPort.is_shared (g.O.WindowPort.state c.args.own.now)) in
    let b = site c.login_turn.new.self (ports g.C.CrqEnd.is_shared (g.C.CrqEnd.state c.login_turn.new.crq.end) g.O.WindowPort.is_shared (g.O.WindowPort.state c.login_turn.new.own)) in
    login_shows c.args.line a b c.in_ok-turn.turn c.turned.result (PutsOne g.C.CrqEnd.is_shared (g.C.CrqEnd.state c.args.crq.now.end) (g.C.CrqEnd.state c.login_turn.new.crq.end)) unit mark verb no_request no_bytes no_read logs has
    c.in_ok-turn.ensures.turned c.turned.ensures

pub returns-clause-hears : goal.returns-clause-hears
returns-clause-hears g c =
    let a = site c.args.self.now.client (ports g.C.CrqEnd.is_shared (g.C.CrqEnd.state c.args.crq.now.end) g.O.WindowPort.is_shared (g.O.WindowPort.state c.args.own.now)) in
    let b = site c.login_turn.new.self (ports g.C.CrqEnd.is_shared (g.C.CrqEnd.state c.login_turn.new.crq.end) g.O.WindowPort.is_shared (g.O.WindowPort.state c.login_turn.new.own)) in
    turned_hears c.args.line a b c.in_ok-turn.turn c.turned.result c.in_ok-turn.ensures.turned c.turned.ensures

pub returns-clause-full : goal.returns-clause-full
returns-clause-full g c = turned_full (IsFullBy g.C.CrqEnd.is_shared (g.C.CrqEnd.state c.login_turn.new.crq.end)) c.in_ok-turn.turn c.turned.result c.turned.ensures

pub returns-in_err-turn-clause-plainly : goal.returns-in_err-turn-clause-plainly
returns-in_err-turn-clause-plainly g c = λ crq_alone own_alone.
    let same : c.from_residual.result ≡ Err c.in_err-turn.field-0.0 = search rules in
    logs_err (own_of c.args.self.now (g.C.CrqEnd.state c.args.crq.now.end) (g.O.WindowPort.state c.args.own.now))
    (own_by c.login_turn.new.self c.args.self.now.answers.items (g.C.CrqEnd.state c.login_turn.new.crq.end) (g.O.WindowPort.state c.login_turn.new.own)) c.from_residual.result c.in_err-turn.field-0.0 same

pub returns-clause-plainly : goal.returns-clause-plainly
returns-clause-plainly g c = λ crq_alone own_alone.
    let a = site c.args.self.now.client (ports g.C.CrqEnd.is_shared (g.C.CrqEnd.state c.args.crq.now.end) g.O.WindowPort.is_shared (g.O.WindowPort.state c.args.own.now)) in
    let b = site c.login_turn.new.self (ports g.C.CrqEnd.is_shared (g.C.CrqEnd.state c.login_turn.new.crq.end) g.O.WindowPort.is_shared (g.O.WindowPort.state c.login_turn.new.own)) in
    logs_in_plainly c.args.line a b c.args.self.now.answers.items c.in_ok-turn.turn c.turned.result crq_alone own_alone c.in_ok-turn.ensures.turned c.turned.ensures

pub returns-clause-acts : goal.returns-clause-acts
returns-clause-acts g c = record { turn = c.in_ok-turn.turn; turned = c.in_ok-turn.ensures.turned; says = c.turned.ensures; answers = refl }
