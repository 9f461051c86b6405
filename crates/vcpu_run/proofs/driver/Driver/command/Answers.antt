use Rattle.std.proofs.Common.{refl}
use Rattle.vscsi_client.specs.Ports.{ports}
use Rattle.vcpu_run.specs.Telling.{seated}
use Rattle.vcpu_run.proofs.Askings.{asks_by, submit_told}
use Rattle.vcpu_run.proofs.Credits.{submit_agreed}
use Rattle.vcpu_run.proofs.ShutShown.{submit_shut}
use Rattle.vcpu_run.proofs.DropsShown.{submit_full}
use Rattle.vcpu_run.proofs.LinesShown.{submit_shows}
use Rattle.vcpu_run.proofs.Working.{submit_works}
use Rattle.vcpu_run.proofs.Giving.{asks_gives, submit_kept}
use Rattle.vcpu_run.proofs.TakingCalls.{submit_taken}
use Rattle.vcpu_run.proofs.DataSent.{command_sends}
use Rattle.vcpu_run.proofs.EventsHeard.{sent_none}
use Rattle.vcpu_run.proofs.Giving.{asks_hear}
use Rattle.vcpu_run.specs.PlainSteps.{own_by, own_of}
use Rattle.vcpu_run.proofs.PlainRequests.{command_plainly}
use Rattle.vcpu_run.specs.Acts.{acting}
use Rattle.vcpu_run.proofs.ActsAsking.{command_acts}
use Rattle.vcpu_run.proofs.driver.Driver.command.Goals as goal

pub returns-clause-works : goal.returns-clause-works
returns-clause-works g c =
    submit_works g.C.CrqEnd.is_shared g.O.WindowPort.is_shared _ _ _ _ c.args.self.now _ c.args.line c.args.op.now c.submit.result refl refl c.requires.fits
    c.submit.ensures.refused c.submit.ensures.sent c.submit.ensures.why c.submit.ensures.crq_rest c.submit.ensures.own_rest

pub returns-clause-credit : goal.returns-clause-credit
returns-clause-credit g c = λ verb uses.
    submit_agreed verb c.args.line c.args.op.now c.args.self.now.client c.submit.new.self
    (ports g.C.CrqEnd.is_shared (g.C.CrqEnd.state c.args.crq.now.end) g.O.WindowPort.is_shared (g.O.WindowPort.state c.args.own.now))
    (ports g.C.CrqEnd.is_shared (g.C.CrqEnd.state c.submit.new.crq.end) g.O.WindowPort.is_shared (g.O.WindowPort.state c.submit.new.own))
    c.submit.result c.sent.result uses c.sent.ensures.sent c.submit.ensures.refused c.submit.ensures.sent c.submit.ensures.why

pub returns-clause-told : goal.returns-clause-told
returns-clause-told g c = λ verb p is.
    submit_told verb c.args.line c.args.op.now
    (seated c.args.self.now.client p (g.C.CrqEnd.state c.args.crq.now.end).registered)
    (seated c.submit.new.self p (g.C.CrqEnd.state c.submit.new.crq.end).registered)
    (ports g.C.CrqEnd.is_shared (g.C.CrqEnd.state c.args.crq.now.end) g.O.WindowPort.is_shared (g.O.WindowPort.state c.args.own.now))
    (ports g.C.CrqEnd.is_shared (g.C.CrqEnd.state c.submit.new.crq.end) g.O.WindowPort.is_shared (g.O.WindowPort.state c.submit.new.own))
    c.submit.result c.sent.result
    (record { asks_one = asks_by verb c.args.op.now is; progress = refl; queue = c.submit.ensures.crq_rest.registered })
    is c.sent.ensures.sent c.sent.ensures.why c.submit.ensures.refused c.submit.ensures.sent c.submit.ensures.why

pub returns-clause-shows : goal.returns-clause-shows
returns-clause-shows g c = λ verb is cdb.
    submit_shows verb c.args.line c.args.op.now c.args.self.now.client c.submit.new.self
    (ports g.C.CrqEnd.is_shared (g.C.CrqEnd.state c.args.crq.now.end) g.O.WindowPort.is_shared (g.O.WindowPort.state c.args.own.now))
    (ports g.C.CrqEnd.is_shared (g.C.CrqEnd.state c.submit.new.crq.end) g.O.WindowPort.is_shared (g.O.WindowPort.state c.submit.new.own))
    c.submit.result c.sent.result is cdb c.sent.ensures.sent c.submit.ensures.sent c.submit.ensures.crq_rest.place c.submit.ensures.own_rest.place

pub returns-clause-takes : goal.returns-clause-takes
returns-clause-takes g c = λ verb is.
    submit_taken verb c.args.line c.args.op.now c.args.self.now (record c.args.self.now { client = c.submit.new.self }) c.submit.new.self
    (ports g.C.CrqEnd.is_shared (g.C.CrqEnd.state c.args.crq.now.end) g.O.WindowPort.is_shared (g.O.WindowPort.state c.args.own.now))
    (ports g.C.CrqEnd.is_shared (g.C.CrqEnd.state c.submit.new.crq.end) g.O.WindowPort.is_shared (g.O.WindowPort.state c.submit.new.own))
    c.submit.result c.sent.result is refl refl c.sent.ensures.sent c.submit.ensures.refused c.submit.ensures.sent c.submit.ensures.why

pub returns-clause-gives : goal.returns-clause-gives
returns-clause-gives g c =
    asks_gives c.args.self.now c.submit.new.self c.sent.result g.C.CrqEnd.is_shared (g.C.CrqEnd.state c.args.crq.now.end) (g.C.CrqEnd.state c.submit.new.crq.end)
    (submit_kept c.args.line c.args.op.now c.args.self.now.client c.submit.new.self
    (ports g.C.CrqEnd.is_shared (g.C.CrqEnd.state c.args.crq.now.end) g.O.WindowPort.is_shared (g.O.WindowPort.state c.args.own.now))
    (ports g.C.CrqEnd.is_shared (g.C.CrqEnd.state c.submit.new.crq.end) g.O.WindowPort.is_shared (g.O.WindowPort.state c.submit.new.own))
    c.submit.result c.submit.ensures.refused c.submit.ensures.sent c.submit.ensures.why) c.submit.ensures.crq_rest

pub returns-clause-hears : goal.returns-clause-hears
returns-clause-hears g c =
    asks_hear c.args.self.now (record c.args.self.now { client = c.submit.new.self }) (g.C.CrqEnd.state c.args.crq.now.end) (g.C.CrqEnd.state c.submit.new.crq.end) c.sent.result
    (sent_none c.submit.result c.sent.result c.sent.ensures.sent)
    (asks_gives c.args.self.now c.submit.new.self c.sent.result g.C.CrqEnd.is_shared (g.C.CrqEnd.state c.args.crq.now.end) (g.C.CrqEnd.state c.submit.new.crq.end)
    (submit_kept c.args.line c.args.op.now c.args.self.now.client c.submit.new.self
    (ports g.C.CrqEnd.is_shared (g.C.CrqEnd.state c.args.crq.now.end) g.O.WindowPort.is_shared (g.O.WindowPort.state c.args.own.now))
    (ports g.C.CrqEnd.is_shared (g.C.CrqEnd.state c.submit.new.crq.end) g.O.WindowPort.is_shared (g.O.WindowPort.state c.submit.new.own))
    c.submit.result c.submit.ensures.refused c.submit.ensures.sent c.submit.ensures.why) c.submit.ensures.crq_rest)

pub returns-clause-inward : goal.returns-clause-inward
returns-clause-inward g c = λ verb is.
    command_sends verb c.args.line c.args.op.now c.args.self.now.client c.submit.new.self
    (ports g.C.CrqEnd.is_shared (g.C.CrqEnd.state c.args.crq.now.end) g.O.WindowPort.is_shared (g.O.WindowPort.state c.args.own.now))
    (ports g.C.CrqEnd.is_shared (g.C.CrqEnd.state c.submit.new.crq.end) g.O.WindowPort.is_shared (g.O.WindowPort.state c.submit.new.own))
    c.submit.result c.sent.result is c.sent.ensures.sent c.submit.ensures.sent

pub returns-clause-full : goal.returns-clause-full
returns-clause-full g c =
    submit_full c.args.line c.args.op.now c.args.self.now.client c.submit.new.self
    (ports g.C.CrqEnd.is_shared (g.C.CrqEnd.state c.args.crq.now.end) g.O.WindowPort.is_shared (g.O.WindowPort.state c.args.own.now))
    (ports g.C.CrqEnd.is_shared (g.C.CrqEnd.state c.submit.new.crq.end) g.O.WindowPort.is_shared (g.O.WindowPort.state c.submit.new.own))
    c.submit.result c.sent.result c.sent.ensures.sent c.sent.ensures.why c.submit.ensures.crq_rest.place c.submit.ensures.refused c.submit.ensures.why

pub returns-clause-shut : goal.returns-clause-shut
returns-clause-shut g c = λ verb is.
    submit_shut verb c.args.line c.args.op.now c.args.self.now.client c.submit.new.self
    (ports g.C.CrqEnd.is_shared (g.C.CrqEnd.state c.args.crq.now.end) g.O.WindowPort.is_shared (g.O.WindowPort.state c.args.own.now))
    (ports g.C.CrqEnd.is_shared (g.C.CrqEnd.state c.submit.new.crq.end) g.O.WindowPort.is_shared (g.O.WindowPort.state c.submit.new.own))
    c.submit.result c.sent.result is c.sent.ensures.sent c.sent.ensures.why c.submit.ensures.crq_rest.place c.submit.ensures.refused c.submit.ensures.why

pub returns-clause-plainly : goal.returns-clause-plainly
returns-clause-plainly g c = λ crq_alone own_alone verb p is.
    command_plainly g.C.CrqEnd.is_shared g.O.WindowPort.is_shared c.args.line c.args.op.now
    (own_of c.args.self.now (g.C.CrqEnd.state c.args.crq.now.end) (g.O.WindowPort.state c.args.own.now))
    (own_by c.submit.new.self c.args.self.now.answers.items (g.C.CrqEnd.state c.submit.new.crq.end) (g.O.WindowPort.state c.submit.new.own))
    c.submit.result c.sent.result refl c.sent.ensures.sent c.sent.ensures.why c.sent.ensures.memory c.submit.ensures.refused c.submit.ensures.sent c.submit.ensures.why
    c.submit.ensures.crq_rest c.submit.ensures.own_rest crq_alone own_alone verb p is c.requires.fits

pub returns-clause-acts : goal.returns-clause-acts
returns-clause-acts g c =
    command_acts c.args.line c.args.op.now (acting c.args.self.now g.C.CrqEnd.is_shared (g.C.CrqEnd.state c.args.crq.now.end) g.O.WindowPort.is_shared (g.O.WindowPort.state c.args.own.now))
    (acting (record c.args.self.now { client = c.submit.new.self }) g.C.CrqEnd.is_shared (g.C.CrqEnd.state c.submit.new.crq.end) g.O.WindowPort.is_shared (g.O.WindowPort.state c.submit.new.own))
    c.submit.result c.sent.result refl c.sent.ensures.sent c.sent.ensures.why c.submit.ensures.refused c.submit.ensures.sent c.submit.ensures.why c.submit.ensures.crq_rest c.submit.ensures.own_rest c.sent.ensures.memory
