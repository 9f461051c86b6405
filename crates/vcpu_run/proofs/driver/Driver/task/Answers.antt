use Rattle.std.proofs.Common.{refl}
use Rattle.vscsi_client.specs.Ports.{ports}
use Rattle.vcpu_run.specs.Telling.{seated}
use Rattle.vcpu_run.proofs.Askings.{task_told}
use Rattle.vcpu_run.proofs.Credits.{task_agreed}
use Rattle.vcpu_run.proofs.ShutShown.{task_shut}
use Rattle.vcpu_run.proofs.DropsShown.{task_full}
use Rattle.vcpu_run.proofs.LinesShown.{task_shows}
use Rattle.vcpu_run.proofs.Working.{task_works}
use Rattle.vcpu_run.proofs.Giving.{asks_gives, task_kept}
use Rattle.vcpu_run.proofs.TakingCalls.{task_taken}
use Rattle.vcpu_run.proofs.EventsHeard.{sent_none}
use Rattle.vcpu_run.proofs.Giving.{asks_hear}
use Rattle.vcpu_run.specs.PlainSteps.{own_by, own_of}
use Rattle.vcpu_run.proofs.PlainRequests.{task_plainly}
use Rattle.vcpu_run.specs.Acts.{acting}
use Rattle.vcpu_run.proofs.ActsAsking.{task_acts}
use Rattle.vcpu_run.proofs.driver.Driver.task.Goals as goal

pub returns-clause-works : goal.returns-clause-works
returns-clause-works g c =
    task_works g.C.CrqEnd.is_shared g.O.WindowPort.is_shared _ _ _ _ c.args.self.now _ c.args.line c.args.function c.args.tag c.task.result refl refl
    c.task.ensures.refused c.task.ensures.sent c.task.ensures.why c.task.ensures.same c.task.ensures.crq_rest c.task.ensures.own_rest

pub returns-clause-credit : goal.returns-clause-credit
returns-clause-credit g c = λ verb uses.
    task_agreed verb c.args.line c.args.function c.args.tag c.args.self.now.client c.task.new.self
    (ports g.C.CrqEnd.is_shared (g.C.CrqEnd.state c.args.crq.now.end) g.O.WindowPort.is_shared (g.O.WindowPort.state c.args.own.now))
    (ports g.C.CrqEnd.is_shared (g.C.CrqEnd.state c.task.new.crq.end) g.O.WindowPort.is_shared (g.O.WindowPort.state c.task.new.own))
    c.task.result c.sent.result uses c.sent.ensures.sent c.task.ensures.sent c.task.ensures.same

pub returns-clause-told : goal.returns-clause-told
returns-clause-told g c = λ verb p is none.
    task_told (g.O.WindowPort.state c.args.own.now).place.size verb c.args.line c.args.function c.args.tag
    (seated c.args.self.now.client p (g.C.CrqEnd.state c.args.crq.now.end).registered)
    (seated c.task.new.self p (g.C.CrqEnd.state c.task.new.crq.end).registered)
    (ports g.C.CrqEnd.is_shared (g.C.CrqEnd.state c.args.crq.now.end) g.O.WindowPort.is_shared (g.O.WindowPort.state c.args.own.now))
    (ports g.C.CrqEnd.is_shared (g.C.CrqEnd.state c.task.new.crq.end) g.O.WindowPort.is_shared (g.O.WindowPort.state c.task.new.own))
    c.task.result c.sent.result
    (record { asks_one = is; progress = refl; queue = c.task.ensures.crq_rest.registered }) none
    c.sent.ensures.sent c.sent.ensures.why c.task.ensures.refused c.task.ensures.sent c.task.ensures.why c.task.ensures.same

pub returns-clause-shows : goal.returns-clause-shows
returns-clause-shows g c =
    task_shows c.args.line c.args.function c.args.tag c.args.self.now.client c.task.new.self
    (ports g.C.CrqEnd.is_shared (g.C.CrqEnd.state c.args.crq.now.end) g.O.WindowPort.is_shared (g.O.WindowPort.state c.args.own.now))
    (ports g.C.CrqEnd.is_shared (g.C.CrqEnd.state c.task.new.crq.end) g.O.WindowPort.is_shared (g.O.WindowPort.state c.task.new.own))
    c.task.result c.sent.result c.sent.ensures.sent c.task.ensures.sent c.task.ensures.crq_rest.place c.task.ensures.own_rest.place

pub returns-clause-takes : goal.returns-clause-takes
returns-clause-takes g c =
    task_taken c.args.line c.args.function c.args.tag c.args.self.now (record c.args.self.now { client = c.task.new.self }) c.task.new.self
    (ports g.C.CrqEnd.is_shared (g.C.CrqEnd.state c.args.crq.now.end) g.O.WindowPort.is_shared (g.O.WindowPort.state c.args.own.now))
    (ports g.C.CrqEnd.is_shared (g.C.CrqEnd.state c.task.new.crq.end) g.O.WindowPort.is_shared (g.O.WindowPort.state c.task.new.own))
    c.task.result c.sent.result refl refl c.sent.ensures.sent c.task.ensures.sent c.task.ensures.same

pub returns-clause-gives : goal.returns-clause-gives
returns-clause-gives g c =
    asks_gives c.args.self.now c.task.new.self c.sent.result g.C.CrqEnd.is_shared (g.C.CrqEnd.state c.args.crq.now.end) (g.C.CrqEnd.state c.task.new.crq.end)
    (task_kept c.args.line c.args.function c.args.tag c.args.self.now.client c.task.new.self
    (ports g.C.CrqEnd.is_shared (g.C.CrqEnd.state c.args.crq.now.end) g.O.WindowPort.is_shared (g.O.WindowPort.state c.args.own.now))
    (ports g.C.CrqEnd.is_shared (g.C.CrqEnd.state c.task.new.crq.end) g.O.WindowPort.is_shared (g.O.WindowPort.state c.task.new.own))
    c.task.result c.task.ensures.sent c.task.ensures.same) c.task.ensures.crq_rest

pub returns-clause-hears : goal.returns-clause-hears
returns-clause-hears g c =
    asks_hear c.args.self.now (record c.args.self.now { client = c.task.new.self }) (g.C.CrqEnd.state c.args.crq.now.end) (g.C.CrqEnd.state c.task.new.crq.end) c.sent.result
    (sent_none c.task.result c.sent.result c.sent.ensures.sent)
    (asks_gives c.args.self.now c.task.new.self c.sent.result g.C.CrqEnd.is_shared (g.C.CrqEnd.state c.args.crq.now.end) (g.C.CrqEnd.state c.task.new.crq.end)
    (task_kept c.args.line c.args.function c.args.tag c.args.self.now.client c.task.new.self
    (ports g.C.CrqEnd.is_shared (g.C.CrqEnd.state c.args.crq.now.end) g.O.WindowPort.is_shared (g.O.WindowPort.state c.args.own.now))
    (ports g.C.CrqEnd.is_shared (g.C.CrqEnd.state c.task.new.crq.end) g.O.WindowPort.is_shared (g.O.WindowPort.state c.task.new.own))
    c.task.result c.task.ensures.sent c.task.ensures.same) c.task.ensures.crq_rest)

pub returns-clause-full : goal.returns-clause-full
returns-clause-full g c =
    task_full c.args.line c.args.function c.args.tag c.args.self.now.client
    (ports g.C.CrqEnd.is_shared (g.C.CrqEnd.state c.args.crq.now.end) g.O.WindowPort.is_shared (g.O.WindowPort.state c.args.own.now))
    (ports g.C.CrqEnd.is_shared (g.C.CrqEnd.state c.task.new.crq.end) g.O.WindowPort.is_shared (g.O.WindowPort.state c.task.new.own))
    c.task.result c.sent.result c.sent.ensures.sent c.sent.ensures.why c.task.ensures.crq_rest.place c.task.ensures.refused c.task.ensures.why

pub returns-clause-shut : goal.returns-clause-shut
returns-clause-shut g c =
    task_shut c.args.line c.args.function c.args.tag c.args.self.now.client
    (ports g.C.CrqEnd.is_shared (g.C.CrqEnd.state c.args.crq.now.end) g.O.WindowPort.is_shared (g.O.WindowPort.state c.args.own.now))
    (ports g.C.CrqEnd.is_shared (g.C.CrqEnd.state c.task.new.crq.end) g.O.WindowPort.is_shared (g.O.WindowPort.state c.task.new.own))
    c.task.result c.sent.result c.sent.ensures.sent c.sent.ensures.why c.task.ensures.crq_rest.place c.task.ensures.refused c.task.ensures.why

pub returns-clause-plainly : goal.returns-clause-plainly
returns-clause-plainly g c =
    task_plainly g.C.CrqEnd.is_shared g.O.WindowPort.is_shared c.args.line c.args.function c.args.tag
    (own_of c.args.self.now (g.C.CrqEnd.state c.args.crq.now.end) (g.O.WindowPort.state c.args.own.now))
    (own_by c.task.new.self c.args.self.now.answers.items (g.C.CrqEnd.state c.task.new.crq.end) (g.O.WindowPort.state c.task.new.own))
    c.task.result c.sent.result refl c.sent.ensures.sent c.sent.ensures.why c.sent.ensures.memory c.task.ensures.refused c.task.ensures.same c.task.ensures.sent c.task.ensures.why
    c.task.ensures.crq_rest c.task.ensures.own_rest

pub returns-clause-acts : goal.returns-clause-acts
returns-clause-acts g c =
    task_acts c.args.line c.args.function c.args.tag (acting c.args.self.now g.C.CrqEnd.is_shared (g.C.CrqEnd.state c.args.crq.now.end) g.O.WindowPort.is_shared (g.O.WindowPort.state c.args.own.now))
    (acting (record c.args.self.now { client = c.task.new.self }) g.C.CrqEnd.is_shared (g.C.CrqEnd.state c.task.new.crq.end) g.O.WindowPort.is_shared (g.O.WindowPort.state c.task.new.own))
    c.task.result c.sent.result refl c.sent.ensures.sent c.sent.ensures.why c.task.ensures.refused c.task.ensures.sent c.task.ensures.why c.task.ensures.same c.task.ensures.crq_rest c.task.ensures.own_rest c.sent.ensures.memory
