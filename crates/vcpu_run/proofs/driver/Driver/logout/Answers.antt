use Rattle.std.proofs.Common.{refl}
use Rattle.vscsi_client.specs.Ports.{ports}
use Rattle.vcpu_run.specs.Telling.{seated}
use Rattle.vcpu_run.proofs.Askings.{logout_told}
use Rattle.vcpu_run.proofs.Credits.{logout_agreed}
use Rattle.vcpu_run.proofs.ShutShown.{logout_shut}
use Rattle.vcpu_run.proofs.DropsShown.{logout_full}
use Rattle.vcpu_run.proofs.LinesShown.{logout_shows}
use Rattle.vcpu_run.proofs.Working.{logout_works}
use Rattle.vcpu_run.proofs.Giving.{asks_gives, logout_kept}
use Rattle.vcpu_run.proofs.TakingCalls.{logout_taken}
use Rattle.vcpu_run.proofs.EventsHeard.{sent_none}
use Rattle.vcpu_run.proofs.Giving.{asks_hear}
use Rattle.vcpu_run.specs.PlainSteps.{own_by, own_of}
use Rattle.vcpu_run.proofs.PlainRequests.{logout_plainly}
use Rattle.vcpu_run.specs.Acts.{acting}
use Rattle.vcpu_run.proofs.ActsAsking.{logout_acts}
use Rattle.vcpu_run.proofs.driver.Driver.logout.Goals as goal

pub returns-clause-works : goal.returns-clause-works
returns-clause-works g c =
    logout_works g.C.CrqEnd.is_shared g.O.WindowPort.is_shared _ _ _ _ c.args.self.now _ c.args.line c.logout.result refl refl
    c.logout.ensures.refused c.logout.ensures.sent c.logout.ensures.why c.logout.ensures.same c.logout.ensures.crq_rest c.logout.ensures.own_rest

pub returns-clause-credit : goal.returns-clause-credit
returns-clause-credit g c = λ verb uses.
    logout_agreed verb c.args.line c.args.self.now.client c.logout.new.self
    (ports g.C.CrqEnd.is_shared (g.C.CrqEnd.state c.args.crq.now.end) g.O.WindowPort.is_shared (g.O.WindowPort.state c.args.own.now))
    (ports g.C.CrqEnd.is_shared (g.C.CrqEnd.state c.logout.new.crq.end) g.O.WindowPort.is_shared (g.O.WindowPort.state c.logout.new.own))
    c.logout.result c.sent.result uses c.sent.ensures.sent c.logout.ensures.sent c.logout.ensures.same

pub returns-clause-told : goal.returns-clause-told
returns-clause-told g c = λ p.
    logout_told (g.O.WindowPort.state c.args.own.now).place.size c.args.line
    (seated c.args.self.now.client p (g.C.CrqEnd.state c.args.crq.now.end).registered)
    (seated c.logout.new.self p (g.C.CrqEnd.state c.logout.new.crq.end).registered)
    (ports g.C.CrqEnd.is_shared (g.C.CrqEnd.state c.args.crq.now.end) g.O.WindowPort.is_shared (g.O.WindowPort.state c.args.own.now))
    (ports g.C.CrqEnd.is_shared (g.C.CrqEnd.state c.logout.new.crq.end) g.O.WindowPort.is_shared (g.O.WindowPort.state c.logout.new.own))
    c.logout.result c.sent.result
    refl (c.logout.ensures.crq_rest.registered)
    c.sent.ensures.sent c.sent.ensures.why c.logout.ensures.refused c.logout.ensures.sent c.logout.ensures.why c.logout.ensures.same

pub returns-clause-shows : goal.returns-clause-shows
returns-clause-shows g c =
    logout_shows c.args.line c.args.self.now.client c.logout.new.self
    (ports g.C.CrqEnd.is_shared (g.C.CrqEnd.state c.args.crq.now.end) g.O.WindowPort.is_shared (g.O.WindowPort.state c.args.own.now))
    (ports g.C.CrqEnd.is_shared (g.C.CrqEnd.state c.logout.new.crq.end) g.O.WindowPort.is_shared (g.O.WindowPort.state c.logout.new.own))
    c.logout.result c.sent.result c.sent.ensures.sent c.logout.ensures.sent c.logout.ensures.crq_rest.place c.logout.ensures.own_rest.place

pub returns-clause-takes : goal.returns-clause-takes
returns-clause-takes g c =
    logout_taken c.args.line c.args.self.now (record c.args.self.now { client = c.logout.new.self }) c.logout.new.self
    (ports g.C.CrqEnd.is_shared (g.C.CrqEnd.state c.args.crq.now.end) g.O.WindowPort.is_shared (g.O.WindowPort.state c.args.own.now))
    (ports g.C.CrqEnd.is_shared (g.C.CrqEnd.state c.logout.new.crq.end) g.O.WindowPort.is_shared (g.O.WindowPort.state c.logout.new.own))
    c.logout.result c.sent.result refl refl c.sent.ensures.sent c.logout.ensures.sent c.logout.ensures.same

pub returns-clause-gives : goal.returns-clause-gives
returns-clause-gives g c =
    asks_gives c.args.self.now c.logout.new.self c.sent.result g.C.CrqEnd.is_shared (g.C.CrqEnd.state c.args.crq.now.end) (g.C.CrqEnd.state c.logout.new.crq.end)
    (logout_kept c.args.line c.args.self.now.client c.logout.new.self
    (ports g.C.CrqEnd.is_shared (g.C.CrqEnd.state c.args.crq.now.end) g.O.WindowPort.is_shared (g.O.WindowPort.state c.args.own.now))
    (ports g.C.CrqEnd.is_shared (g.C.CrqEnd.state c.logout.new.crq.end) g.O.WindowPort.is_shared (g.O.WindowPort.state c.logout.new.own))
    c.logout.result c.logout.ensures.sent c.logout.ensures.same) c.logout.ensures.crq_rest

pub returns-clause-hears : goal.returns-clause-hears
returns-clause-hears g c =
    asks_hear c.args.self.now (record c.args.self.now { client = c.logout.new.self }) (g.C.CrqEnd.state c.args.crq.now.end) (g.C.CrqEnd.state c.logout.new.crq.end) c.sent.result
    (sent_none c.logout.result c.sent.result c.sent.ensures.sent)
    (asks_gives c.args.self.now c.logout.new.self c.sent.result g.C.CrqEnd.is_shared (g.C.CrqEnd.state c.args.crq.now.end) (g.C.CrqEnd.state c.logout.new.crq.end)
    (logout_kept c.args.line c.args.self.now.client c.logout.new.self
    (ports g.C.CrqEnd.is_shared (g.C.CrqEnd.state c.args.crq.now.end) g.O.WindowPort.is_shared (g.O.WindowPort.state c.args.own.now))
    (ports g.C.CrqEnd.is_shared (g.C.CrqEnd.state c.logout.new.crq.end) g.O.WindowPort.is_shared (g.O.WindowPort.state c.logout.new.own))
    c.logout.result c.logout.ensures.sent c.logout.ensures.same) c.logout.ensures.crq_rest)

pub returns-clause-full : goal.returns-clause-full
returns-clause-full g c =
    logout_full c.args.line c.args.self.now.client
    (ports g.C.CrqEnd.is_shared (g.C.CrqEnd.state c.args.crq.now.end) g.O.WindowPort.is_shared (g.O.WindowPort.state c.args.own.now))
    (ports g.C.CrqEnd.is_shared (g.C.CrqEnd.state c.logout.new.crq.end) g.O.WindowPort.is_shared (g.O.WindowPort.state c.logout.new.own))
    c.logout.result c.sent.result c.sent.ensures.sent c.sent.ensures.why c.logout.ensures.crq_rest.place c.logout.ensures.refused c.logout.ensures.why

pub returns-clause-shut : goal.returns-clause-shut
returns-clause-shut g c =
    logout_shut c.args.line c.args.self.now.client
    (ports g.C.CrqEnd.is_shared (g.C.CrqEnd.state c.args.crq.now.end) g.O.WindowPort.is_shared (g.O.WindowPort.state c.args.own.now))
    (ports g.C.CrqEnd.is_shared (g.C.CrqEnd.state c.logout.new.crq.end) g.O.WindowPort.is_shared (g.O.WindowPort.state c.logout.new.own))
    c.logout.result c.sent.result c.sent.ensures.sent c.sent.ensures.why c.logout.ensures.crq_rest.place c.logout.ensures.refused c.logout.ensures.why

pub returns-clause-plainly : goal.returns-clause-plainly
returns-clause-plainly g c =
    logout_plainly g.C.CrqEnd.is_shared g.O.WindowPort.is_shared c.args.line
    (own_of c.args.self.now (g.C.CrqEnd.state c.args.crq.now.end) (g.O.WindowPort.state c.args.own.now))
    (own_by c.logout.new.self c.args.self.now.answers.items (g.C.CrqEnd.state c.logout.new.crq.end) (g.O.WindowPort.state c.logout.new.own))
    c.logout.result c.sent.result refl c.sent.ensures.sent c.sent.ensures.why c.sent.ensures.memory c.logout.ensures.refused c.logout.ensures.same c.logout.ensures.sent c.logout.ensures.why
    c.logout.ensures.crq_rest c.logout.ensures.own_rest

pub returns-clause-acts : goal.returns-clause-acts
returns-clause-acts g c =
    logout_acts c.args.line (acting c.args.self.now g.C.CrqEnd.is_shared (g.C.CrqEnd.state c.args.crq.now.end) g.O.WindowPort.is_shared (g.O.WindowPort.state c.args.own.now))
    (acting (record c.args.self.now { client = c.logout.new.self }) g.C.CrqEnd.is_shared (g.C.CrqEnd.state c.logout.new.crq.end) g.O.WindowPort.is_shared (g.O.WindowPort.state c.logout.new.own))
    c.logout.result c.sent.result refl c.sent.ensures.sent c.sent.ensures.why c.logout.ensures.refused c.logout.ensures.sent c.logout.ensures.why c.logout.ensures.same c.logout.ensures.crq_rest c.logout.ensures.own_rest c.sent.ensures.memory
