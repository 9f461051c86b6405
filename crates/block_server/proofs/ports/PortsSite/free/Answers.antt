use Rattle.std.proofs.Common.{refl}
use Rattle.block_server.proofs.FirstPages.{windows_stay}
use Rattle.block_server.proofs.Sending.{free_now, free_opens, free_puts, queue_call, same_session, same_taken}
use Rattle.block_server.proofs.Plains.{free_plain}
use Rattle.block_server.specs.Entries.{is_response}
use Rattle.block_server.specs.LoginAnswers.{is_login_answer}
use Rattle.block_server.proofs.ports.PortsSite.free.Goals as goal

pub returns-clause-advances : goal.returns-clause-advances
returns-clause-advances g c =
    let old = g.C.CrqEnd.state c.args.self.now.queue.now in
    let new = g.C.CrqEnd.state c.free.new.self in
    queue_call _ _ _ _ _ old new c.free.ensures.rest.place (same_session old new c.free.ensures.rest.last_session)
    (free_opens g.C.CrqEnd.is_shared old new c.free.result c.free.ensures.success c.free.ensures.busy c.free.ensures.refused) (same_taken old new c.free.ensures.rest.taken)
    (free_puts g.C.CrqEnd.is_shared old new c.free.result c.free.ensures.success c.free.ensures.busy c.free.ensures.refused)
    c.free.ensures.rest.counts.same_session
    (free_now g.C.CrqEnd.is_shared old new c.free.result c.free.ensures.success c.free.ensures.busy c.free.ensures.refused c.free.ensures.rest.counts.same_session)
    c.free.ensures.rest.counts.closed

pub returns-clause-plain : goal.returns-clause-plain
returns-clause-plain g c =
    free_plain is_response refl g.C.CrqEnd.is_shared (g.C.CrqEnd.state c.args.self.now.queue.now) (g.C.CrqEnd.state c.free.new.self) c.free.result
    c.free.ensures.success c.free.ensures.busy c.free.ensures.refused

pub returns-clause-logins : goal.returns-clause-logins
returns-clause-logins g c =
    free_plain is_login_answer refl g.C.CrqEnd.is_shared (g.C.CrqEnd.state c.args.self.now.queue.now) (g.C.CrqEnd.state c.free.new.self) c.free.result
    c.free.ensures.success c.free.ensures.busy c.free.ensures.refused

pub returns-clause-passes : goal.returns-clause-passes
returns-clause-passes g c = windows_stay _ _ _ _ _ _ _ c.free.ensures.rest.last_session c.free.ensures.rest.taken
