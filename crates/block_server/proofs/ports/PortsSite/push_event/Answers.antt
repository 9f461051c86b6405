use Rattle.std.proofs.Common.{refl}
use Rattle.block_server.proofs.FirstPages.{windows_stay}
use Rattle.block_server.proofs.Sending.{opens_same, push_now, push_puts, queue_call, same_session, same_taken}
use Rattle.block_server.proofs.Plains.{push_plain}
use Rattle.block_server.specs.Entries.{is_response}
use Rattle.block_server.specs.LoginAnswers.{is_login_answer}
use Rattle.block_server.proofs.ports.PortsSite.push_event.Goals as goal

pub returns-clause-advances : goal.returns-clause-advances
returns-clause-advances g c =
    let old = g.C.CrqEnd.state c.args.self.now.queue.now in
    let new = g.C.CrqEnd.state c.push_event.new.self in
    queue_call _ _ _ _ _ old new c.push_event.ensures.rest.place (same_session old new c.push_event.ensures.rest.last_session)
    (opens_same old new c.push_event.ensures.rest.registered) (same_taken old new c.push_event.ensures.rest.taken)
    (push_puts g.C.CrqEnd.is_shared old new c.push_event.result c.args.self.now.event c.push_event.ensures.nothing c.push_event.ensures.put c.push_event.ensures.still)
    c.push_event.ensures.rest.counts.same_session
    (push_now g.C.CrqEnd.is_shared old new c.push_event.result c.push_event.ensures.nothing c.push_event.ensures.put c.push_event.ensures.still c.push_event.ensures.rest.counts.same_session)
    c.push_event.ensures.rest.counts.closed

pub returns-clause-plain : goal.returns-clause-plain
returns-clause-plain g c =
    push_plain is_response refl g.C.CrqEnd.is_shared (g.C.CrqEnd.state c.args.self.now.queue.now) (g.C.CrqEnd.state c.push_event.new.self) c.push_event.result
    c.args.self.now.event c.push_event.ensures.nothing c.push_event.ensures.put c.push_event.ensures.still

pub returns-clause-logins : goal.returns-clause-logins
returns-clause-logins g c =
    push_plain is_login_answer refl g.C.CrqEnd.is_shared (g.C.CrqEnd.state c.args.self.now.queue.now) (g.C.CrqEnd.state c.push_event.new.self) c.push_event.result
    c.args.self.now.event c.push_event.ensures.nothing c.push_event.ensures.put c.push_event.ensures.still

pub returns-clause-passes : goal.returns-clause-passes
returns-clause-passes g c = windows_stay _ _ _ _ _ _ _ c.push_event.ensures.rest.last_session c.push_event.ensures.rest.taken
