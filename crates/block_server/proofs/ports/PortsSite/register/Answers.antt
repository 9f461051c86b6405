use Rattle.std.proofs.Common.{◌∙◌, subst, sym, refl}
use Rattle.crq_session.specs.Control.{IsQueueSize}
use Rattle.block_server.proofs.Sending.{queue_call, register_now, register_opens, register_puts, register_stands, same_taken}
use Rattle.block_server.proofs.Plains.{register_plain}
use Rattle.block_server.specs.Entries.{is_response}
use Rattle.block_server.specs.LoginAnswers.{is_login_answer}
use Rattle.block_server.proofs.ports.PortsSite.register.Goals as goal

pub returns-clause-advances : goal.returns-clause-advances
returns-clause-advances g c =
    let old = g.C.CrqEnd.state c.args.self.now.queue.now in
    let new = g.C.CrqEnd.state c.register.new.self in
    queue_call _ _ _ _ _ old new c.register.ensures.rest.place c.register.ensures.rest.last_session
    (register_opens g.C.CrqEnd.is_shared old new c.register.result c.register.ensures.opened c.register.ensures.busy c.register.ensures.refused) (same_taken old new c.register.ensures.rest.taken)
    (register_puts g.C.CrqEnd.is_shared old new c.register.result c.args.self.now.event c.register.ensures.opened c.register.ensures.busy c.register.ensures.refused)
    c.register.ensures.rest.counts.same_session
    (register_now g.C.CrqEnd.is_shared old new c.register.result c.register.ensures.opened c.register.ensures.busy c.register.ensures.refused c.register.ensures.rest.counts.same_session)
    c.register.ensures.rest.counts.closed

pub returns-clause-plain : goal.returns-clause-plain
returns-clause-plain g c =
    register_plain is_response refl g.C.CrqEnd.is_shared (g.C.CrqEnd.state c.args.self.now.queue.now) (g.C.CrqEnd.state c.register.new.self) c.register.result
    c.args.self.now.event c.register.ensures.opened c.register.ensures.busy c.register.ensures.refused

pub returns-clause-logins : goal.returns-clause-logins
returns-clause-logins g c =
    register_plain is_login_answer refl g.C.CrqEnd.is_shared (g.C.CrqEnd.state c.args.self.now.queue.now) (g.C.CrqEnd.state c.register.new.self) c.register.result
    c.args.self.now.event c.register.ensures.opened c.register.ensures.busy c.register.ensures.refused

pub returns-clause-stands : goal.returns-clause-stands
returns-clause-stands g c =
    register_stands (g.C.CrqEnd.state c.args.self.now.queue.now) c.from-length.result c.register.result (c.from-length.ensures ∙ c.slots.ensures.slots)
    (subst IsQueueSize (sym c.from-length.ensures) c.slots.ensures.size)
    c.register.ensures.parameter.0 c.register.ensures.resource.0
