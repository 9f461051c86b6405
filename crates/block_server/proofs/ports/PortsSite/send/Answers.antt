use Rattle.block_server.proofs.FirstPages.{windows_stay}
use Rattle.block_server.proofs.Reaching.{send_reached, send_refused}
use Rattle.block_server.proofs.Sending.{opens_same, queue_call, same_session, same_taken, send_now, send_puts}
use Rattle.block_server.proofs.ports.PortsSite.send.Goals as goal

pub returns-clause-advances : goal.returns-clause-advances
returns-clause-advances g c =
    let old = g.C.CrqEnd.state c.args.self.now.queue.now in
    let new = g.C.CrqEnd.state c.send.new.self in
    queue_call _ _ _ _ _ old new c.send.ensures.rest.place (same_session old new c.send.ensures.rest.last_session)
    (opens_same old new c.send.ensures.rest.registered) (same_taken old new c.send.ensures.rest.taken)
    (send_puts g.C.CrqEnd.is_shared old new c.args.entry c.send.result c.requires.may c.send.ensures.success c.send.ensures.closed c.send.ensures.dropped c.send.ensures.refused)
    c.send.ensures.rest.counts.same_session
    (send_now g.C.CrqEnd.is_shared old new c.args.entry c.send.result c.send.ensures.success c.send.ensures.closed c.send.ensures.dropped c.send.ensures.refused c.send.ensures.rest.counts.same_session)
    c.send.ensures.rest.counts.closed

pub returns-clause-passes : goal.returns-clause-passes
returns-clause-passes g c = windows_stay _ _ _ _ _ _ _ c.send.ensures.rest.last_session c.send.ensures.rest.taken

pub returns-clause-told : goal.returns-clause-told
returns-clause-told g c = send_reached c.send.result (g.C.CrqEnd.state c.args.self.now.queue.now) c.args.entry c.send.ensures.may

pub returns-clause-unregistered : goal.returns-clause-unregistered
returns-clause-unregistered g c =
    send_refused c.send.result (g.C.CrqEnd.state c.args.self.now.queue.now) c.args.entry c.requires.may c.send.ensures.parameter c.send.ensures.unregistered
