use Rattle.std.proofs.Common.{ap}
use Rattle.crq_session.specs.EndState.{EndCounts}
use Rattle.block_server.proofs.Advancing.{now_none, puts_none}
use Rattle.block_server.proofs.Sending.{opens_same, queue_call, same_count, same_session, same_taken}
use Rattle.block_server.proofs.FirstPages.{windows_stay}
use Rattle.block_server.proofs.ports.PortsSite.reserve.Goals as goal

pub returns-clause-passes : goal.returns-clause-passes
returns-clause-passes g c = windows_stay _ _ _ _ _ _ _ c.reserve.ensures.rest.last_session c.reserve.ensures.rest.taken

pub returns-clause-advances : goal.returns-clause-advances
returns-clause-advances g c =
    let old = g.C.CrqEnd.state c.args.self.now.queue.now in
    let new = g.C.CrqEnd.state c.reserve.new.self in
    let rest = c.reserve.ensures.rest in
    queue_call _ _ _ _ _ old new rest.place (same_session old new rest.last_session) (opens_same old new rest.registered) (same_taken old new rest.taken) (puts_none old.sent new.sent rest.sent)
    (λ plain. ap (λ (counts : EndCounts). counts.partner_session) rest.counts) (λ plain. now_none old new rest.sent) (same_count old.counts.closed new.counts.closed (ap (λ (counts : EndCounts). counts.closed) rest.counts))
