use Rattle.std.proofs.Common.{rules, ap, slice_index}
use Rattle.crq_ring.specs.Port.{PortPlace}
use Rattle.crq_ring.proofs.RingLaws.{sender_stays, receiver_stays}
use Rattle.queue_tests.proofs.queues.passing.pass_shared.Goals as goal

pub returns-clause-send : goal.returns-clause-send
returns-clause-send c =
    let place = c.pass.ensures in
    let same = ap (λ (p : PortPlace). slice_index p.lenders 0) place in
    let ring = sender_stays c.pass.new.port _ place in
    let inside = c.pass.new.port.inside in
    search (rules, same, ring, inside)

pub returns-clause-recv : goal.returns-clause-recv
returns-clause-recv c =
    let place = c.pass.ensures in
    let same = ap (λ (p : PortPlace). slice_index p.lenders 1) place in
    let ring = receiver_stays c.pass.new.port _ place in
    let is_open = c.pass.new.port.is_open in
    search (rules, same, ring, is_open)
