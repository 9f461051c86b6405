use Rattle.std.proofs.Common.{rules, ap, slice_index}
use Rattle.crq_session.specs.EndState.{EndPlace}
use Rattle.crq_session.proofs.LinkLaws.{seat_stays, side_stays}
use Rattle.queue_tests.proofs.session.sides.call_seat.Goals as goal

pub returns-clause-ours : goal.returns-clause-ours
returns-clause-ours c =
    let place = c.make.ensures in
    let same = ap (λ (p : EndPlace). slice_index p.lenders 0) place in
    let ours = seat_stays _ c.args.link.now c.args.seat.now.first c.make.new.end place in
    search (rules, same, ours)

pub returns-clause-outside : goal.returns-clause-outside
returns-clause-outside c =
    let same = ap (λ (p : EndPlace). slice_index p.lenders 0) c.make.ensures in
    let outside = c.make.new.end.outside in
    search (rules, same, outside)

pub returns-clause-first : goal.returns-clause-first
returns-clause-first c =
    let place = c.make.ensures in
    let same = ap (λ (p : EndPlace). slice_index p.lenders 0) place in
    let side = side_stays _ c.args.link.now c.args.seat.now.first c.make.new.end place in
    search (rules, same, side)
