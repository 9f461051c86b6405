use Rattle.std.proofs.Common.{rules, ap, slice_index}
use Rattle.crq_session.specs.EndState.{EndPlace}
use Rattle.crq_session.proofs.LinkLaws.{seat_stays}
use Rattle.vio_bench.proofs.link.register_seat.Goals as goal

pub returns-clause-ours : goal.returns-clause-ours
returns-clause-ours c =
    let place = c.register.ensures.place in
    let same = ap (λ (p : EndPlace). slice_index p.lenders 0) place in
    let ours = seat_stays _ c.args.link.now c.args.seat.now.first c.register.new.end place in
    search (rules, same, ours)

pub returns-clause-outside : goal.returns-clause-outside
returns-clause-outside c =
    let same = ap (λ (p : EndPlace). slice_index p.lenders 0) c.register.ensures.place in
    let outside = c.register.new.end.outside in
    search (rules, same, outside)
