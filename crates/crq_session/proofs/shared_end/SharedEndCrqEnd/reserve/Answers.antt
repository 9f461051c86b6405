use Rattle.crq_session.specs.EndState.{OnlyReserves}
use Rattle.crq_session.proofs.Seats.{at_place}
use Rattle.crq_session.proofs.shared_end.SharedEndCrqEnd.reserve.Goals as goal

pub returns-clause-rest : goal.returns-clause-rest
returns-clause-rest c =
    let end = c.args.self.now in
    at_place OnlyReserves end.seat.ghost_name end.link.now end.seat.now c.reserve.new.self c.reserve.ensures.keeps.first (c.reserve.ensures.rest _)

pub returns-clause-heard : goal.returns-clause-heard
returns-clause-heard c = let later = c.reserve.ensures.keeps.later in record { more = later.heard; ended = later.ended }
