use Rattle.std.proofs.Common.{true}
use Rattle.crq_session.specs.EndState.{OnlyTakes}
use Rattle.crq_session.proofs.Seats.{at_place}
use Rattle.crq_session.proofs.shared_end.SharedEndCrqEnd.poll.Goals as goal

pub returns-clause-rest : goal.returns-clause-rest
returns-clause-rest c =
    let end = c.args.self.now in
    at_place (OnlyTakes true) end.seat.ghost_name end.link.now end.seat.now c.poll.new.self c.poll.ensures.keeps.first (c.poll.ensures.rest _)

pub returns-clause-heard : goal.returns-clause-heard
returns-clause-heard c = let later = c.poll.ensures.keeps.later in record { more = later.heard; ended = later.ended }
