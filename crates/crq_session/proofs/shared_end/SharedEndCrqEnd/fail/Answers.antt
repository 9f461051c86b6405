use Rattle.std.proofs.Common.{rules, true}
use Rattle.crq_session.specs.EndState.{OnlyFrees}
use Rattle.crq_session.proofs.Seats.{at_place}
use Rattle.crq_session.proofs.shared_end.SharedEndCrqEnd.fail.Goals as goal

pub returns-clause-rest : goal.returns-clause-rest
returns-clause-rest c =
    let end = c.args.self.now in
    at_place (OnlyFrees true) end.seat.ghost_name end.link.now end.seat.now c.free.new.self c.free.ensures.keeps.first (c.free.ensures.rest _ (search rules))

pub returns-clause-heard : goal.returns-clause-heard
returns-clause-heard c = let later = c.free.ensures.keeps.later in record { more = later.heard; ended = later.ended }
