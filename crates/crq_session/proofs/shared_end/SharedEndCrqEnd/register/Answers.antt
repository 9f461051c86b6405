use Rattle.std.proofs.Common.{rules, true}
use Rattle.crq_session.specs.EndState.{OnlyRegisters}
use Rattle.crq_session.proofs.Seats.{at_place}
use Rattle.crq_session.proofs.shared_end.SharedEndCrqEnd.register.Goals as goal

pub returns-clause-rest : goal.returns-clause-rest
returns-clause-rest c =
    let end = c.args.self.now in
    at_place (OnlyRegisters true) end.seat.ghost_name end.link.now end.seat.now c.register.new.self c.register.ensures.keeps.first (c.register.ensures.rest _ (search rules))

pub returns-clause-heard : goal.returns-clause-heard
returns-clause-heard c = let later = c.register.ensures.keeps.later in record { more = later.heard; ended = later.ended }
