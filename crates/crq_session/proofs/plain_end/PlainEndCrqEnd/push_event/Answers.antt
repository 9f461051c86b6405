use Rattle.std.proofs.Common.{not, [], ◌∷◌, ap}
use Rattle.crq_session.specs.PlainState.{side_of}
use Rattle.crq_session.proofs.Spare.{spare_puts, spare_falls}
use Rattle.crq_session.proofs.Hearing.{hears_same}
use Rattle.crq_session.proofs.plain_end.PlainEndCrqEnd.push_event.Goals as goal

pub push_event-requires : goal.push_event-requires
push_event-requires c = spare_puts (side_of c.args.self.now.link.now c.args.self.now.first) (side_of c.args.self.now.link.now (not c.args.self.now.first)) c.requires

pub returns-clause-spare : goal.returns-clause-spare
returns-clause-spare c = spare_falls (side_of c.args.self.now.link.now c.args.self.now.first) (side_of c.args.self.now.link.now (not c.args.self.now.first)) (side_of c.push_event.new.self c.args.self.now.first) (side_of c.push_event.new.self (not c.args.self.now.first)) c.push_event.ensures.room

pub returns-clause-rest : goal.returns-clause-rest
returns-clause-rest c = c.push_event.ensures.rest (c.args.self.now.link.ghost_name ∷ []) c.args.self.now.first

pub returns-clause-heard : goal.returns-clause-heard
returns-clause-heard c = hears_same _ _ _ (ap (λ p. p.received) (c.push_event.ensures.rest (c.args.self.now.link.ghost_name ∷ []) c.args.self.now.first).place)
