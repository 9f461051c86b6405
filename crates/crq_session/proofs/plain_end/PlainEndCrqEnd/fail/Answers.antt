use Rattle.std.proofs.Common.{not, [], ◌∷◌, ap}
use Rattle.crq_session.specs.PlainState.{side_of}
use Rattle.crq_session.proofs.Spare.{spare_puts, spare_falls}
use Rattle.crq_session.proofs.Hearing.{hears_same}
use Rattle.crq_session.proofs.plain_end.PlainEndCrqEnd.fail.Goals as goal

pub free-requires : goal.free-requires
free-requires c = spare_puts (side_of c.args.self.now.link.now c.args.self.now.first) (side_of c.args.self.now.link.now (not c.args.self.now.first)) c.requires

pub returns-clause-spare : goal.returns-clause-spare
returns-clause-spare c = spare_falls (side_of c.args.self.now.link.now c.args.self.now.first) (side_of c.args.self.now.link.now (not c.args.self.now.first)) (side_of c.free.new.self c.args.self.now.first) (side_of c.free.new.self (not c.args.self.now.first)) c.free.ensures.room

pub returns-clause-rest : goal.returns-clause-rest
returns-clause-rest c = c.free.ensures.rest (c.args.self.now.link.ghost_name ∷ []) c.args.self.now.first

pub returns-clause-heard : goal.returns-clause-heard
returns-clause-heard c = hears_same _ _ _ (ap (λ p. p.received) (c.free.ensures.rest (c.args.self.now.link.ghost_name ∷ []) c.args.self.now.first).place)
