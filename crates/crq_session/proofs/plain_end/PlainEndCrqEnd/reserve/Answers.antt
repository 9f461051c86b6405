use Rattle.std.proofs.Common.{not}
use Rattle.crq_session.specs.PlainState.{side_of}
use Rattle.crq_session.proofs.Spare.{spare_made, spare_kept}
use Rattle.crq_session.proofs.Hearing.{hears_same}
use Rattle.crq_session.proofs.plain_end.PlainEndCrqEnd.reserve.Goals as goal

pub returns-clause-room : goal.returns-clause-room
returns-clause-room c = spare_made c.reserve.result c.args.n (side_of c.reserve.new.self c.args.self.now.first) (side_of c.reserve.new.self (not c.args.self.now.first)) c.reserve.ensures.own c.reserve.ensures.partner

pub returns-clause-spare : goal.returns-clause-spare
returns-clause-spare c = spare_kept (side_of c.args.self.now.link.now c.args.self.now.first) (side_of c.args.self.now.link.now (not c.args.self.now.first)) (side_of c.reserve.new.self c.args.self.now.first) (side_of c.reserve.new.self (not c.args.self.now.first)) c.reserve.ensures.own_rest c.reserve.ensures.partner_rest

pub returns-clause-heard : goal.returns-clause-heard
returns-clause-heard c = hears_same _ _ _ c.reserve.ensures.own_rest.queue.sent
