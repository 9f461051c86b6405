use Rattle.std.proofs.Common.{false}
use Rattle.crq_session.specs.Side.{end_over}
use Rattle.crq_session.proofs.Events.{still, settled}
use Rattle.crq_session.proofs.side.PlainSide.push_event.Goals as goal

pub returns-in-Some-clause-still : goal.returns-in-Some-clause-still
returns-in-Some-clause-still c = λ l f.
    let did = c.put_event.ensures in
    still false c.put_event.result c.in-Some.event (end_over l f c.args.self.now c.args.partner.now) (end_over l f c.put_event.new.self c.put_event.new.partner)
    c.in-Some.is (did.still l f) did.kept

pub returns-in-Some-clause-settles : goal.returns-in-Some-clause-settles
returns-in-Some-clause-settles c = λ l f.
    let did = c.put_event.ensures in
    settled false c.put_event.result c.in-Some.event (end_over l f c.args.self.now c.args.partner.now) (end_over l f c.put_event.new.self c.put_event.new.partner)
    c.args.self.now.kept c.in-Some.is (did.nothing l f) (did.put l f)
