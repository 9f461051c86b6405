use Rattle.std.proofs.Common.{refl, rules}
use Rattle.vcpu_run.proofs.Driving.{drives_link}
use Rattle.vcpu_run.proofs.seat.queue_code.Goals as goal

pub returns-clause-drives : goal.returns-clause-drives
returns-clause-drives c =
    drives_link c.side-end.result.first c.make.new.end.first _ _ c.args.pair.now c.side-end.result.link.now c.make.new.end.link.now c.side-end.ensures.link c.side-end.ensures.first
    c.make.ensures.place (c.make.ensures.session refl) (c.make.ensures.puts refl) (search rules)
