use Rattle.std.proofs.Common.{replicate, subst}
use Rattle.tce_window.specs.PortState.{PortState}
use Rattle.unit_region.specs.Kept.{KeepsWindow}
use Rattle.unit_region.proofs.Growing.{keeps_put}
use Rattle.unit_region.proofs.InUses.{put_busy}
use Rattle.unit_region.proofs.Taking.{stuffed}
use Rattle.unit_region.proofs.entry_calls.stuff.Goals as goal

pub returns-clause-window : goal.returns-clause-window
returns-clause-window g c =
    subst (λ (old : PortState). KeepsWindow g.O.WindowPort.is_shared old (g.O.WindowPort.state c.stuff_tce.new.self)) c.reserve.ensures.rest
    (keeps_put g.O.WindowPort.is_shared (g.O.WindowPort.state c.reserve.new.self) (g.O.WindowPort.state c.stuff_tce.new.self) _ _ c.stuff_tce.ensures.put c.stuff_tce.ensures.rest)

pub returns-clause-each : goal.returns-clause-each
returns-clause-each g c =
    stuffed (g.O.WindowPort.state c.args.own.now) (g.O.WindowPort.state c.reserve.new.self) (g.O.WindowPort.state c.stuff_tce.new.self) c.args.address
    (replicate c.args.count c.args.value) c.stuff_tce.result c.code_of.result c.reserve.ensures.rest c.code_of.ensures c.stuff_tce.ensures.parameter c.stuff_tce.ensures.put

pub returns-clause-busy : goal.returns-clause-busy
returns-clause-busy g c =
    put_busy g.O.WindowPort.is_shared (g.O.WindowPort.state c.args.own.now) (g.O.WindowPort.state c.reserve.new.self) (g.O.WindowPort.state c.stuff_tce.new.self) c.args.address
    (replicate c.args.count c.args.value) c.stuff_tce.result c.code_of.result c.reserve.ensures.rest c.code_of.ensures c.stuff_tce.ensures.busy c.stuff_tce.ensures.counts
