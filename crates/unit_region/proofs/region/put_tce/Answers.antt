use Rattle.std.proofs.Common.{subst}
use Rattle.tce_window.specs.PortState.{PortState}
use Rattle.unit_region.specs.Kept.{KeepsWindow}
use Rattle.unit_region.proofs.Growing.{keeps_put}
use Rattle.unit_region.proofs.region.put_tce.Goals as goal

pub returns-in-Done-clause-window : goal.returns-in-Done-clause-window
returns-in-Done-clause-window g c =
    subst (λ (old : PortState). KeepsWindow g.O.WindowPort.is_shared old (g.O.WindowPort.state c.put_tce.new.self)) c.reserve.ensures.rest
    (keeps_put g.O.WindowPort.is_shared (g.O.WindowPort.state c.reserve.new.self) (g.O.WindowPort.state c.put_tce.new.self) _ _ c.put_tce.ensures.put c.put_tce.ensures.rest)

pub returns-in-Parameter-clause-window : goal.returns-in-Parameter-clause-window
returns-in-Parameter-clause-window g c =
    subst (λ (old : PortState). KeepsWindow g.O.WindowPort.is_shared old (g.O.WindowPort.state c.put_tce.new.self)) c.reserve.ensures.rest
    (keeps_put g.O.WindowPort.is_shared (g.O.WindowPort.state c.reserve.new.self) (g.O.WindowPort.state c.put_tce.new.self) _ _ c.put_tce.ensures.put c.put_tce.ensures.rest)

pub returns-in-Busy-clause-window : goal.returns-in-Busy-clause-window
returns-in-Busy-clause-window g c =
    subst (λ (old : PortState). KeepsWindow g.O.WindowPort.is_shared old (g.O.WindowPort.state c.put_tce.new.self)) c.reserve.ensures.rest
    (keeps_put g.O.WindowPort.is_shared (g.O.WindowPort.state c.reserve.new.self) (g.O.WindowPort.state c.put_tce.new.self) _ _ c.put_tce.ensures.put c.put_tce.ensures.rest)
