use Rattle.std.proofs.Common.{subst, sym}
use Rattle.tce_window.specs.PortState.{PortState}
use Rattle.unit_region.specs.EntryAnswers.{AreValuesOf}
use Rattle.unit_region.specs.Kept.{KeepsWindow}
use Rattle.unit_region.proofs.Growing.{keeps_put}
use Rattle.unit_region.proofs.InUses.{put_busy}
use Rattle.unit_region.proofs.Listing.{values_put}
use Rattle.unit_region.proofs.entry_calls.put_values.Goals as goal

pub returns-clause-window : goal.returns-clause-window
returns-clause-window g c =
    subst (λ (old : PortState). KeepsWindow g.O.WindowPort.is_shared old (g.O.WindowPort.state c.put_tce_indirect.new.self)) c.reserve.ensures.rest
    (keeps_put g.O.WindowPort.is_shared (g.O.WindowPort.state c.reserve.new.self) (g.O.WindowPort.state c.put_tce_indirect.new.self) _ _ c.put_tce_indirect.ensures.put c.put_tce_indirect.ensures.rest)

pub returns-clause-values : goal.returns-clause-values
returns-clause-values g c =
    values_put (g.O.WindowPort.state c.args.own.now) (g.O.WindowPort.state c.reserve.new.self) (g.O.WindowPort.state c.put_tce_indirect.new.self) c.args.address
    c.args.bytes.now c.deref.result.now c.put_tce_indirect.result c.code_of.result c.reserve.ensures.rest c.code_of.ensures
    (subst (AreValuesOf c.args.bytes.now) (sym c.deref.ensures.value) c.in_ok-values.ensures) c.put_tce_indirect.ensures.parameter
    c.put_tce_indirect.ensures.put c.put_tce_indirect.ensures.rest

pub returns-clause-busy : goal.returns-clause-busy
returns-clause-busy g c =
    put_busy g.O.WindowPort.is_shared (g.O.WindowPort.state c.args.own.now) (g.O.WindowPort.state c.reserve.new.self) (g.O.WindowPort.state c.put_tce_indirect.new.self)
    c.args.address c.deref.result.now c.put_tce_indirect.result c.code_of.result c.reserve.ensures.rest c.code_of.ensures c.put_tce_indirect.ensures.busy
    c.put_tce_indirect.ensures.counts
