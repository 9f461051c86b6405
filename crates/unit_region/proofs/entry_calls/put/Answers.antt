use Rattle.std.proofs.Common.{◌≡◌, ◌∙◌, ◌∷◌, [], ap, subst, sym}
use Rattle.tce_window.specs.PortState.{PortState, Puts}
use Rattle.tce_window.specs.Puts.{put_by}
use Rattle.unit_region.specs.EntryAnswers.{put_if}
use Rattle.unit_region.specs.Kept.{KeepsWindow}
use Rattle.unit_region.proofs.Growing.{keeps_put}
use Rattle.unit_region.proofs.InUses.{put_busy}
use Rattle.unit_region.proofs.Taking.{put_of}
use Rattle.unit_region.proofs.entry_calls.put.Goals as goal

pub returns-clause-window : goal.returns-clause-window
returns-clause-window g c =
    subst (λ (old : PortState). KeepsWindow g.O.WindowPort.is_shared old (g.O.WindowPort.state c.put_tce.new.self)) c.reserve.ensures.rest
    (keeps_put g.O.WindowPort.is_shared (g.O.WindowPort.state c.reserve.new.self) (g.O.WindowPort.state c.put_tce.new.self) _ _ c.put_tce.ensures.put c.put_tce.ensures.rest)

pub returns-clause-put : goal.returns-clause-put
returns-clause-put g c =
    let old = g.O.WindowPort.state c.args.own.now in
    let new = g.O.WindowPort.state c.put_tce.new.self in
    let at : PortState → Type 0 = λ (from : PortState). Puts from c.args.address (put_by c.put_tce.result (c.args.value ∷ [])) new in
    let put : at old = subst at c.reserve.ensures.rest c.put_tce.ensures.put in
    let same : put_by c.put_tce.result (c.args.value ∷ []) ≡ put_if c.code_of.result c.args.value =
    put_of g.O.WindowPort.is_shared (g.O.WindowPort.state c.reserve.new.self) c.args.address c.args.value c.put_tce.result c.put_tce.ensures.busy
    ∙ ap (λ code. put_if code c.args.value) (sym c.code_of.ensures) in
    subst (λ list. Puts old c.args.address list new) same put

pub returns-clause-busy : goal.returns-clause-busy
returns-clause-busy g c =
    put_busy g.O.WindowPort.is_shared (g.O.WindowPort.state c.args.own.now) (g.O.WindowPort.state c.reserve.new.self) (g.O.WindowPort.state c.put_tce.new.self) c.args.address
    (c.args.value ∷ []) c.put_tce.result c.code_of.result c.reserve.ensures.rest c.code_of.ensures c.put_tce.ensures.busy c.put_tce.ensures.counts
