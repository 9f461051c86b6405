use Rattle.std.proofs.Common.{rules, ◌≡◌, ℕ, Bool, length, slice_index, refl, sym, ◌∙◌, ap, subst}
use Rattle.vio_num.specs.declared.names.UnitId.{UnitId}
use Rattle.tce_window.specs.PortState.{PortPlace}
use Rattle.lan_switch.specs.Map.{HasFound, KeepsOthers}
use Rattle.lan_switch.specs.Sending.{IsOfferedAt, offering, windows_of}
use Rattle.lan_switch.proofs.Lending.{beside_alone, offered_alone}
use Rattle.lan_switch.proofs.send.deliver_to.Goals as goal

pub returns-clause-others : goal.returns-clause-others
returns-clause-others g c =
    let window = c.deliver.new.window in
    let place = c.deliver.ensures.window.rest.place in
    let unit : window.unit ≡ c.args.unit =
    sym (g.M.PortMap.named window.others.now window.unit) ∙ ap (λ (p : PortPlace). p.unit) place ∙ g.M.PortMap.named c.args.others.now c.args.unit in
    let same = ap (λ (p : PortPlace). slice_index p.lenders 0) place in
    let stays : KeepsOthers c.args.unit (g.M.PortMap.state c.args.others.now) (g.M.PortMap.state window.others.now) =
    beside_alone _ _ (g.M.PortMap.state c.args.others.now) (g.M.PortMap.state window.others.now) c.args.unit window.unit unit place in
    search (rules, same, stays)

pub returns-clause-offered : goal.returns-clause-offered
returns-clause-offered g c =
    let window = c.deliver.new.window in
    let place = c.deliver.ensures.window.rest.place in
    let unit : window.unit ≡ c.args.unit =
    sym (g.M.PortMap.named window.others.now window.unit) ∙ ap (λ (p : PortPlace). p.unit) place ∙ g.M.PortMap.named c.args.others.now c.args.unit in
    let same = ap (λ (p : PortPlace). slice_index p.lenders 0) place in
    let d = c.deliver.ensures in
    let windows = windows_of g.M.PortMap.is_shared g.M.PortMap.state g.M.PortMap.found c.args.others.now window.others.now in
    let Found = HasFound g.M.PortMap.state g.M.PortMap.found c.args.unit (g.M.PortMap.state window.others.now c.args.unit) in
    let offered : IsOfferedAt (offering c.args.name c.args.frame.now windows) c.args.unit c.args.port.now c.deliver.new.self c.deliver.result =
    offered_alone _ _ (g.M.PortMap.state c.args.others.now) (g.M.PortMap.state window.others.now) c.args.unit window.unit c.args.name c.args.frame.now
    g.M.PortMap.is_shared c.args.port.now c.deliver.new.self c.deliver.result (λ page word. g.M.PortMap.found window.others.now window.unit page word)
    (λ page word. Found page word)
    (λ page word found. record { map = window.others.now; known = refl; found = subst (λ (u : UnitId). g.M.PortMap.found window.others.now u page word) unit found })
    unit d.plain d.closed d.no_size d.no_buffer d.found d.done d.ungranted d.in_use d.dropped d.nothing d.window in
    search (rules, same, offered)
