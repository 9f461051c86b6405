use Rattle.std.proofs.Common.{rules, ◌≡◌, ℕ, List, refl, sym, ◌∙◌, ap, subst}
use Rattle.lan_frame.specs.Station.{IsGroup, destination_of}
use Rattle.lan_switch.specs.declared.answers.Offer.{Offer}
use Rattle.lan_switch.specs.Sending.{GoesOut, LanWindows, offering, one_code, to_of, windows_of}
use Rattle.lan_switch.proofs.Answering.{answered}
use Rattle.lan_switch.proofs.switch.PlainSwitch.pass_on.Goals as goal

pub returns-then-is_numbered-clause-answered : goal.returns-then-is_numbered-clause-answered
returns-then-is_numbered-clause-answered g c =
    let windows : LanWindows = windows_of g.M.PortMap.is_shared g.M.PortMap.state g.M.PortMap.found c.args.others.now c.offer.new.others in
    let slice : c.as_slice-2.result.now ≡ c.args.frame = search rules in
    let to : c.destination-to.result ≡ to_of c.args.frame =
    ap (λ (l : List ℕ). record { bytes = l }) (c.destination-to.ensures ∙ ap destination_of (search rules)) in
    answered c.args.self.now c.offer.new.self c.set_frames.new.self c.args.name c.args.from.items c.args.frame windows c.in-Ok.offers.items
    c.destination-to.result c.code_of-code.result _ c.numbered.result
    (subst (λ (l : List ℕ). GoesOut (offering c.args.name l windows) c.args.self.now c.offer.new.self c.in-Ok.offers.items) slice c.in-Ok.ensures.offered)
    to c.code_of-code.ensures.group
    (subst (λ (l : List Offer). (¬ IsGroup c.destination-to.result) → c.code_of-code.result ≡ one_code l) c.as_slice-in-Ok.ensures.value c.code_of-code.ensures.one)
    (sym c.is_numbered.ensures ∙ c.if-is_numbered.true)
    c.numbered.ensures.code c.numbered.ensures.fault c.numbered.ensures.offers c.numbered.ensures.says c.set_frames.ensures

pub returns-else-is_numbered-clause-answered : goal.returns-else-is_numbered-clause-answered
returns-else-is_numbered-clause-answered g c =
    let windows : LanWindows = windows_of g.M.PortMap.is_shared g.M.PortMap.state g.M.PortMap.found c.args.others.now c.offer.new.others in
    let slice : c.as_slice-2.result.now ≡ c.args.frame = search rules in
    let to : c.destination-to.result ≡ to_of c.args.frame =
    ap (λ (l : List ℕ). record { bytes = l }) (c.destination-to.ensures ∙ ap destination_of (search rules)) in
    answered c.args.self.now c.offer.new.self c.offer.new.self c.args.name c.args.from.items c.args.frame windows c.in-Ok.offers.items
    c.destination-to.result c.code_of-code.result _ c.unnumbered.result
    (subst (λ (l : List ℕ). GoesOut (offering c.args.name l windows) c.args.self.now c.offer.new.self c.in-Ok.offers.items) slice c.in-Ok.ensures.offered)
    to c.code_of-code.ensures.group
    (subst (λ (l : List Offer). (¬ IsGroup c.destination-to.result) → c.code_of-code.result ≡ one_code l) c.as_slice-in-Ok.ensures.value c.code_of-code.ensures.one)
    (sym c.is_numbered.ensures ∙ c.if-is_numbered.false)
    c.unnumbered.ensures.code c.unnumbered.ensures.fault c.unnumbered.ensures.offers c.unnumbered.ensures.says refl
