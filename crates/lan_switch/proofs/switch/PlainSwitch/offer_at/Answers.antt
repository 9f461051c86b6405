use Rattle.std.proofs.Common.{◌≡◌, ℕ, ◌<◌, List, Some, Option, Result, Ok, Err, IfOk, OnErr, Bool, false, length, slice_get, set, get_or, sym, refl, ◌∙◌, ap, subst}
use Rattle.vio_num.specs.declared.names.UnitId.{UnitId}
use Rattle.vio_num.specs.declared.memory.NoMemory.{NoMemory as MemoryFault}
use Rattle.lan_buffers.specs.declared.answers.Deliver.{Deliver}
use Rattle.lan_buffers.specs.declared.answers.Deliver.TheVariants.{NoMemory}
use Rattle.lan_buffers.specs.Answers.{OnNothing}
use Rattle.lan_buffers.specs.Port.{PortValue}
use Rattle.lan_switch.specs.declared.answers.Offer.{Offer}
use Rattle.lan_switch.specs.declared.station.Station.{Station}
use Rattle.lan_switch.specs.Map.{KeepsOthers}
use Rattle.lan_switch.specs.Sending.{IsOfferedAt, OffersAt, offering, unit_at, unit_of_station, windows_of}
use Rattle.lan_switch.specs.Switch.{unit_of}
use Rattle.lan_switch.proofs.Lending.{all_free}
use Rattle.lan_switch.proofs.Results.{err_weaker, ok_weaker}
use Rattle.lan_switch.proofs.Placing.{set_same, shown_at, switch_set}
use Rattle.lan_switch.proofs.switch.PlainSwitch.offer_at.Goals as goal

nothing_of : (answer : Deliver) (P : Type 0) → answer ≡ NoMemory → OnNothing answer P → P
nothing_of answer P e h = subst (λ a. OnNothing a P) e h

pub invariant_of-self : goal.invariant_of-self
invariant_of-self g c =
    switch_set c.self.inside.stations.items c.args.place c.index_mut.result.now (record { port = c.deliver_to-answer.new.port; frames = c.index_mut.result.now.frames })
    c.self.invariant (shown_at c.self.inside.stations.items c.args.self.now c.args.place c.index_mut.result.now c.self.view_is c.requires.within c.index_mut.ensures.value)
    c.deliver_to-answer.ensures.unit

pub returns-clause-others : goal.returns-clause-others
returns-clause-others g c =
    let shown = shown_at c.self.inside.stations.items c.args.self.now c.args.place c.index.result.now c.self.view_is c.requires.within c.index.ensures in
    let here : slice_get c.args.self.now c.args.place ≡ Some c.index.result.now = ap (λ (l : List Station). slice_get l c.args.place) (sym c.self.view_is) ∙ shown in
    let unit : c.unit-unit.result ≡ unit_at c.args.self.now c.args.place = c.unit-unit.ensures ∙ ap unit_of_station (sym here) in
    subst (λ u. KeepsOthers u (g.M.PortMap.state c.args.others.now) (g.M.PortMap.state c.deliver_to-answer.new.others)) unit c.deliver_to-answer.ensures.others

pub returns-clause-offered : goal.returns-clause-offered
returns-clause-offered g c =
    let s = c.index_mut.result.now in
    let t : Station = record { port = c.deliver_to-answer.new.port; frames = s.frames } in
    let o = offering c.args.name c.args.frame.now (windows_of g.M.PortMap.is_shared g.M.PortMap.state g.M.PortMap.found c.args.others.now c.deliver_to-answer.new.others) in
    let shown = shown_at c.self.inside.stations.items c.args.self.now c.args.place s c.self.view_is c.requires.within c.index_mut.ensures.value in
    let looked = shown_at c.self.inside.stations.items c.args.self.now c.args.place c.index.result.now c.self.view_is c.requires.within c.index.ensures in
    let same : c.index.result.now ≡ s = one_of _ _ _ (looked) shown in
    let unit : c.unit-unit.result ≡ unit_of s = c.unit-unit.ensures ∙ ap unit_of same in
    ok_weaker c.offer_of.result _ _ (λ offer h. record {
      station = s;
      station' = t;
      is = ap (λ (l : List Station). slice_get l c.args.place) (sym c.self.view_is) ∙ shown;
      unit_is = h.0 ∙ unit;
      offered = subst (λ u. IsOfferedAt o u s.port t.port offer.answer) unit
          (subst (λ a. IsOfferedAt o c.unit-unit.result s.port t.port a) (sym h.1) c.deliver_to-answer.ensures.offered);
      memory = λ e. h.2 (sym h.1 ∙ e);
      frames = refl;
      unit = c.deliver_to-answer.ensures.unit;
      rest = ap (λ (l : List Station). set l c.args.place t) c.self.view_is;
    }) c.offer_of.ensures.ok
  where
    one_of : (o : Option Station) (x y : Station) → o ≡ Some x → o ≡ Some y → x ≡ y
    one_of o x y e f = cc (e, f)

pub returns-clause-memory : goal.returns-clause-memory
returns-clause-memory g c =
    let s = c.index_mut.result.now in
    let shown = shown_at c.self.inside.stations.items c.args.self.now c.args.place s c.self.view_is c.requires.within c.index_mut.ensures.value in
    err_weaker c.offer_of.result _ _ (λ none.
    ap (λ (p : PortValue). set c.self.inside.stations.items c.args.place (record { port = p; frames = s.frames })) (nothing_of c.deliver_to-answer.result _ none c.deliver_to-answer.ensures.offered.nothing)
    ∙ set_same c.self.inside.stations.items c.args.place s shown ∙ c.self.view_is) c.offer_of.ensures.memory

pub returns-clause-free : goal.returns-clause-free
returns-clause-free g c =
    all_free c.unit-unit.result (g.M.PortMap.state c.args.others.now) (g.M.PortMap.state c.deliver_to-answer.new.others) c.deliver_to-answer.ensures.others
    c.deliver_to-answer.ensures.offered.window_is.free c.requires.free
