use Rattle.std.proofs.Common.{rules, ◌≡◌, ℕ, ◌<◌, ◌≤◌, ◌+◌, ◌∷◌, ◌++◌, [], Bool, true, false, true≢false, List, Some, None, zero, suc, length, slice_get, arith, refl, sym, ◌∙◌, ap, subst}
use Rattle.vio_num.specs.declared.names.Mac.{Mac}
use Rattle.vio_num.specs.declared.names.UnitId.{UnitId}
use Rattle.lan_frame.specs.Station.{IsGroup}
use Rattle.lan_switch.specs.declared.answers.Offer.{Offer}
use Rattle.lan_switch.specs.declared.station.Station.{Station}
use Rattle.lan_switch.specs.Map.{HasFound}
use Rattle.lan_switch.specs.Sending.{GoesOut, IsTarget, offering, to_of, windows_of}
use Rattle.lan_switch.specs.Switch.{IsSwitch}
use Rattle.lan_switch.proofs.Targets.{SoFar, ended, offers_room, passed_step, stopped, taken_last, taken_step}
use Rattle.lan_switch.proofs.switch.PlainSwitch.offer.Goals.{then-is_target+in-Ok+else-not-is_group, else-is_target}
use Rattle.lan_switch.proofs.switch.PlainSwitch.offer.Goals as goal

there : (p : ℕ) (l : List Station) → p < length l → (s : Station) × (slice_get l p ≡ Some s)
there p [] less = absurd (omega (arith, less))
there zero (x ∷ l) less = (x, refl)
there (suc p) (x ∷ l) less = there p l (omega (arith, less))

no : false ≡ true → ⊥
no e = cc (e)

pub push-requires : goal.push-requires
push-requires g c =
    let less : c.loop-place.place < length c.loop-place.self = search rules in
    let at = there c.loop-place.place c.loop-place.self less in
    let switch : IsSwitch c.args.self.now = subst (λ l. IsSwitch l) c.self.view_is c.self.invariant in
    let target : IsTarget c.args.name.who (to_of c.args.frame.now) at.0 =
    subst (λ (m : Mac). IsTarget c.args.name.who m at.0) c.requires.to ((c.is_target.ensures at.0 at.1).0 c.if-is_target.true) in (
      omega arith,
      offers_room c.args.name c.args.frame.now g.M.PortMap.is_shared (g.M.PortMap.state c.args.others.now) (g.M.PortMap.state c.loop-place.others)
          (HasFound g.M.PortMap.state g.M.PortMap.found) c.args.self.now c.loop-place.self c.loop-place.place c.loop-place.offers.items at.0 switch
          c.requires.sender c.loop-place.invariant.so_far less at.1 target,
    )

pub returns-in-Err-clause-failed : goal.returns-in-Err-clause-failed
returns-in-Err-clause-failed g c =
    let less : c.loop-place.place < length c.loop-place.self = search rules in
    let at = there c.loop-place.place c.loop-place.self less in
    let switch : IsSwitch c.args.self.now = subst (λ l. IsSwitch l) c.self.view_is c.self.invariant in
    let target : IsTarget c.args.name.who (to_of c.args.frame.now) at.0 =
    subst (λ (m : Mac). IsTarget c.args.name.who m at.0) c.requires.to ((c.is_target.ensures at.0 at.1).0 c.if-is_target.true) in
    stopped c.args.name c.args.frame.now g.M.PortMap.is_shared (g.M.PortMap.state c.args.others.now) (g.M.PortMap.state c.loop-place.others)
    (g.M.PortMap.state c.offer_at.new.others) (HasFound g.M.PortMap.state g.M.PortMap.found) c.args.self.now c.loop-place.self c.offer_at.new.self
    c.loop-place.place c.loop-place.offers.items at.0 switch c.loop-place.invariant.so_far at.1 target c.offer_at.ensures.others c.in-Err.ensures.memory

pub returns-then-not-is_group-clause-offered : goal.returns-then-not-is_group-clause-offered
returns-then-not-is_group-clause-offered g c =
    let less : c.loop-place.place < length c.loop-place.self = search rules in
    let at = there c.loop-place.place c.loop-place.self less in
    let switch : IsSwitch c.args.self.now = subst (λ l. IsSwitch l) c.self.view_is c.self.invariant in
    let target : IsTarget c.args.name.who (to_of c.args.frame.now) at.0 =
    subst (λ (m : Mac). IsTarget c.args.name.who m at.0) c.requires.to ((c.is_target.ensures at.0 at.1).0 c.if-is_target.true) in
    let single : IsGroup (to_of c.args.frame.now) → ⊥ =
    subst (λ (m : Mac). IsGroup m → ⊥) c.requires.to (λ group. no (c.if-not-is_group.ensures.1 group)) in
    subst (λ (l : List Offer). GoesOut (offering c.args.name c.args.frame.now (windows_of g.M.PortMap.is_shared g.M.PortMap.state g.M.PortMap.found c.args.others.now c.offer_at.new.others)) c.args.self.now c.offer_at.new.self l)
    (sym c.push.ensures.items)
    (taken_last c.args.name c.args.frame.now g.M.PortMap.is_shared (g.M.PortMap.state c.args.others.now) (g.M.PortMap.state c.loop-place.others)
    (g.M.PortMap.state c.offer_at.new.others) (HasFound g.M.PortMap.state g.M.PortMap.found) c.args.self.now c.loop-place.self c.offer_at.new.self
    c.loop-place.place c.loop-place.offers.items c.in-Ok.offer at.0 switch c.loop-place.invariant.so_far at.1 target c.in-Ok.ensures.offered
    c.offer_at.ensures.others single)

pub loop-place-preserved : goal.loop-place-preserved
loop-place-preserved g c =
    let less : c.loop-place.place < length c.loop-place.self = search rules in
    let at = there c.loop-place.place c.loop-place.self less in
    let switch : IsSwitch c.args.self.now = subst (λ l. IsSwitch l) c.self.view_is c.self.invariant in
    let facts = g.M.PortMap.state c.args.others.now in
    let Found = HasFound g.M.PortMap.state g.M.PortMap.found in
    elim c.if-is_target.branch [
      | then-is_target+in-Ok+else-not-is_group w ↦
          let target : IsTarget c.args.name.who (to_of c.args.frame.now) at.0 =
          subst (λ (m : Mac). IsTarget c.args.name.who m at.0) c.requires.to ((c.is_target.ensures at.0 at.1).0 w.if-is_target.true) in
          let group : IsGroup (to_of c.args.frame.now) = subst (λ (m : Mac). IsGroup m) c.requires.to (w.if-not-is_group.ensures.0 refl) in
          let next = taken_step c.args.name c.args.frame.now g.M.PortMap.is_shared facts (g.M.PortMap.state c.loop-place.others)
          (g.M.PortMap.state w.offer_at.new.others) Found c.args.self.now c.loop-place.self w.offer_at.new.self
          c.loop-place.place c.loop-place.offers.items w.in-Ok.offer at.0 switch c.loop-place.invariant.so_far at.1 target w.in-Ok.ensures.offered
          w.offer_at.ensures.others group in
          record {
            so_far = rw (w.self-is, w.others-is, w.offers-is, w.push.ensures.items) next;
            free = rw w.others-is w.offer_at.ensures.free;
          }
      | else-is_target w ↦
          let other : IsTarget c.args.name.who (to_of c.args.frame.now) at.0 → ⊥ =
          subst (λ (m : Mac). IsTarget c.args.name.who m at.0 → ⊥) c.requires.to
          (λ target. true≢false (sym ((c.is_target.ensures at.0 at.1).1 target) ∙ w.if-is_target.false)) in
          let next = passed_step c.args.name c.args.frame.now g.M.PortMap.is_shared facts (g.M.PortMap.state c.loop-place.others)
          Found c.args.self.now c.loop-place.self c.loop-place.place c.loop-place.offers.items at.0 c.loop-place.invariant.so_far at.1 other in
          record {
            so_far = rw (w.self-is, w.others-is, w.offers-is) next;
            free = rw w.others-is c.loop-place.invariant.free;
          }
    ]

pub returns-clause-offered : goal.returns-clause-offered
returns-clause-offered g c =
    let less : length c.loop-place.self ≤ c.loop-place.place = search rules in
    ended c.args.name c.args.frame.now g.M.PortMap.is_shared (g.M.PortMap.state c.args.others.now) (g.M.PortMap.state c.loop-place.others)
    (HasFound g.M.PortMap.state g.M.PortMap.found) c.args.self.now c.loop-place.self c.loop-place.place c.loop-place.offers.items
    c.loop-place.invariant.so_far less
