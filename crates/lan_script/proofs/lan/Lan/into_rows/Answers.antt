use Rattle.std.proofs.Common.{◌∙◌, All, List, arith, sym, subst}
use Rattle.lan_switch.specs.Switch.{IsPort}
use Rattle.lan_script.specs.declared.seat.PortSeat.{PortSeat}
use Rattle.lan_script.proofs.CarriedRows.{carried_told}
use Rattle.lan_script.proofs.Lawful.{flat_mapped, ports_there, told}
use Rattle.lan_script.proofs.lan.Lan.into_rows.Goals as goal

pub session_rows-requires : goal.session_rows-requires
session_rows-requires c =
    subst (λ (l : List PortSeat). All (λ (seat : PortSeat). IsPort c.self.inside.switch seat.unit) l) (sym c.deref.ensures.value) (ports_there _ c.self.invariant)

pub posted_rows-requires : goal.posted_rows-requires
posted_rows-requires c =
    subst (λ (l : List PortSeat). All (λ (seat : PortSeat). IsPort c.self.inside.switch seat.unit) l) (sym c.deref-2.ensures.value) (ports_there _ c.self.invariant)

pub delivered_rows-requires : goal.delivered_rows-requires
delivered_rows-requires c =
    subst (λ (l : List PortSeat). All (λ (seat : PortSeat). IsPort c.self.inside.switch seat.unit) l) (sym c.deref-3.ensures.value) (ports_there _ c.self.invariant)

pub harvested_rows-requires : goal.harvested_rows-requires
harvested_rows-requires c =
    subst (λ (l : List PortSeat). All (λ (seat : PortSeat). IsPort c.self.inside.switch seat.unit) l) (sym c.deref-4.ensures.value) (ports_there _ c.self.invariant)

pub returns-clause-law : goal.returns-clause-law
returns-clause-law c =
    (told _ c.args.self
    (record {
      frames = c.in_ok-all_frames.field-0;
      ports = c.in_ok-session_rows.field-0;
      posts = c.in_ok-posted_rows.field-0;
      delivers = c.in_ok-delivered_rows.field-0;
      harvests = c.in_ok-harvested_rows.field-0;
    }) c.deref.result.now c.deref-2.result.now c.deref-3.result.now c.deref-4.result.now c.self.view_is c.self.invariant
    c.if-not-whole.false (omega (arith, c.in_ok-all_frames.field-0.ok.0))
    (c.in_ok-all_frames.ensures ∙ flat_mapped (λ rows. rows.items) c.self.inside.frames.items) c.in_ok-session_rows.ensures.rows
    c.in_ok-posted_rows.ensures c.in_ok-delivered_rows.ensures c.in_ok-harvested_rows.ensures c.deref.ensures.value c.deref-2.ensures.value
    c.deref-3.ensures.value c.deref-4.ensures.value c.in_ok-session_rows.ensures.lawful).lawful

pub returns-clause-order : goal.returns-clause-order
returns-clause-order c =
    (told _ c.args.self
    (record {
      frames = c.in_ok-all_frames.field-0;
      ports = c.in_ok-session_rows.field-0;
      posts = c.in_ok-posted_rows.field-0;
      delivers = c.in_ok-delivered_rows.field-0;
      harvests = c.in_ok-harvested_rows.field-0;
    }) c.deref.result.now c.deref-2.result.now c.deref-3.result.now c.deref-4.result.now c.self.view_is c.self.invariant
    c.if-not-whole.false (omega (arith, c.in_ok-all_frames.field-0.ok.0))
    (c.in_ok-all_frames.ensures ∙ flat_mapped (λ rows. rows.items) c.self.inside.frames.items) c.in_ok-session_rows.ensures.rows
    c.in_ok-posted_rows.ensures c.in_ok-delivered_rows.ensures c.in_ok-harvested_rows.ensures c.deref.ensures.value c.deref-2.ensures.value
    c.deref-3.ensures.value c.deref-4.ensures.value c.in_ok-session_rows.ensures.lawful).ordered

pub returns-clause-exact : goal.returns-clause-exact
returns-clause-exact c =
    (told _ c.args.self
    (record {
      frames = c.in_ok-all_frames.field-0;
      ports = c.in_ok-session_rows.field-0;
      posts = c.in_ok-posted_rows.field-0;
      delivers = c.in_ok-delivered_rows.field-0;
      harvests = c.in_ok-harvested_rows.field-0;
    }) c.deref.result.now c.deref-2.result.now c.deref-3.result.now c.deref-4.result.now c.self.view_is c.self.invariant
    c.if-not-whole.false (omega (arith, c.in_ok-all_frames.field-0.ok.0))
    (c.in_ok-all_frames.ensures ∙ flat_mapped (λ rows. rows.items) c.self.inside.frames.items) c.in_ok-session_rows.ensures.rows
    c.in_ok-posted_rows.ensures c.in_ok-delivered_rows.ensures c.in_ok-harvested_rows.ensures c.deref.ensures.value c.deref-2.ensures.value
    c.deref-3.ensures.value c.deref-4.ensures.value c.in_ok-session_rows.ensures.lawful).exact

pub returns-clause-counted : goal.returns-clause-counted
returns-clause-counted c =
    (told _ c.args.self
    (record {
      frames = c.in_ok-all_frames.field-0;
      ports = c.in_ok-session_rows.field-0;
      posts = c.in_ok-posted_rows.field-0;
      delivers = c.in_ok-delivered_rows.field-0;
      harvests = c.in_ok-harvested_rows.field-0;
    }) c.deref.result.now c.deref-2.result.now c.deref-3.result.now c.deref-4.result.now c.self.view_is c.self.invariant
    c.if-not-whole.false (omega (arith, c.in_ok-all_frames.field-0.ok.0))
    (c.in_ok-all_frames.ensures ∙ flat_mapped (λ rows. rows.items) c.self.inside.frames.items) c.in_ok-session_rows.ensures.rows
    c.in_ok-posted_rows.ensures c.in_ok-delivered_rows.ensures c.in_ok-harvested_rows.ensures c.deref.ensures.value c.deref-2.ensures.value
    c.deref-3.ensures.value c.deref-4.ensures.value c.in_ok-session_rows.ensures.lawful).counted

pub returns-clause-carried : goal.returns-clause-carried
returns-clause-carried c =
    carried_told _ c.args.self
    (record {
      frames = c.in_ok-all_frames.field-0;
      ports = c.in_ok-session_rows.field-0;
      posts = c.in_ok-posted_rows.field-0;
      delivers = c.in_ok-delivered_rows.field-0;
      harvests = c.in_ok-harvested_rows.field-0;
    }) c.self.view_is c.self.invariant c.if-not-whole.false
    (told _ c.args.self
    (record {
      frames = c.in_ok-all_frames.field-0;
      ports = c.in_ok-session_rows.field-0;
      posts = c.in_ok-posted_rows.field-0;
      delivers = c.in_ok-delivered_rows.field-0;
      harvests = c.in_ok-harvested_rows.field-0;
    }) c.deref.result.now c.deref-2.result.now c.deref-3.result.now c.deref-4.result.now c.self.view_is c.self.invariant
    c.if-not-whole.false (omega (arith, c.in_ok-all_frames.field-0.ok.0))
    (c.in_ok-all_frames.ensures ∙ flat_mapped (λ rows. rows.items) c.self.inside.frames.items) c.in_ok-session_rows.ensures.rows
    c.in_ok-posted_rows.ensures c.in_ok-delivered_rows.ensures c.in_ok-harvested_rows.ensures c.deref.ensures.value c.deref-2.ensures.value
    c.deref-3.ensures.value c.deref-4.ensures.value c.in_ok-session_rows.ensures.lawful).exact
