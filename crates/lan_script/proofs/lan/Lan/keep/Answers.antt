use Rattle.std.proofs.Common.{◌∙◌, List, arith, refl, ap}
use Rattle.lan_script.specs.declared.seat.PortSeat.{PortSeat}
use Rattle.lan_script.specs.Seats.{seat_place}
use Rattle.lan_script.proofs.Keeping.{map_long}
use Rattle.lan_script.proofs.Kept.{kept_in, short_in}
use Rattle.lan_script.proofs.Lans.{frames_within}
use Rattle.lan_script.proofs.Telling.{keeps_bytes, keeps_sent}
use Rattle.lan_script.specs.Units.{LanValue}
use Rattle.lan_script.proofs.ReplayedSends.{kept_replay}
use Rattle.lan_script.proofs.lan.Lan.keep.Goals as goal

pub index_mut-requires : goal.index_mut-requires
index_mut-requires c =
    omega (
      arith,
      frames_within _ c.args.self.now c.args.unit c.place_of-place.result c.self.view_is c.self.invariant c.requires.there
          (c.place_of-place.ensures.place ∙ ap (λ (l : List PortSeat). seat_place c.args.unit l) c.deref.ensures.value),
      map_long (λ rows. rows.items) c.self.inside.frames.items,
      c.self.inside.frames.ok.0,
    )

pub invariant_of-self-in_err-push : goal.invariant_of-self-in_err-push
invariant_of-self-in_err-push c =
    short_in (λ rows. rows.items) c.self.inside.seats.items c.self.inside.switch c.self.inside.windows c.self.inside.frames.items c.self.inside.whole
    c.args.self.now c.place_of-place.result c.push.new.self c.self.view_is c.self.invariant c.requires.short

pub invariant_of-self-2 : goal.invariant_of-self-2
invariant_of-self-2 c =
    let at = c.place_of-place.ensures.place ∙ ap (λ (l : List PortSeat). seat_place c.args.unit l) c.deref.ensures.value in
    kept_in (λ rows. rows.items) c.self.inside.seats.items c.self.inside.switch c.self.inside.windows c.self.inside.frames.items c.self.inside.whole
    c.args.self.now c.args.unit c.args.made c.in-Some.number c.in_ok-row.row c.place_of-place.result c.index_mut.result.now c.push.new.self
    c.self.view_is c.self.invariant c.requires.owes c.in-Some.is c.in_ok-row.ensures at
    (omega (
      arith,
      frames_within _ c.args.self.now c.args.unit c.place_of-place.result c.self.view_is c.self.invariant c.requires.there at,
      map_long (λ rows. rows.items) c.self.inside.frames.items,
    )) c.index_mut.ensures.value c.in_ok-push.ensures.items

pub returns-clause-keeps : goal.returns-clause-keeps
returns-clause-keeps c =
    let at = c.place_of-place.ensures.place ∙ ap (λ (l : List PortSeat). seat_place c.args.unit l) c.deref.ensures.value in
    keeps_sent (λ rows. rows.items) _ c.args.self.now c.self.inside.frames.items c.args.unit c.args.made c.in-Some.number c.in_ok-row.row
    c.place_of-place.result c.index_mut.result.now c.push.new.self _ c.self.view_is c.self.invariant c.requires.there refl c.in-Some.is c.in_ok-row.ensures at
    (omega (
      arith,
      frames_within _ c.args.self.now c.args.unit c.place_of-place.result c.self.view_is c.self.invariant c.requires.there at,
      map_long (λ rows. rows.items) c.self.inside.frames.items,
    )) c.index_mut.ensures.value c.in_ok-push.ensures.items refl

pub returns-clause-adds : goal.returns-clause-adds
returns-clause-adds c =
    let at = c.place_of-place.ensures.place ∙ ap (λ (l : List PortSeat). seat_place c.args.unit l) c.deref.ensures.value in
    keeps_bytes (λ rows. rows.items) _ c.args.self.now c.self.inside.frames.items c.args.unit c.args.made c.in-Some.number c.in_ok-row.row
    c.place_of-place.result c.index_mut.result.now c.push.new.self _ _ c.self.view_is c.self.invariant c.requires.there refl c.in_ok-row.ensures at
    (omega (
      arith,
      frames_within _ c.args.self.now c.args.unit c.place_of-place.result c.self.view_is c.self.invariant c.requires.there at,
      map_long (λ rows. rows.items) c.self.inside.frames.items,
    )) c.index_mut.ensures.value c.in_ok-push.ensures.items refl (ap (λ (l : LanValue). l.seats) c.self.view_is)

pub returns-clause-replays : goal.returns-clause-replays
returns-clause-replays c =
    kept_replay c.args.unit c.args.made c.in-Some.number c.args.self.now _ c.requires.owes c.in-Some.is (ap (λ (l : LanValue). l.stations) c.self.view_is)
    (returns-clause-keeps c) (ap (λ (l : LanValue). l.seats) c.self.view_is) (returns-clause-adds c)
