use Rattle.std.proofs.Common.{ℕ, false, List, IsSome, sym, subst}
use Rattle.tce_window.specs.PlainPort.{known_of}
use Rattle.lan_switch.specs.Calls.{Adds}
use Rattle.lan_script.specs.declared.seat.PortSeat.{PortSeat}
use Rattle.lan_script.specs.Seats.{seat_at}
use Rattle.lan_script.proofs.Buffering.{buffer_behind, made_buffer}
use Rattle.lan_script.proofs.Called.{adds_same}
use Rattle.lan_script.proofs.CarriedOn.{keeps_through}
use Rattle.lan_script.proofs.Correlating.{made_carries}
use Rattle.lan_script.proofs.Lans.{lan_back, lan_made, place_after, window_free, window_there}
use Rattle.lan_script.specs.PortCounts.{posted_on}
use Rattle.lan_script.proofs.CountedCalls.{adds_more}
use Rattle.lan_script.proofs.CountsKept.{counts_behind, made_adds}
use Rattle.lan_buffers.specs.Buffer.{IsBuffer, buffer_address, buffer_len}
use Rattle.lan_script.specs.Replayed.{AddSays}
use Rattle.lan_script.proofs.Replaying.{made_replays, replays_behind}
use Rattle.lan_script.proofs.ReplayedFits.{fits_on, grants_on, made_fits}
use Rattle.lan_script.proofs.ReplayedPosts.{adds_replay}
use Rattle.lan_script.proofs.ReplayedRegion.{grants_back}
use Rattle.lan_script.proofs.ReplayedValues.{put_back}
use Rattle.lan_script.specs.Values.{KeepsValues}
use Rattle.lan_script.specs.declared.windows.Place.{Place}
use Rattle.lan_script.proofs.RegionsGrow.{regions_back, regions_behind}
use Rattle.lan_script.proofs.RegionMarks.{marks_behind, none_back, through_none}
use Rattle.lan_script.specs.Regions.{IsNoMark}
use Rattle.lan_script.proofs.lan.Lan.add.Goals as goal

abbrev none_found : ℕ → ℕ → Type 0
none_found page word = ⊥

pub take-own-requires : goal.take-own-requires
take-own-requires c =
    window_there _ c.make_room.new.self c.args.unit c.self.view_is c.self.invariant
    (subst (λ (l : List PortSeat). IsSome (seat_at l c.args.unit)) (sym c.make_room.ensures.seats) c.requires.there)

pub add-answer-requires-clause-free : goal.add-answer-requires-clause-free
add-answer-requires-clause-free c =
    window_free _ c.make_room.new.self c.args.unit c.take-own.result c.self.view_is c.self.invariant
    (subst (λ (l : List PortSeat). IsSome (seat_at l c.args.unit)) (sym c.make_room.ensures.seats) c.requires.there) c.take-own.ensures.window

pub put-requires-clause-place : goal.put-requires-clause-place
put-requires-clause-place c =
    place_after c.args.unit c.self.inside.windows c.take-own.new.self c.take-own.result c.take-own.ensures.window c.take-own.ensures.rest

pub invariant_of-self : goal.invariant_of-self
invariant_of-self c =
    let there = subst (λ (l : List PortSeat). IsSome (seat_at l c.args.unit)) (sym c.make_room.ensures.seats) c.requires.there in
    let free = window_free _ c.make_room.new.self c.args.unit c.take-own.result c.self.view_is c.self.invariant there c.take-own.ensures.window in
    lan_back _ c.args.unit c.take-own.new.self c.put.new.self c.take-own.result c.add-answer.new.window
    (lan_made _ c.make_room.new.self c.args.unit c.add-answer.result c.add-answer.new.self
    (Adds c.args.descriptor false none_found (known_of c.take-own.result) (known_of c.add-answer.new.window) c.add-answer.result) c.self.view_is
    c.self.invariant there c.add-answer.ensures.made
    (λ before after h. adds_same c.args.descriptor false none_found (known_of c.take-own.result) (known_of c.add-answer.new.window) c.add-answer.result before after h))
    c.take-own.ensures.window c.take-own.ensures.unit c.take-own.ensures.rest c.put.ensures
    (keeps_through (known_of c.take-own.result) (known_of c.add-answer.new.window) c.add-answer.ensures.window free)

pub returns-clause-counts : goal.returns-clause-counts
returns-clause-counts c =
    let there = subst (λ (l : List PortSeat). IsSome (seat_at l c.args.unit)) (sym c.make_room.ensures.seats) c.requires.there in
    counts_behind c.args.unit _ c.args.self.now c.make_room.new.self _ c.make_room.ensures.counts
    (made_adds _ c.make_room.new.self _ c.args.unit c.add-answer.result
    (Adds c.args.descriptor false none_found (known_of c.take-own.result) (known_of c.add-answer.new.window) c.add-answer.result) (posted_on c.add-answer.result.code)
    c.self.view_is c.self.invariant there c.add-answer.ensures.made
    (λ before after begun h. adds_more c.args.descriptor false none_found (known_of c.take-own.result) (known_of c.add-answer.new.window) c.add-answer.result before after begun h))

pub returns-clause-posts : goal.returns-clause-posts
returns-clause-posts c = λ e.
    buffer_behind c.args.unit c.args.descriptor c.args.self.now c.make_room.new.self _ c.make_room.ensures.counts
    (made_buffer _ c.make_room.new.self c.add-answer.new.self c.args.unit c.add-answer.result c.args.descriptor false none_found (known_of c.take-own.result)
    (known_of c.add-answer.new.window) c.self.view_is c.self.invariant
    (subst (λ (l : List PortSeat). IsSome (seat_at l c.args.unit)) (sym c.make_room.ensures.seats) c.requires.there) c.add-answer.ensures.made e)

pub returns-clause-replays : goal.returns-clause-replays
returns-clause-replays c =
    let h =
    replays_behind c.args.unit (AddSays (buffer_len c.args.descriptor) (IsBuffer c.args.descriptor) c.add-answer.result.code) c.args.self.now c.make_room.new.self _
    c.make_room.ensures.replays
    (made_replays _ c.make_room.new.self c.args.unit c.add-answer.new.self c.add-answer.result
    (Adds c.args.descriptor false none_found (known_of c.take-own.result) (known_of c.add-answer.new.window) c.add-answer.result)
    (AddSays (buffer_len c.args.descriptor) (IsBuffer c.args.descriptor) c.add-answer.result.code) c.self.view_is c.self.invariant
    (subst (λ (l : List PortSeat). IsSome (seat_at l c.args.unit)) (sym c.make_room.ensures.seats) c.requires.there) c.add-answer.ensures.made
    (λ before after was h. adds_replay c.args.descriptor none_found (known_of c.take-own.result) (known_of c.add-answer.new.window) c.add-answer.result before after h)) in
    record { says = h.says; beside = h.beside }

pub returns-clause-grants : goal.returns-clause-grants
returns-clause-grants c = λ grants e.
    grants_back _ c.make_room.new.self c.args.unit c.take-own.new.self c.put.new.self c.take-own.result c.add-answer.new.window c.self.view_is
    c.take-own.ensures.window c.take-own.ensures.rest c.put.ensures c.add-answer.ensures.window.rest.values
    (grants_on c.args.self.now c.make_room.new.self c.args.unit c.make_room.ensures.places grants) e

pub returns-clause-fits : goal.returns-clause-fits
returns-clause-fits c = λ valid fit.
    made_fits _ c.make_room.new.self c.args.unit c.add-answer.new.self c.add-answer.result c.args.descriptor none_found c.take-own.result c.add-answer.new.window
    c.self.view_is c.self.invariant (subst (λ (l : List PortSeat). IsSome (seat_at l c.args.unit)) (sym c.make_room.ensures.seats) c.requires.there)
    c.take-own.ensures.window c.add-answer.ensures.window.rest.values c.add-answer.ensures.made valid
    (fits_on c.args.self.now c.make_room.new.self c.args.unit (buffer_address c.args.descriptor) (buffer_len c.args.descriptor)
    (c.make_room.ensures.replays c.args.unit) c.make_room.ensures.seats
    (grants_on c.args.self.now c.make_room.new.self c.args.unit c.make_room.ensures.places) fit)

pub returns-clause-values : goal.returns-clause-values
returns-clause-values c = λ v.
    subst (λ (ps : List Place). KeepsValues v ps c.put.new.self) c.make_room.ensures.places
    (put_back _ c.make_room.new.self c.args.unit c.take-own.new.self c.put.new.self c.take-own.result c.add-answer.new.window c.self.view_is
    c.take-own.ensures.window c.take-own.ensures.rest c.put.ensures c.add-answer.ensures.window.rest.values v)

pub returns-clause-addresses : goal.returns-clause-addresses
returns-clause-addresses c = λ names shows carry.
    made_carries _ c.args.self.now c.make_room.new.self c.add-answer.new.self c.args.unit c.add-answer.result c.args.descriptor none_found c.take-own.result
    c.add-answer.new.window c.self.view_is c.self.invariant
    (subst (λ (l : List PortSeat). IsSome (seat_at l c.args.unit)) (sym c.make_room.ensures.seats) c.requires.there) c.take-own.ensures.window
    c.add-answer.ensures.window c.add-answer.ensures.made c.make_room.ensures.places c.make_room.ensures.counts names shows carry

pub returns-clause-regions : goal.returns-clause-regions
returns-clause-regions c =
    let there = subst (λ (l : List PortSeat). IsSome (seat_at l c.args.unit)) (sym c.make_room.ensures.seats) c.requires.there in
    let free = window_free _ c.make_room.new.self c.args.unit c.take-own.result c.self.view_is c.self.invariant there c.take-own.ensures.window in
    regions_behind c.args.self.now c.make_room.new.self c.put.new.self c.make_room.ensures.places
    (regions_back _ c.make_room.new.self c.args.unit c.take-own.new.self c.put.new.self c.take-own.result c.add-answer.new.window c.self.view_is
    c.take-own.ensures.window c.take-own.ensures.rest c.put.ensures
    (keeps_through (known_of c.take-own.result) (known_of c.add-answer.new.window) c.add-answer.ensures.window free))

pub returns-clause-marks : goal.returns-clause-marks
returns-clause-marks c =
    marks_behind IsNoMark c.args.self.now c.make_room.new.self c.put.new.self c.make_room.ensures.places
    (none_back _ c.make_room.new.self c.args.unit c.take-own.new.self c.put.new.self c.take-own.result c.add-answer.new.window c.self.view_is
    c.take-own.ensures.window c.take-own.ensures.rest c.put.ensures
    (through_none (known_of c.take-own.result) (known_of c.add-answer.new.window) c.add-answer.ensures.window))
