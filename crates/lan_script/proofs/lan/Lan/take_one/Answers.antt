use Rattle.std.proofs.Common.{◌≡◌, ◌∙◌, List, IsSome, sym, subst}
use Rattle.lan_switch.specs.Calls.{Harvests}
use Rattle.lan_script.specs.declared.seat.PortSeat.{PortSeat}
use Rattle.lan_script.specs.Seats.{seat_at}
use Rattle.lan_script.proofs.Called.{harvests_same}
use Rattle.lan_script.proofs.Lans.{lan_at, port_there}
use Rattle.lan_script.proofs.CountsKept.{takes_one}
use Rattle.lan_script.proofs.ReplayedCalls.{harvests_stay}
use Rattle.lan_script.proofs.Replaying.{port_replays, stays_all}
use Rattle.lan_script.proofs.Resting.{found_none, found_reads}
use Rattle.lan_script.proofs.lan.Lan.take_one.Goals as goal

pub harvest-requires-clause-port : goal.harvest-requires-clause-port
harvest-requires-clause-port c =
    port_there _ c.make_room.new.self c.args.unit c.self.view_is c.self.invariant
    (subst (λ (l : List PortSeat). IsSome (seat_at l c.args.unit)) (sym c.make_room.ensures.seats) c.requires.there)

pub invariant_of-self : goal.invariant_of-self
invariant_of-self c =
    lan_at _ c.args.unit c.harvest.new.self (Harvests c.harvest.result) c.self.invariant c.harvest.ensures
    (λ before after h. harvests_same c.harvest.result before after h)

pub returns-clause-counts : goal.returns-clause-counts
returns-clause-counts c =
    takes_one _ c.make_room.new.self c.args.self.now _ c.args.unit c.harvest.result _ c.self.view_is c.self.invariant c.make_room.ensures.counts c.kind_of.ensures.found
    c.kind_of.ensures.short (c.make_room.ensures.opened (c.is_open.ensures.0 c.if-not-is_open.false)) c.harvest.ensures

pub returns-clause-replays : goal.returns-clause-replays
returns-clause-replays c = λ v.
    stays_all c.args.unit c.make_room.new.self _
    (port_replays _ c.make_room.new.self c.args.unit c.harvest.new.self (Harvests c.harvest.result) (λ a b. b ≡ a) c.self.view_is c.harvest.ensures
    (λ before after was h. harvests_stay c.harvest.result before after h)) v
    ∙ c.make_room.ensures.replays v

pub returns-clause-nothing : goal.returns-clause-nothing
returns-clause-nothing c =
    found_none _ c.make_room.new.self c.args.self.now c.args.unit c.harvest.new.self c.harvest.result c.kind_of.result c.self.view_is c.harvest.ensures
    c.make_room.ensures.still c.kind_of.ensures.nothing

pub returns-clause-reads : goal.returns-clause-reads
returns-clause-reads c =
    found_reads _ c.make_room.new.self c.args.self.now c.args.unit c.harvest.new.self c.harvest.result c.kind_of.result c.self.view_is c.harvest.ensures
    c.make_room.ensures.still c.kind_of.ensures.reads
