use Rattle.std.proofs.Common.{◌∙◌, List, IsSome, ap, sym, subst}
use Rattle.lan_switch.specs.Calls.{Registers}
use Rattle.lan_script.specs.declared.seat.PortSeat.{PortSeat}
use Rattle.lan_script.specs.Seats.{seat_at}
use Rattle.lan_script.proofs.Called.{registers_same}
use Rattle.lan_script.proofs.Lans.{lan_made}
use Rattle.lan_script.proofs.CountedCalls.{registers_rows}
use Rattle.lan_script.proofs.CountsKept.{made_counts, same_on}
use Rattle.lan_script.proofs.ReplayedCalls.{registers_replay}
use Rattle.lan_script.proofs.OwnMacs.{registers_mac}
use Rattle.lan_script.proofs.Replaying.{made_beside, made_replays, replays_behind, seat_slots}
use Rattle.lan_script.specs.OwnMac.{SetsMac, changed_to}
use Rattle.lan_script.specs.PortReplay.{OpenSays}
use Rattle.vio_trace.specs.declared.outcome.Outcome.TheVariants as outcomes
use Rattle.lan_script.proofs.lan.Lan.register.Goals as goal

pub invariant_of-self : goal.invariant_of-self
invariant_of-self c =
    lan_made _ c.make_room.new.self c.args.unit c.register.result c.register.new.self
    (Registers c.args.list c.args.queue c.args.filters c.args.mac c.register.result) c.self.view_is c.self.invariant
    (subst (λ (l : List PortSeat). IsSome (seat_at l c.args.unit)) (sym c.make_room.ensures.seats) c.requires.there) c.register.ensures
    (λ before after h. registers_same c.args.list c.args.queue c.args.filters c.args.mac c.register.result before after h)

pub returns-clause-counts : goal.returns-clause-counts
returns-clause-counts c =
    same_on c.args.self.now c.make_room.new.self _ c.make_room.ensures.counts
    (made_counts _ c.make_room.new.self c.args.unit c.register.result c.register.new.self
    (Registers c.args.list c.args.queue c.args.filters c.args.mac c.register.result) c.self.view_is c.self.invariant
    (subst (λ (l : List PortSeat). IsSome (seat_at l c.args.unit)) (sym c.make_room.ensures.seats) c.requires.there) c.register.ensures
    (λ before after h. registers_rows c.args.list c.args.queue c.args.filters c.args.mac c.register.result before after h))

pub returns-clause-replays : goal.returns-clause-replays
returns-clause-replays c = λ seat at may.
    replays_behind c.args.unit (λ a b. OpenSays c.args.mac a.settings (outcomes.Code c.register.result.code) a b) c.args.self.now c.make_room.new.self _
    c.make_room.ensures.replays
    (made_replays _ c.make_room.new.self c.args.unit c.register.new.self c.register.result
    (Registers c.args.list c.args.queue c.args.filters c.args.mac c.register.result)
    (λ a b. OpenSays c.args.mac a.settings (outcomes.Code c.register.result.code) a b) c.self.view_is c.self.invariant
    (subst (λ (l : List PortSeat). IsSome (seat_at l c.args.unit)) (sym c.make_room.ensures.seats) c.requires.there) c.register.ensures
    (λ before after was h.
    registers_replay c.args.list c.args.queue c.args.filters c.args.mac seat c.register.result before after
    (seat_slots _ c.make_room.new.self c.args.unit seat before c.self.view_is c.self.invariant
    (ap (λ (l : List PortSeat). seat_at l c.args.unit) c.make_room.ensures.seats ∙ at) was) may h))

pub returns-clause-macs : goal.returns-clause-macs
returns-clause-macs c =
    replays_behind c.args.unit (SetsMac (changed_to c.args.mac (outcomes.Code c.register.result.code))) c.args.self.now c.make_room.new.self _ c.make_room.ensures.replays
    (made_replays _ c.make_room.new.self c.args.unit c.register.new.self c.register.result
    (Registers c.args.list c.args.queue c.args.filters c.args.mac c.register.result) (SetsMac (changed_to c.args.mac (outcomes.Code c.register.result.code))) c.self.view_is c.self.invariant
    (subst (λ (l : List PortSeat). IsSome (seat_at l c.args.unit)) (sym c.make_room.ensures.seats) c.requires.there) c.register.ensures
    (λ before after was h. registers_mac c.args.list c.args.queue c.args.filters c.args.mac c.register.result before after h))

pub returns-clause-beside : goal.returns-clause-beside
returns-clause-beside c = λ other e.
    made_beside _ c.make_room.new.self c.args.unit c.register.new.self c.register.result
    (Registers c.args.list c.args.queue c.args.filters c.args.mac c.register.result) c.self.view_is c.self.invariant
    (subst (λ (l : List PortSeat). IsSome (seat_at l c.args.unit)) (sym c.make_room.ensures.seats) c.requires.there) c.register.ensures
    (λ before after h. (registers_same c.args.list c.args.queue c.args.filters c.args.mac c.register.result before after h).unit) other e
    ∙ c.make_room.ensures.replays other
