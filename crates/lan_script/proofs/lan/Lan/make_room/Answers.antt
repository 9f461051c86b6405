use Rattle.std.proofs.Common.{◌≡◌, IfSome, sym, subst}
use Rattle.lan_buffers.specs.Calls.{IsOpen}
use Rattle.lan_switch.specs.Switch.{port_of}
use Rattle.lan_script.specs.Units.{LanValue}
use Rattle.lan_switch.specs.Calls.{Reserves}
use Rattle.lan_script.proofs.Called.{reserves_same}
use Rattle.lan_script.proofs.Lans.{lan_at, port_there, room_made, room_opened}
use Rattle.lan_script.proofs.CountedCalls.{reserves_rows}
use Rattle.lan_script.proofs.CountsKept.{port_counts}
use Rattle.lan_script.proofs.ReplayedCalls.{reserves_stay}
use Rattle.lan_script.proofs.Replaying.{port_replays, stays_all}
use Rattle.lan_script.proofs.Resting.{port_rests, reserves_rest}
use Rattle.lan_script.proofs.lan.Lan.make_room.Goals as goal

pub reserve-requires : goal.reserve-requires
reserve-requires c = record { port = port_there _ c.args.self.now c.args.unit c.self.view_is c.self.invariant c.requires.there }

pub invariant_of-self : goal.invariant_of-self
invariant_of-self c =
    lan_at _ c.args.unit c.reserve.new.self (Reserves 1 c.reserve.result) c.self.invariant c.reserve.ensures
    (λ before after h. reserves_same 1 c.reserve.result before after h)

pub returns-clause-room : goal.returns-clause-room
returns-clause-room c = room_made c.self.inside.switch c.reserve.new.self c.args.unit c.reserve.result c.reserve.ensures

pub returns-clause-counts : goal.returns-clause-counts
returns-clause-counts c =
    port_counts _ c.args.self.now c.args.unit c.reserve.new.self (Reserves 1 c.reserve.result) c.self.view_is c.reserve.ensures
    (λ before after h. reserves_rows 1 c.reserve.result before after h)

pub returns-clause-opened : goal.returns-clause-opened
returns-clause-opened c = λ opened.
    room_opened c.self.inside.switch c.reserve.new.self c.args.unit c.reserve.result c.reserve.ensures
    (subst (λ (l : LanValue). IfSome (port_of l.stations c.args.unit) IsOpen) (sym c.self.view_is) opened)

pub returns-clause-replays : goal.returns-clause-replays
returns-clause-replays c =
    stays_all c.args.unit c.args.self.now _
    (port_replays _ c.args.self.now c.args.unit c.reserve.new.self (Reserves 1 c.reserve.result) (λ a b. b ≡ a) c.self.view_is c.reserve.ensures
    (λ before after was h. reserves_stay 1 c.reserve.result before after h))

pub returns-clause-still : goal.returns-clause-still
returns-clause-still c =
    port_rests _ c.args.self.now c.args.unit c.reserve.new.self (Reserves 1 c.reserve.result) c.self.view_is c.reserve.ensures
    (λ before after h. reserves_rest 1 c.reserve.result before after h)
