-- What seats are opened as.
use Rattle.std.specs.Prelude.{true, List, [], map}
use Rattle.lan_switch.specs.Switch.{opened}
use Rattle.lan_switch.specs.declared.switch.PortPlan.{PortPlan}
use Rattle.lan_script.specs.declared.seat.PortSeat.{PortSeat}
use Rattle.lan_script.specs.declared.windows.Place.{Place}
use Rattle.lan_script.specs.Units.{LanValue}
use Rattle.lan_script.specs.Windows.{fresh_place}

-- the port of a seat
abbrev pub plan_of : PortSeat → PortPlan
plan_of seat = record { unit = seat.unit; slots = seat.slots }

-- its window
abbrev pub window_of : PortSeat → Place
window_of seat = fresh_place seat.unit seat.pages

-- LAN units before a run: each port is closed, each window grants every page of its own number, and no frame was sent
abbrev pub fresh_lan : List PortSeat → LanValue
fresh_lan seats = record {
  seats = seats;
  stations = map opened (map plan_of seats);
  places = map window_of seats;
  frames = map (λ _. []) seats;
  whole = true;
}
