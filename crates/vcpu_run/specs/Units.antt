-- The units of a machine in the order of their names.
use Rattle.std.specs.Prelude.{ℕ, List}
use Rattle.std.specs.List.{flat_map}
use Rattle.vcpu_run.specs.Numbered.{numbered}
use Rattle.vcpu_run.specs.Ports.{unit_of}
use Rattle.vcpu_run.specs.declared.script.Script.{Script}
use Rattle.vcpu_run.specs.declared.unit_seat.Seat.{Seat}
use Rattle.vcpu_run.specs.declared.unit_seat.UnitSeat.{UnitSeat}

-- a unit of a partition, which sits here
abbrev pub unit_seat : (partition : ℕ) → ℕ → Seat → UnitSeat
unit_seat partition u seat = record { unit = unit_of partition u; seat = seat }

-- the units of a script's partition
abbrev pub seats_by : Script → List UnitSeat
seats_by script = numbered (unit_seat script.partition) 0 script.seats.items

abbrev pub seats_of : List Script → List UnitSeat
seats_of scripts = flat_map seats_by scripts
