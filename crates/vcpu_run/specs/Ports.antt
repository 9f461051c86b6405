-- The LAN ports of a plan, and which units of a partition are ports.
use Rattle.std.specs.Prelude.{◌≡◌, ℕ, ◌+◌, ◌≤◌, ◌++◌, List, [], ◌∷◌, Some, IsSome, length, slice_get}
use Rattle.vio_num.specs.declared.names.UnitId.{UnitId}
use Rattle.boot_text.specs.declared.plan.Partition.{Partition}
use Rattle.boot_text.specs.declared.plan.UnitPlan.{UnitPlan}
use Rattle.boot_text.specs.declared.plan.UnitPlan.TheVariants as units
use Rattle.lan_script.specs.Seats.{seat_at}
use Rattle.lan_script.specs.declared.seat.PortSeat.{PortSeat}
use Rattle.vcpu_run.specs.declared.script.Script.{Script}
use Rattle.vcpu_run.specs.declared.unit_seat.Seat.{Seat}
use Rattle.vcpu_run.specs.declared.unit_seat.Seat.TheVariants as sits

abbrev pub unit_of : (partition unit : ℕ) → UnitId
unit_of partition unit = record { partition = partition; unit = unit }

-- a unit as a port, if it is one
abbrev pub port_of : UnitId → UnitPlan → List PortSeat
port_of id (units.Lan mac pages slots) = record { unit = id; mac = mac; pages = pages; slots = slots } ∷ []
port_of id _ = []

-- the ports among units of a partition, of which the first has this number
abbrev pub ports_in : (partition unit : ℕ) → List UnitPlan → List PortSeat
ports_in partition unit [] = []
ports_in partition unit (first ∷ others) = port_of (unit_of partition unit) first ++ ports_in partition (unit + 1) others

-- those of partitions, of which the first has this number
abbrev pub ports_from : ℕ → List Partition → List PortSeat
ports_from n [] = []
ports_from n (first ∷ others) = ports_in n 0 first.units ++ ports_from (n + 1) others

abbrev pub ports_of : List Partition → List PortSeat
ports_of partitions = ports_from 0 partitions

-- the unit is one of these ports
abbrev pub IsPortOf : List PortSeat → UnitId → Type 0
IsPortOf ports unit = IsSome (seat_at ports unit)

-- each unit of a partition that sits at a port is one of these
abbrev pub HavePorts : (partition : ℕ) → List Seat → List PortSeat → Type 0
HavePorts partition seats ports = (u : ℕ) → slice_get seats u ≡ Some sits.Port → IsPortOf ports (unit_of partition u)

-- A partition has at most 8 units, and those of them that sit at a port are among these.
pub record HasPorts (ports : List PortSeat) (script : Script) : Type 0 where
  pub few : length script.seats.items ≤ 8
  pub have : HavePorts script.partition script.seats.items ports
