-- What raw hypervisor calls leave of the units of a partition.
use Rattle.std.specs.Prelude.{◌≡◌, ℕ, nat_lt, true, List, [], ◌∷◌, IfOk, OnOk, Option, Some, None, Result, length, ⊤, if◌then◌else◌}
use Rattle.std.specs.List.{slice_get}
use Rattle.vio_num.specs.declared.memory.NoMemory.{NoMemory}
use Rattle.vio_num.specs.declared.hypervisor.Hrc.{Hrc}
use Rattle.vio_num.specs.declared.names.Mac.{Mac}
use Rattle.vio_trace.specs.declared.outcome.Outcome.TheVariants as outcomes
use Rattle.hcall_table.specs.Asked.{Asked}
use Rattle.hcall_table.specs.Named.{Place, is_of_window, unit_of as unit_asked}
use Rattle.hcall_table.specs.Rows.{further, row_of}
use Rattle.hcall_table.specs.declared.hcall.Hcall.{Hcall}
use Rattle.hcall_table.specs.declared.hcall.Hcall.TheVariants as rows
use Rattle.hcall_table.specs.declared.returned.Returned.{Returned}
use Rattle.lan_script.specs.CalledMac.{low_mac}
use Rattle.lan_script.specs.OwnMac.{changed_to}
use Rattle.lan_script.specs.Seats.{seat_at}
use Rattle.lan_script.specs.Units.{LanValue}
use Rattle.lan_script.specs.declared.seat.PortSeat.{PortSeat}
use Rattle.vcpu_run.specs.ClientStrokes.{NoneLay}
use Rattle.vcpu_run.specs.declared.partition_units.PartitionUnits.{PartitionUnits}
use Rattle.vcpu_run.specs.declared.unit_seat.Seat.{Seat}
use Rattle.vcpu_run.specs.declared.unit_seat.Seat.TheVariants as sits
use Rattle.vcpu_run.specs.Agreed.{SameDrivers, SameElse}
pub use Rattle.vcpu_run.specs.CallsAnswered.{pair_of}
use Rattle.vcpu_run.specs.CallsAnswered.{IsReturned, UnitSeen, port_seen, unit_seen}
use Rattle.vcpu_run.specs.Freed.{FreesNoneIf}
use Rattle.vcpu_run.specs.Freeing.{NoneSits}
use Rattle.vcpu_run.specs.Pairs.{AreDriven}
pub use Rattle.vcpu_run.specs.PortCalls.{kind_of}
use Rattle.vcpu_run.specs.PortCalls.{HasAll}
use Rattle.vcpu_run.specs.Ports.{IsPortOf, unit_of}
use Rattle.vcpu_run.specs.PortMacs.{CallsPort, CallsPorts, mac_asked}
use Rattle.vcpu_run.specs.PortSteps.{IsApart}

-- where a unit sits, if its pair is one of so many, or its port one of these
abbrev pub port_if : Option PortSeat → Option Seat
port_if None = None
port_if (Some port) = Some sits.Port

abbrev pub seat_among : (partition unit count : ℕ) → List PortSeat → Option Seat → Option Seat
seat_among partition unit count ports None = None
seat_among partition unit count ports (Some sits.Server) = Some sits.Server
seat_among partition unit count ports (Some (sits.Client k)) = if nat_lt k count then Some (sits.Client k) else None
seat_among partition unit count ports (Some sits.Port) = port_if (seat_at ports (unit_of partition unit))

abbrev pub seat_by : (partition : ℕ) → List Seat → (count : ℕ) → List PortSeat → (unit : ℕ) → Option Seat
seat_by partition seats count ports unit = seat_among partition unit count ports (slice_get seats unit)

abbrev pub seat_in : PartitionUnits → ℕ → Option Seat
seat_in units unit = seat_by units.partition units.seats.now (length units.pairs.now) units.lan.now.seats unit

-- the partition, and its units
abbrev pub units_at : (partition : ℕ) → List Seat → (count : ℕ) → List PortSeat → Place
units_at partition seats count ports = record { partition = partition; kind = λ unit. kind_of (seat_by partition seats count ports unit) }

abbrev pub place_of : PartitionUnits → Place
place_of units = units_at units.partition units.seats.now (length units.pairs.now) units.lan.now.seats

-- a unit that sits there has its pair, or its port
abbrev pub IsThere : PartitionUnits → (unit : ℕ) → Seat → Type 0
IsThere units unit sits.Server = ⊤
IsThere units unit (sits.Client k) = nat_lt k (length units.pairs.now) ≡ true
IsThere units unit sits.Port = IsPortOf units.lan.now.seats (unit_of units.partition unit)

-- Each pair is left as its client's part of a turn leaves it, no driver is told, the ports are the same, no other partition's
-- client has its queue freed, the pairs of others are as before, and no stroke is laid in a client's region.
pub record CallsUnits (old new : PartitionUnits) : Type 0 where
  pub lender : new.pairs.ghost_name ≡ old.pairs.ghost_name
  pub lan_lender : new.lan.ghost_name ≡ old.lan.ghost_name
  pub driven : AreDriven old.pairs.now new.pairs.now
  pub told : SameDrivers old.pairs.now new.pairs.now
  pub ports : new.lan.now.seats ≡ old.lan.now.seats
  pub stays : FreesNoneIf (NoneSits old.seats.now) old.pairs.now new.pairs.now
  pub others : SameElse old.seats.now old.pairs.now new.pairs.now
  pub lays : NoneLay old.pairs.now new.pairs.now

-- And a call that was made leaves the LAN units of other partitions as they were.
pub record MakesCall (old new : PartitionUnits) (answer : Result Returned NoMemory) : Type 0 where
  pub units : CallsUnits old new
  pub apart : OnOk answer (IsApart old.partition old.lan.now new.lan.now)

-- the unit of this number where it sat, with its pair as a call left it
abbrev pub seen_after : (old new : PartitionUnits) → (unit : ℕ) → UnitSeen
seen_after old new unit = unit_seen (pair_of new.pairs.now (seat_in old unit))

-- the address that a row's call gives with these arguments behind its unit, where it succeeds
abbrev pub mac_of_row : Hcall → List ℕ → Hrc → Option Mac
mac_of_row rows.RegisterLogicalLan (list ∷ queue ∷ filters ∷ mac ∷ []) code = changed_to (low_mac mac) (outcomes.Code code)
mac_of_row rows.ChangeLogicalLanMac (mac ∷ []) code = changed_to (low_mac mac) (outcomes.Code code)
mac_of_row row args code = None

-- a call at this unit made this of the ports of its partition
abbrev pub CallsAt : (unit : ℕ) → (given : Hrc → Option Mac) → (old new : PartitionUnits) → Returned → Type 0
CallsAt unit given old new returned = CallsPorts old.partition unit (given returned.code) old.lan.now new.lan.now

-- the same by its number and its arguments
abbrev pub CallsBy : (partition number : ℕ) → List ℕ → (old new : LanValue) → Returned → Type 0
CallsBy partition number args old new returned =
    (u : ℕ) → CallsPort (mac_asked (unit_of partition u) (row_of number) args (outcomes.Code returned.code)) (unit_of partition u) old new

-- A call at this unit left the entries of LAN units' windows, and where it is a LAN unit, and the row one of a window's entries, it returned this.
pub record AnswersPorts (old new : PartitionUnits) (unit : ℕ) (row : Hcall) (args : List ℕ) (returned : Returned) : Type 0 where
  pub all : HasAll old.lan.now new.lan.now
  pub here : seat_in old unit ≡ Some sits.Port → is_of_window row ≡ true → IsReturned (port_seen new.lan.now (unit_of old.partition unit)) row args returned

-- the same of a call by its number and its arguments
abbrev pub PortsReturn : (number : ℕ) → List ℕ → (old new : PartitionUnits) → Returned → Type 0
PortsReturn number args old new returned = (row : Hcall) (unit : ℕ) → row_of number ≡ Some row → is_of_window row ≡ true → unit_asked (place_of old) row args ≡ Some unit
    → seat_in old unit ≡ Some sits.Port → IsReturned (port_seen new.lan.now (unit_of old.partition unit)) row (further row args) returned

-- And what it answered is so of the unit, and of the ports.
pub record AnswersCall (asked : Asked) (old new : PartitionUnits) (answer : Result Returned NoMemory) : Type 0 where
  pub made : MakesCall old new answer
  pub ports : IfOk answer (CallsAt asked.unit (mac_of_row asked.row asked.arguments) old new)
  pub returned : IfOk answer (IsReturned (seen_after old new asked.unit) asked.row asked.arguments)
  pub entries : IfOk answer (AnswersPorts old new asked.unit asked.row asked.arguments)
