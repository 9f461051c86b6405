-- The LAN ports of a partition that failed: they are closed.
use Rattle.std.specs.Prelude.{◌≡◌, ℕ, ◌<◌, List, None, Some}
use Rattle.std.specs.List.{slice_get}
use Rattle.vio_num.specs.declared.names.UnitId.{UnitId}
use Rattle.lan_script.specs.Replayed.{replay_at}
use Rattle.lan_script.specs.Units.{LanValue}
use Rattle.vcpu_run.specs.declared.script.Script.{Script}
use Rattle.vcpu_run.specs.declared.unit_seat.Seat.{Seat}
use Rattle.vcpu_run.specs.declared.unit_seat.Seat.TheVariants as sits
use Rattle.vcpu_run.specs.FailedShut.{FailsLast, IsFailed}
use Rattle.vcpu_run.specs.Ports.{unit_of}

-- the unit's port is closed: it has no settings
abbrev pub IsPortClosed : LanValue → UnitId → Type 0
IsPortClosed lan unit = (replay_at lan unit).settings ≡ None

-- so it is if the unit sits at a port
abbrev pub IsClosedAt : UnitId → Seat → LanValue → Type 0
IsClosedAt unit seat lan = seat ≡ sits.Port → IsPortClosed lan unit

-- so are the ports of the first of these seats
abbrev pub AreClosedTo : (partition count : ℕ) → List Seat → LanValue → Type 0
AreClosedTo partition count seats lan = (unit : ℕ) → unit < count → slice_get seats unit ≡ Some sits.Port → IsPortClosed lan (unit_of partition unit)

-- and of all
abbrev pub PortsClosed : (partition : ℕ) → List Seat → LanValue → Type 0
PortsClosed partition seats lan = (unit : ℕ) → slice_get seats unit ≡ Some sits.Port → IsPortClosed lan (unit_of partition unit)

-- A line that fails the partition ends last; where one ended, each port of the partition is closed.
pub record TellsClosed (lan : LanValue) (script : Script) : Type 0 where
  pub going : FailsLast script
  pub closed : IsFailed script → PortsClosed script.partition script.seats.items lan
