-- Ports of the LAN at which nothing is done, and from which nothing is left to take.
use Rattle.std.specs.Prelude.{◌≡◌, ℕ, ◌<◌, false, List, Some, length, slice_get}
use Rattle.vio_num.specs.declared.names.UnitId.{UnitId}
use Rattle.lan_script.specs.Resting.{IsAllTaken, SamePorts}
use Rattle.lan_script.specs.Units.{LanValue}
use Rattle.vcpu_run.specs.declared.script.Script.{Script}
use Rattle.vcpu_run.specs.declared.unit_seat.Seat.{Seat}
use Rattle.vcpu_run.specs.declared.unit_seat.Seat.TheVariants as sits
use Rattle.vcpu_run.specs.Ports.{unit_of}
use Rattle.vcpu_run.specs.PortWords.{PortsTell}
use Rattle.vcpu_run.specs.Scripts.{are_servers}

-- Nothing was done at any port, and nothing is left to take of that of this seat, if it has one.
pub record SeatTaken (unit : UnitId) (seat : Seat) (old new : LanValue) : Type 0 where
  pub still : SamePorts old new
  pub taken : seat ≡ sits.Port → IsAllTaken new unit

-- nothing is left to take of the ports of the first of these seats
abbrev pub AreTaken : (partition count : ℕ) → List Seat → LanValue → Type 0
AreTaken partition count seats lan = (u : ℕ) → u < count → slice_get seats u ≡ Some sits.Port → IsAllTaken lan (unit_of partition u)

-- Nothing was done at any port, and nothing is left to take of those of these seats.
pub record PortsRest (partition : ℕ) (seats : List Seat) (old new : LanValue) : Type 0 where
  pub still : SamePorts old new
  pub taken : (u : ℕ) → slice_get seats u ≡ Some sits.Port → IsAllTaken new (unit_of partition u)

-- Nothing was done at any port, and nothing is left to take of those of a script that is not one of server units.
pub record TurnRests (script : Script) (old new : LanValue) : Type 0 where
  pub still : SamePorts old new
  pub taken : are_servers script.seats.items ≡ false → (u : ℕ) → slice_get script.seats.items u ≡ Some sits.Port
      → IsAllTaken new (unit_of script.partition u)

-- nothing is left to take of the ports of the first scripts
abbrev pub AreTakenTo : (count : ℕ) → LanValue → List Script → Type 0
AreTakenTo count lan scripts = (i : ℕ) (script : Script) → i < count → slice_get scripts i ≡ Some script → are_servers script.seats.items ≡ false
    → (u : ℕ) → slice_get script.seats.items u ≡ Some sits.Port → IsAllTaken lan (unit_of script.partition u)

-- What is so of ports at the end of a run: the lines tell what they did, and nothing is left to take.
pub record PortsEnd (lan : LanValue) (scripts : List Script) : Type 0 where
  pub told : PortsTell lan scripts
  pub taken : AreTakenTo (length scripts) lan scripts
