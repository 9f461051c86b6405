-- A switch of the logical LAN (LoPAR, "Logical LAN"): a port for each unit, in ascending order of the units.
use Rattle.std.specs.Prelude.{◌≡◌, ℕ, ◌+◌, ◌*◌, ◌<◌, ◌≤◌, ◌==◌, ◌&&◌, Bool, All, IfSome, IsSome, suc, List, [], ◌∷◌, Option, Some, None, length, map, if◌then◌else◌}
use Rattle.std.specs.Option.{option_map}
use Rattle.vio_num.specs.declared.names.UnitId.{UnitId}
use Rattle.vio_num.specs.declared.hypervisor.Hrc.TheVariants.{Parameter}
use Rattle.lan_buffers.specs.Port.{PortValue}
use Rattle.lan_buffers.specs.Calls.{closed_port}
use Rattle.lan_switch.specs.declared.answers.LanAnswer.{LanAnswer}
use Rattle.lan_switch.specs.declared.switch.PortPlan.{PortPlan}
use Rattle.lan_switch.specs.declared.station.Station.{Station}

-- the number of ports that a switch may have
abbrev pub most_ports : ℕ
most_ports = 16

abbrev pub unit_of : Station → UnitId
unit_of station = station.port.unit

-- whether two names are of one unit
abbrev pub same_unit : UnitId → UnitId → Bool
same_unit one other = (one.partition == other.partition) && (one.unit == other.unit)

-- the place of a unit in the order of units: by its partition, then by its number there
abbrev pub order_of : UnitId → ℕ
order_of unit = unit.partition * 256 + unit.unit

-- each unit stands behind those of a lower place
abbrev pub AreAscending : List UnitId → Type 0
AreAscending [] = Unit {0}
AreAscending (unit ∷ units) = All (λ other. order_of unit < order_of other) units × AreAscending units

-- what a switch is at any time
pub record IsSwitch (stations : List Station) : Type 0 where
  pub few : length stations ≤ most_ports
  pub ascending : AreAscending (map unit_of stations)

-- the station of a unit
abbrev pub station_of : List Station → UnitId → Option Station
station_of [] unit = None
station_of (station ∷ stations) unit =
    if same_unit (unit_of station) unit then Some station else station_of stations unit

-- its port, and the number of frames that the unit has sent
abbrev pub port_of : List Station → UnitId → Option PortValue
port_of stations unit = option_map (λ station. station.port) (station_of stations unit)

abbrev pub IsPort : List Station → UnitId → Type 0
IsPort stations unit = IsSome (port_of stations unit)

-- where the unit is a port, it has room for one registration, post or harvest
abbrev pub HasRoom : List Station → UnitId → Type 0
HasRoom stations unit = IfSome (port_of stations unit) (λ port. 1 ≤ port.spare)

-- the stations with this port in the place of the unit's, and no other change
abbrev pub with_port : UnitId → PortValue → List Station → List Station
with_port unit port [] = []
with_port unit port (station ∷ stations) =
    if same_unit (unit_of station) unit
    then record station { port = port } ∷ stations
    else station ∷ with_port unit port stations

-- the answer of a call that names no port
abbrev pub IsRefused : LanAnswer → Type 0
IsRefused answer = (answer.code ≡ Parameter) × (answer.word ≡ 0)

-- A call was made at the unit's port, which left this of it, and changed nothing else.
pub record AtPort (old : List Station) (unit : UnitId) (new : List Station) (P : PortValue → PortValue → Type 0) : Type 0 where
  pub before : PortValue
  pub after : PortValue
  pub was : port_of old unit ≡ Some before
  pub done : P before after
  pub rest : new ≡ with_port unit after old

-- A call that answers a code: it is refused where the unit is no port, and is else made at its port.
pub record MadeAt (old : List Station) (unit : UnitId) (answer : LanAnswer) (new : List Station) (P : PortValue → PortValue → Type 0) : Type 0 where
  pub absent : port_of old unit ≡ None → IsRefused answer × (new ≡ old)
  pub made : IsPort old unit → AtPort old unit new P

-- the place of a unit's station among these, or their number
abbrev pub place_of : UnitId → List Station → ℕ
place_of unit [] = 0
place_of unit (station ∷ stations) =
    if same_unit (unit_of station) unit then 0 else suc (place_of unit stations)

-- the station of a port that is opened, and has sent no frame
abbrev pub opened : PortPlan → Station
opened plan = record { port = closed_port plan.unit plan.slots; frames = 0 }
