-- Ports that do nothing, and from which nothing is left to take; and what was taken where a look says so.
use Rattle.std.specs.Prelude.{◌≡◌, ◌+◌, ◌<◌, ℕ, Option, Some, None, IfSome, length, ⊤}
use Rattle.std.specs.Option.{option_map}
use Rattle.vio_num.specs.declared.hypervisor.Moved.{Moved}
use Rattle.vio_num.specs.declared.hypervisor.Moved.TheVariants as turns
use Rattle.vio_num.specs.declared.names.UnitId.{UnitId}
use Rattle.lan_buffers.specs.Calls.{IsOpen}
use Rattle.lan_buffers.specs.Port.{PortValue, now}
use Rattle.lan_buffers.specs.declared.answers.Harvest.{Harvest}
use Rattle.lan_buffers.specs.declared.answers.Harvest.TheVariants as harvests
use Rattle.lan_switch.specs.Switch.{port_of}
use Rattle.lan_script.specs.declared.taking.Taken.{Taken}
use Rattle.lan_script.specs.declared.taking.Taken.TheVariants as found
use Rattle.lan_script.specs.Units.{LanValue}

-- a port but for the room that it reserves
abbrev pub shown_of : Option PortValue → Option PortValue
shown_of port = option_map (λ (p : PortValue). record p { spare = 0 }) port

-- no port did anything: each is as it was, but for its room
abbrev pub SamePorts : (old new : LanValue) → Type 0
SamePorts old new = (unit : UnitId) → shown_of (port_of new.stations unit) ≡ shown_of (port_of old.stations unit)

-- each delivery of the last session of the port was read, if it is open
abbrev pub HasReadAll : PortValue → Type 0
HasReadAll port = IsOpen port → length (now port).harvests ≡ length (now port).deliveries

abbrev pub IsAllTaken : LanValue → UnitId → Type 0
IsAllTaken lan unit = IfSome (port_of lan.stations unit) HasReadAll

-- Nothing was found to take: no port did anything, and from this one nothing is left to take.
pub record FindsNone (unit : UnitId) (old new : LanValue) : Type 0 where
  pub still : SamePorts old new
  pub all : IsAllTaken new unit

-- a look that found nothing says so
abbrev pub OnNothing : UnitId → Taken → (old new : LanValue) → Type 0
OnNothing unit taken old new = taken ≡ found.Nothing → FindsNone unit old new

-- looks of which none found anything do
abbrev pub OnQuiet : UnitId → Moved → (old new : LanValue) → Type 0
OnQuiet unit moved old new = moved ≡ turns.Quiet → FindsNone unit old new

-- the answer of a port that has no receive entry
abbrev pub IsNoHarvest : Harvest → Type 0
IsNoHarvest (harvests.Nothing number high) = ⊤
IsNoHarvest _ = ⊥

-- how many receive entries a port has read, over all its sessions
abbrev pub entries_read : Option PortValue → ℕ
entries_read (Some port) = length port.harvests
entries_read None = 0

-- those of a unit's port
abbrev pub entries_read_at : LanValue → UnitId → ℕ
entries_read_at lan unit = entries_read (port_of lan.stations unit)

-- how many a look has read: a frame or a blank buffer is one
abbrev pub reads_found : Taken → ℕ
reads_found found.Nothing = 0
reads_found _ = 1

-- how many a call that looks has read by its answer
abbrev pub reads_told : Harvest → ℕ
reads_told (harvests.Nothing number high) = 0
reads_told _ = 1

-- the unit's port read so many entries as the look says
abbrev pub ReadsAs : UnitId → Taken → (old new : LanValue) → Type 0
ReadsAs unit taken old new = entries_read_at new unit ≡ entries_read_at old unit + reads_found taken

-- looks that say that something moved read an entry at least
abbrev pub OnMoved : UnitId → Moved → (old new : LanValue) → Type 0
OnMoved unit moved old new = moved ≡ turns.Moved → entries_read_at old unit < entries_read_at new unit
