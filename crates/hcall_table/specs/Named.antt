-- What the numbers of calls name: units by their addresses, windows by their LIOBNs (logical I/O bus numbers).
use Rattle.std.specs.Prelude.{ℕ, ◌+◌, ◌*◌, ◌/◌, ◌%◌, ◌==◌, ◌&&◌, Bool, true, false, if◌then◌else◌, List, slice_index, Option, None, Some}
use Rattle.vio_num.specs.declared.names.UnitId.{UnitId}
use Rattle.hcall_table.specs.declared.hcall.Hcall.{Hcall}
use Rattle.hcall_table.specs.declared.hcall.Hcall.TheVariants as rows
use Rattle.hcall_table.specs.declared.kind.UnitKind.{UnitKind}
use Rattle.hcall_table.specs.declared.kind.UnitKind.TheVariants as kinds
use Rattle.hcall_table.specs.declared.named.Named.{Named}
use Rattle.hcall_table.specs.declared.named.Named.TheVariants as names

-- the units of the partition that calls: its number, and the kind of each unit that it has
pub record Place : Type 0 where
  pub partition : ℕ
  pub kind : ℕ → Option UnitKind

-- the number of a unit above the base of its space: 256 numbers for each of 256 partitions
abbrev pub above : ℕ → UnitId → ℕ
above base id = base + 256 * id.partition + id.unit

-- the spaces of numbers: addresses of units, LIOBNs of own windows, and those of the windows of clients
abbrev pub unit_base : ℕ
unit_base = 0x30000000

abbrev pub own_base : ℕ
own_base = 0x10000000

abbrev pub client_base : ℕ
client_base = 0x20000000

-- the number that names a unit or a window
abbrev pub number_of : Named → ℕ
number_of (names.Unit id) = above unit_base id
number_of (names.OwnWindow id) = above own_base id
number_of (names.ClientWindow id) = above client_base id

-- the unit in the low sixteen bits of a number
abbrev pub low_unit : ℕ → UnitId
low_unit number = record { partition = number / 256 % 256; unit = number % 256 }

-- what a number names
abbrev pub named : ℕ → Option Named
named number =
    if number / 65536 == 0x3000 then Some (names.Unit (low_unit number))
    else if number / 65536 == 0x1000 then Some (names.OwnWindow (low_unit number))
    else if number / 65536 == 0x2000 then Some (names.ClientWindow (low_unit number))
    else None

-- whether a row is of a window's table of translation entries
abbrev pub is_of_window : Hcall → Bool
is_of_window rows.GetTce = true
is_of_window rows.PutTce = true
is_of_window rows.StuffTce = true
is_of_window rows.PutTceIndirect = true
is_of_window _ = false

-- whether a unit of this kind has a queue of entries
abbrev pub has_queue : UnitKind → Bool
has_queue kinds.Server = true
has_queue kinds.Client = true
has_queue kinds.Lan = false

abbrev pub is_server : UnitKind → Bool
is_server kinds.Server = true
is_server _ = false

abbrev pub is_lan : UnitKind → Bool
is_lan kinds.Lan = true
is_lan _ = false

-- whether a row is of units of a kind: each has a window, servers and clients a queue, servers alone copy
abbrev pub is_of : Hcall → UnitKind → Bool
is_of rows.GetTce kind = true
is_of rows.PutTce kind = true
is_of rows.StuffTce kind = true
is_of rows.PutTceIndirect kind = true
is_of rows.RegCrq kind = has_queue kind
is_of rows.FreeCrq kind = has_queue kind
is_of rows.SendCrq kind = has_queue kind
is_of rows.EnableCrq kind = has_queue kind
is_of rows.CopyRdma kind = is_server kind
is_of _ kind = is_lan kind

-- whether a unit that may be there is of the row's kind
abbrev pub is_there : Hcall → Option UnitKind → Bool
is_there row (Some kind) = is_of row kind
is_there row None = false

-- whether a unit is of this partition and of the row's kind
abbrev pub is_here : Place → Hcall → UnitId → Bool
is_here place row id = (id.partition == place.partition) && is_there row (place.kind id.unit)

-- the unit, where it is of this partition and of the row's kind
abbrev pub here : Place → Hcall → UnitId → Option ℕ
here place row id = if is_here place row id then Some id.unit else None

-- the unit of a name in the space of the row: LIOBNs of own windows for entries, addresses for all else
abbrev pub unit_named : Place → Hcall → Option Named → Option ℕ
unit_named place row (Some (names.Unit id)) = if is_of_window row then None else here place row id
unit_named place row (Some (names.OwnWindow id)) = if is_of_window row then here place row id else None
unit_named place row (Some (names.ClientWindow id)) = None
unit_named place row None = None

abbrev pub same_unit : UnitId → UnitId → Bool
same_unit a b = (a.partition == b.partition) && (a.unit == b.unit)

-- the server unit whose two windows these are, one its own and one its client's
abbrev pub windows_named : Place → Option Named → Option Named → Option ℕ
windows_named place (Some (names.OwnWindow a)) (Some (names.ClientWindow b)) = if same_unit a b then here place rows.CopyRdma a else None
windows_named place (Some (names.ClientWindow a)) (Some (names.OwnWindow b)) = if same_unit a b then here place rows.CopyRdma a else None
windows_named _ _ _ = None

-- the unit of this partition that a call names in the way of its row
abbrev pub unit_of : Place → Hcall → List ℕ → Option ℕ
unit_of place rows.CopyRdma args = windows_named place (named (slice_index args 1)) (named (slice_index args 3))
unit_of place row args = unit_named place row (named (slice_index args 0))
