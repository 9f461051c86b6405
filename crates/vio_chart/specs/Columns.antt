-- The units that have a line in the picture of a trace, in their order, and the partitions of these.
use Rattle.std.specs.Prelude.{ℕ, ◌+◌, ◌*◌, ◌/◌, ◌%◌, ◌==◌, ◌&&◌, ◌||◌, if◌then◌else◌, zero, suc, Bool, List, [], ◌∷◌, ◌++◌, filter, count_by, nat_lt, min}
use Rattle.std.specs.List.{list_any}
use Rattle.vio_num.specs.declared.names.UnitId.{UnitId}
use Rattle.vio_trace.specs.declared.rows.Trace.{Trace}

-- whether two names are of one unit
abbrev pub same_unit : UnitId → UnitId → Bool
same_unit a b = (a.partition == b.partition) && (a.unit == b.unit)

-- whether the first unit stands before the second: by partition, then by own number
abbrev pub unit_before : UnitId → UnitId → Bool
unit_before a b = nat_lt a.partition b.partition || ((a.partition == b.partition) && nat_lt a.unit b.unit)

-- whether the unit has a line: it has a queue or a port
abbrev pub has_line : Trace → UnitId → Bool
has_line trace unit = list_any (λ row. same_unit row.unit unit) trace.queues
    || list_any (λ row. same_unit row.unit unit) trace.ports

-- the units in their order: the one behind 0.255 is 1.0
abbrev pub unit_at : ℕ → UnitId
unit_at n = record { partition = n / 256; unit = n % 256 }

-- those of the first n units that have a line
unfoldable pub lines_below : Trace → ℕ → List UnitId
lines_below trace zero = []
lines_below trace (suc n) = lines_below trace n ++ (if has_line trace (unit_at n) then unit_at n ∷ [] else [])

-- those of the first n partitions in which a unit has a line
unfoldable pub lanes_below : List UnitId → ℕ → List ℕ
lanes_below units zero = []
lanes_below units (suc n) =
    lanes_below units n ++ (if list_any (λ unit. unit.partition == n) units then n ∷ [] else [])

-- the column of a unit: the number of the units before it
abbrev pub column : List UnitId → UnitId → ℕ
column units unit = count_by (λ other. unit_before other unit) units
