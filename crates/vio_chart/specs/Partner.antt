-- Which unit the partner of another is. A trace does not say so; its copies do, since a server unit alone makes them,
-- between its own pages and its client's.
use Rattle.std.specs.Prelude.{ℕ, if◌then◌else◌, Bool, List, [], ◌∷◌, ◌||◌, Option, Some, None}
use Rattle.std.specs.List.{list_any}
use Rattle.vio_num.specs.declared.names.UnitId.{UnitId}
use Rattle.vio_trace.specs.declared.window_rows.CopyRow.{CopyRow}
use Rattle.vio_trace.specs.declared.window_rows.PieceRow.{PieceRow}
use Rattle.vio_chart.specs.Columns.{same_unit}

-- the first unit of the pieces that is another, or else a further one
abbrev pub other_of : UnitId → List PieceRow → Option UnitId → Option UnitId
other_of unit [] further = further
other_of unit (piece ∷ pieces) further = if same_unit piece.unit unit then other_of unit pieces further else Some piece.unit

-- whether a piece is of the unit's window
abbrev pub names : UnitId → List PieceRow → Bool
names unit pieces = list_any (λ piece. same_unit piece.unit unit) pieces

-- the unit that a copy joins with this one: of the unit's own copy the other end, of another's the copier
abbrev pub joined_by : UnitId → CopyRow → Option UnitId
joined_by unit copy = if same_unit copy.unit unit
    then other_of unit copy.from (other_of unit copy.to None)
    else (if names unit copy.from || names unit copy.to then Some copy.unit else None)

-- the first of two that is there
abbrev pub first_of : Option UnitId → Option UnitId → Option UnitId
first_of (Some other) further = Some other
first_of None further = further

-- the unit that the first copy joins with this one that joins it with any
abbrev pub partner_of : UnitId → List CopyRow → Option UnitId
partner_of unit [] = None
partner_of unit (copy ∷ copies) = first_of (joined_by unit copy) (partner_of unit copies)
