-- The rows of copies.
use Rattle.std.specs.Prelude.{◌==◌, ◌&&◌, Bool, List, map, filter}
use Rattle.vio_num.specs.declared.names.UnitId.{UnitId}
use Rattle.tce_window.specs.declared.piece.Piece.{Piece}
use Rattle.rdma_copy.specs.declared.copy.CopyRecord.{CopyRecord}
use Rattle.vio_trace.specs.declared.window_rows.CopyRow.{CopyRow}
use Rattle.vio_trace.specs.declared.window_rows.PieceRow.{PieceRow}

-- whether two names are of one unit
abbrev pub same_unit : UnitId → UnitId → Bool
same_unit a b = (a.partition == b.partition) && (a.unit == b.unit)

-- the row of a piece
abbrev pub piece_row : Piece → PieceRow
piece_row piece = record {
  unit = piece.unit;
  entry = piece.entry;
  version = piece.version;
  page = piece.page;
  offset = piece.offset;
  len = piece.len;
  at = piece.at;
}

-- the row of a copy
abbrev pub copy_row : CopyRecord → CopyRow
copy_row copy = record {
  unit = copy.name.who;
  mark = copy.name.mark;
  len = copy.len;
  from = map piece_row copy.from.items;
  to = map piece_row copy.to.items;
}

-- those of the copies that this unit made
abbrev pub copies_by : UnitId → List CopyRecord → List CopyRow
copies_by unit copies = map copy_row (filter (λ copy. same_unit copy.name.who unit) copies)
