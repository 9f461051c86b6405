-- The row that a trace has of a frame, and the numbers of frames.
use Rattle.std.specs.Prelude.{ℕ, List, [], ◌∷◌, Option, Some, None, map, if◌then◌else◌}
use Rattle.vio_num.specs.declared.names.UnitId.{UnitId}
use Rattle.tce_window.specs.declared.piece.Piece.{Piece}
use Rattle.lan_buffers.specs.declared.answers.Deliver.{Deliver}
use Rattle.lan_buffers.specs.declared.answers.Deliver.TheVariants as sent
use Rattle.lan_switch.specs.declared.answers.Offer.{Offer}
use Rattle.lan_switch.specs.declared.answers.SendRecord.{SendRecord}
use Rattle.lan_switch.specs.Switch.{same_unit}
use Rattle.vio_trace.specs.declared.lan_rows.FrameRow.{FrameRow}
use Rattle.vio_trace.specs.declared.lan_rows.OfferRow.{OfferRow}
use Rattle.vio_trace.specs.declared.lan_rows.Offered.{Offered}
use Rattle.vio_trace.specs.declared.lan_rows.Offered.TheVariants as rows
use Rattle.vio_trace.specs.declared.window_rows.PieceRow.{PieceRow}
use Rattle.lan_script.specs.Units.{PortKey}

-- what became of a frame, as a trace says it
abbrev pub offered_as : Deliver → Offered
offered_as (sent.Done post) = rows.Done
offered_as (sent.Ungranted post fault) = rows.Ungranted
offered_as sent.NoSize = rows.NoSize
offered_as sent.NoBuffer = rows.NoBuffer
offered_as (sent.Turn word) = rows.Turn
offered_as (sent.InUse page word) = rows.InUse
offered_as (sent.Closed control) = rows.Closed
offered_as sent.NoMemory = rows.Closed

abbrev pub offer_row_of : UnitId → ℕ → Offer → OfferRow
offer_row_of unit number offer = record {
  unit = unit;
  number = number;
  port = offer.unit;
  offered = offered_as offer.answer;
}

abbrev pub piece_row_of : Piece → PieceRow
piece_row_of piece = record {
  unit = piece.unit;
  entry = piece.entry;
  version = piece.version;
  page = piece.page;
  offset = piece.offset;
  len = piece.len;
  at = piece.at;
}

-- the row of the unit's frame of this number
abbrev pub frame_row_of : UnitId → ℕ → SendRecord → FrameRow
frame_row_of unit number r = record {
  unit = unit;
  number = number;
  code = r.code;
  from = map piece_row_of r.from.items;
  bytes = r.bytes;
  offers = map (offer_row_of unit number) r.offers.items;
}

-- the keys with this number of frames of the unit, where there is one
abbrev pub with_count : UnitId → Option ℕ → List PortKey → List PortKey
with_count unit None keys = keys
with_count unit (Some n) [] = []
with_count unit (Some n) (key ∷ keys) =
    if same_unit key.unit unit then record key { frames = n } ∷ keys else key ∷ with_count unit (Some n) keys

-- the number of frames of the unit
abbrev pub count_in : UnitId → List PortKey → ℕ
count_in unit [] = 0
count_in unit (key ∷ keys) = if same_unit key.unit unit then key.frames else count_in unit keys
