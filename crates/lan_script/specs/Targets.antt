-- To which ports a frame of a unit is offered, by where they stand in their replays.
use Rattle.std.specs.Prelude.{◌≡◌, ◌+◌, ◌<◌, ◌≤◌, ℕ, All, false, IsSomeAnd, List, [], ◌∷◌, Option, Some, filter, length, map}
use Rattle.vio_num.specs.declared.names.Mac.{Mac}
use Rattle.vio_num.specs.declared.names.UnitId.{UnitId}
use Rattle.lan_frame.specs.Filter.{Accepts}
use Rattle.lan_frame.specs.Station.{IsGroup}
use Rattle.lan_buffers.specs.Buffer.{frame_offset}
use Rattle.lan_buffers.specs.Port.{PortValue}
use Rattle.lan_buffers.specs.declared.settings.Settings.{Settings}
use Rattle.lan_switch.specs.declared.answers.SendRecord.{SendRecord}
use Rattle.lan_switch.specs.Switch.{order_of, port_of, same_unit}
use Rattle.vio_trace.specs.declared.lan_rows.FrameRow.{FrameRow}
use Rattle.vio_trace.specs.declared.lan_rows.OfferRow.{OfferRow}
use Rattle.vio_trace.specs.declared.lan_rows.Offered.{Offered}
use Rattle.vio_trace.specs.declared.lan_rows.Offered.TheVariants.{NoBuffer, NoSize}
use Rattle.lan_script.specs.Frames.{frame_row_of}
use Rattle.lan_script.specs.PortReplay.{PortReplay}
use Rattle.lan_script.specs.Replayed.{replay_at}
use Rattle.lan_script.specs.Spent.{WasSpent}
use Rattle.lan_script.specs.Units.{LanValue, to_of}

-- what became of the offers of a frame to a unit
abbrev pub offers_to : UnitId → List OfferRow → List Offered
offers_to unit rows = map (λ row. row.offered) (filter (λ row. same_unit row.port unit) rows)

-- A port is a target of frames to this address: it is open, and its settings accept them.
pub record IsTarget (now : PortReplay) (to : Mac) : Type 0 where
  pub settings : Settings
  pub shown : now.settings ≡ Some settings
  pub accepted : Accepts settings.mac settings.reception settings.filtering settings.filters to

-- the length of the shortest buffer for a frame
abbrev pub least_for : FrameRow → ℕ
least_for row = frame_offset + length row.bytes

-- the first of these offers is to this unit, or to one before it in the order of units
abbrev pub GoesNoLater : UnitId → List OfferRow → Type 0
GoesNoLater unit [] = ⊥
GoesNoLater unit (offer ∷ offers) = order_of offer.port ≤ order_of unit

-- The offers of a frame, by a port of another unit than the sender. Only a target has one, and one alone. A frame to a group has one to each
-- target, and another has its one to the lowest target. It found no length large enough only where none was posted.
pub record OffersTo (port : UnitId) (now : PortReplay) (row : FrameRow) : Type 0 where
  pub few : length (offers_to port row.offers) ≤ 1
  pub only : 1 ≤ length (offers_to port row.offers) → IsTarget now (to_of row)
  pub many : IsGroup (to_of row) → IsTarget now (to_of row) → 1 ≤ length (offers_to port row.offers)
  pub one : ¬ IsGroup (to_of row) → IsTarget now (to_of row) → GoesNoLater port row.offers
  pub no_size : offers_to port row.offers ≡ NoSize ∷ [] → All (λ len. len < least_for row) now.lengths

-- Where a port had no buffer for a frame, each post of its session that is long enough was taken.
abbrev pub SpentFor : UnitId → FrameRow → PortReplay → Option PortValue → Type 0
SpentFor port row now value = offers_to port row.offers ≡ NoBuffer ∷ []
    → IsSomeAnd value (λ p. WasSpent p now.sessions now.lengths (least_for row))

-- The offers of a frame by where a port stood in its replay, and by what it is now.
pub record OffersAt (old new : LanValue) (port : UnitId) (row : FrameRow) : Type 0 where
  pub offers : OffersTo port (replay_at old port) row
  pub spent : SpentFor port row (replay_at old port) (port_of new.stations port)

-- the same of each port but the sender's
abbrev pub OffersAll : (sender : UnitId) → (old new : LanValue) → FrameRow → Type 0
OffersAll sender old new row = (port : UnitId) → same_unit port sender ≡ false → OffersAt old new port row

-- the same of the frame of a record, if it has a number
abbrev pub OffersMade : (sender : UnitId) → LanValue → SendRecord → Type 0
OffersMade sender lan made = (number : ℕ) → made.frame ≡ Some number → OffersAll sender lan lan (frame_row_of sender number made)
