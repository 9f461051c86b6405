-- What the offers of frames say of deliveries and drops, and what the rows of the ports say of them.
use Rattle.std.specs.Prelude.{ℕ, ◌+◌, List, [], ◌∷◌, ◌++◌, length, if◌then◌else◌}
use Rattle.vio_num.specs.declared.names.UnitId.{UnitId}
use Rattle.lan_switch.specs.Switch.{same_unit}
use Rattle.vio_trace.specs.declared.lan_rows.DeliverRow.{DeliverRow}
use Rattle.vio_trace.specs.declared.lan_rows.Filled.{Filled}
use Rattle.vio_trace.specs.declared.lan_rows.Filled.TheVariants.{Frame, Blank}
use Rattle.vio_trace.specs.declared.lan_rows.FrameRow.{FrameRow}
use Rattle.vio_trace.specs.declared.lan_rows.Offered.{Offered}
use Rattle.vio_trace.specs.declared.lan_rows.Offered.TheVariants as offers
use Rattle.vio_trace.specs.declared.lan_rows.OfferRow.{OfferRow}
use Rattle.vio_trace.specs.declared.lan_rows.PortRow.{PortRow}
use Rattle.vio_trace.specs.declared.window_rows.PieceRow.{PieceRow}

-- A frame that took a buffer: its sender's number of it, whether the buffer has it or was given back blank, and the
-- bytes that were written.
pub record Delivered : Type 0 where
  pub number : ℕ
  pub filled : Filled
  pub len : ℕ

-- the bytes of pieces
abbrev pub bytes_in : List PieceRow → ℕ
bytes_in [] = 0
bytes_in (piece ∷ pieces) = piece.len + bytes_in pieces

-- what a delivery says
abbrev pub row_says : DeliverRow → Delivered
row_says row = record { number = row.frame; filled = row.filled; len = bytes_in row.to }

-- what the deliveries of a sender's frames say, in their order
abbrev pub taken : (sender : UnitId) → List DeliverRow → List Delivered
taken sender [] = []
taken sender (row ∷ rows) = if same_unit row.sender sender then row_says row ∷ taken sender rows else taken sender rows

-- what an offer of a frame of this number and length says of its delivery, where it is one
abbrev pub offer_says : (number len : ℕ) → Offered → List Delivered
offer_says number len offers.Done = record { number = number; filled = Frame; len = len } ∷ []
offer_says number len offers.Ungranted = record { number = number; filled = Blank; len = 0 } ∷ []
offer_says number len _ = []

-- what those to a receiver say
abbrev pub given_in : (receiver : UnitId) → (number len : ℕ) → List OfferRow → List Delivered
given_in receiver number len [] = []
given_in receiver number len (offer ∷ offers) =
    if same_unit offer.port receiver
    then offer_says number len offer.offered ++ given_in receiver number len offers
    else given_in receiver number len offers

-- what the offers of frames to a receiver say of their deliveries, in the order of the frames
abbrev pub given : (receiver : UnitId) → List FrameRow → List Delivered
given receiver [] = []
given receiver (frame ∷ frames) =
    given_in receiver frame.number (length frame.bytes) frame.offers ++ given receiver frames

-- how many drops an offer is
abbrev pub drops_of : Offered → ℕ
drops_of offers.Ungranted = 1
drops_of offers.NoSize = 1
drops_of offers.NoBuffer = 1
drops_of _ = 0

-- those to a receiver
abbrev pub drops_in : (receiver : UnitId) → List OfferRow → ℕ
drops_in receiver [] = 0
drops_in receiver (offer ∷ offers) =
    if same_unit offer.port receiver then drops_of offer.offered + drops_in receiver offers else drops_in receiver offers

-- those of frames
abbrev pub drops_to : (receiver : UnitId) → List FrameRow → ℕ
drops_to receiver [] = 0
drops_to receiver (frame ∷ frames) = drops_in receiver frame.offers + drops_to receiver frames

-- the sum of the drops that sessions count
abbrev pub drops_counted : List PortRow → ℕ
drops_counted [] = 0
drops_counted (row ∷ rows) = row.drops + drops_counted rows
