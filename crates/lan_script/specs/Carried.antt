-- What frames and deliveries carry: a frame's bytes were read of its sender's region, a delivery wrote them into the buffer
-- of its post, both through pieces that were granted; and which strokes of a port's region the deliveries made.
use Rattle.std.specs.Prelude.{◌≡◌, ◌≢◌, ℕ, ◌+◌, ◌<◌, ◌≤◌, ◌==◌, ◌++◌, All, List, [], ◌∷◌, Option, Some, filter, length, map, slice_get, if◌then◌else◌}
use Rattle.std.specs.List.{Contains, flat_map}
use Rattle.std.specs.Option.{option_and_then}
use Rattle.vio_num.specs.declared.names.UnitId.{UnitId}
use Rattle.page_slots.specs.Stroke.{StrokeValue}
use Rattle.tce_window.specs.Moved.{IsReadFrom, IsWrittenTo, stroke_count}
use Rattle.tce_window.specs.declared.piece.Piece.{Piece}
use Rattle.rdma_copy.specs.Copy.{Side}
use Rattle.lan_buffers.specs.Buffer.{buffer_address, frame_offset}
use Rattle.lan_switch.specs.Switch.{same_unit}
use Rattle.lan_switch.specs.declared.source.TheConstants.{MOST_PARTS}
use Rattle.vio_trace.specs.declared.lan_rows.DeliverRow.{DeliverRow}
use Rattle.vio_trace.specs.declared.lan_rows.Filled.TheVariants.{Frame, Blank}
use Rattle.vio_trace.specs.declared.lan_rows.FrameRow.{FrameRow}
use Rattle.vio_trace.specs.declared.lan_rows.PostRow.{PostRow}
use Rattle.vio_trace.specs.declared.window_rows.PieceRow.{PieceRow}
use Rattle.lan_script.specs.declared.seat.PortSeat.{PortSeat}
use Rattle.lan_script.specs.Frames.{piece_row_of}

-- these bytes were read of a window, one part behind the other, each part from its own address on
abbrev pub AreReadFrom : Side → (addresses : List ℕ) → List Piece → (bytes : List ℕ) → Type 0
AreReadFrom window [] pieces bytes = (pieces ≡ []) × (bytes ≡ [])
AreReadFrom window (at ∷ addresses) pieces bytes =
    (first : List Piece) × (later : List Piece) × (pieces ≡ first ++ later)
    × (front : List ℕ) × (rest : List ℕ) × (bytes ≡ front ++ rest)
    × IsReadFrom window.unit window.values window.strokes at first front × AreReadFrom window addresses later rest

-- A frame's bytes are those of its `from` pieces: of at most six parts of its sender's window, each granted for reading.
pub record IsRead (window : Side) (frame : FrameRow) : Type 0 where
  pub addresses : List ℕ
  pub few : length addresses ≤ MOST_PARTS
  pub pieces : List Piece
  pub shown : frame.from ≡ map piece_row_of pieces
  pub read : AreReadFrom window addresses pieces frame.bytes

-- The post is the one that the delivery names.
pub record NamesPost (row : DeliverRow) (post : PostRow) : Type 0 where
  pub unit : post.unit ≡ row.unit
  pub session : post.session ≡ row.session
  pub number : post.number ≡ row.post

-- The frame is the one that the delivery names.
pub record NamesFrame (row : DeliverRow) (frame : FrameRow) : Type 0 where
  pub unit : frame.unit ≡ row.sender
  pub number : frame.number ≡ row.frame

-- A delivery's `to` pieces are those of its buffer behind the correlator, granted for writing; each is one stroke by the frame's
-- sender, with the frame's number as mark, and they join to the frame's bytes.
pub record IsFilled (window : Side) (posts : List PostRow) (frames : List FrameRow) (row : DeliverRow) : Type 0 where
  pub post : PostRow
  pub posted : Contains posts post
  pub of_post : NamesPost row post
  pub frame : FrameRow
  pub sent : Contains frames frame
  pub of_frame : NamesFrame row frame
  pub pieces : List Piece
  pub shown : row.to ≡ map piece_row_of pieces
  pub written : IsWrittenTo window.unit window.values window.strokes (buffer_address post.descriptor + frame_offset)
      (record { who = row.sender; mark = row.frame }) pieces frame.bytes

-- A delivery of a frame filled its buffer; a blank has no pieces.
pub record IsCarried (window : Side) (posts : List PostRow) (frames : List FrameRow) (row : DeliverRow) : Type 0 where
  pub frame : row.filled ≡ Frame → IsFilled window posts frames row
  pub blank : row.filled ≡ Blank → row.to ≡ []

-- the places of the strokes that pieces name on a page, in their order
abbrev pub places_shown : (page : ℕ) → List PieceRow → List ℕ
places_shown page [] = []
places_shown page (piece ∷ pieces) = if piece.page == page then piece.at ∷ places_shown page pieces else places_shown page pieces

-- those that deliveries wrote there, in the order of the deliveries
abbrev pub named_on : (page : ℕ) → List DeliverRow → List ℕ
named_on page rows = flat_map (λ row. places_shown page row.to) rows

-- each number is above the one before it
abbrev pub Rises : List ℕ → Type 0
Rises [] = Unit {0}
Rises (n ∷ later) = All (λ other. n < other) later × Rises later

-- the stroke at this place of a page
abbrev pub stroke_in : Option (List StrokeValue) → (place : ℕ) → Option StrokeValue
stroke_in strokes place = option_and_then (λ s. slice_get s place) strokes

-- Of one page of a unit's window: the places that are named rise, are there, and are those of all strokes by other units.
pub record IsNamedPage (unit : UnitId) (strokes : Option (List StrokeValue)) (named : List ℕ) : Type 0 where
  pub rising : Rises named
  pub there : All (λ place. place < stroke_count strokes) named
  pub others : (place : ℕ) (stroke : StrokeValue) → stroke_in strokes place ≡ Some stroke → stroke.name.who ≢ unit → Contains named place

-- on each page of a window the deliveries to its unit name strokes that are there, in rising order, none of them twice; and they
-- name each stroke that another unit laid
abbrev pub AreNamed : Side → List DeliverRow → Type 0
AreNamed window rows = (page : ℕ) → IsNamedPage window.unit (window.strokes page) (named_on page rows)

-- Frames and deliveries carry what their rows say, over the windows of these seats.
pub record FramesAreCarried (seats : List PortSeat) (windows : UnitId → Side) (frames : List FrameRow) (posts : List PostRow) (delivers : List DeliverRow) : Type 0 where
  pub read : All (λ frame. IsRead (windows frame.unit) frame) frames
  pub written : All (λ row. IsCarried (windows row.unit) posts frames row) delivers
  pub named : All (λ seat. AreNamed (windows seat.unit) (filter (λ row. same_unit row.unit seat.unit) delivers)) seats
