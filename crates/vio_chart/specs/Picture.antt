-- The picture of a trace.
use Rattle.std.specs.Prelude.{◌≡◌, ℕ, ◌+◌, ◌-◌, ◌*◌, ◌^◌, ◌==◌, if◌then◌else◌, List, [], ◌∷◌, ◌++◌, Option, Some, None, codes, decimal, flat_map, min}
use Rattle.vio_num.specs.declared.entry.Entry.{Entry}
use Rattle.vio_num.specs.declared.history.Served.{Served}
use Rattle.vio_num.specs.declared.names.UnitId.{UnitId}
use Rattle.vio_trace.specs.declared.lan_rows.FrameRow.{FrameRow}
use Rattle.vio_trace.specs.declared.lan_rows.OfferRow.{OfferRow}
use Rattle.vio_trace.specs.declared.rows.QueueRow.{QueueRow}
use Rattle.vio_trace.specs.declared.rows.Trace.{Trace}
use Rattle.vio_trace.specs.declared.window_rows.CopyRow.{CopyRow}
use Rattle.vio_trace.specs.declared.window_rows.PieceRow.{PieceRow}
use Rattle.vio_chart.specs.Columns.{column, lanes_below, lines_below}
use Rattle.vio_chart.specs.Drawn.{AreDrawn}
use Rattle.vio_chart.specs.Partner.{partner_of}

-- a character of a text: those that would begin or end a tag, or a reference, stand as references
abbrev pub escaped : ℕ → List ℕ
escaped c = if c == 60 then codes "&lt;" else if c == 62 then codes "&gt;" else if c == 38 then codes "&amp;" else c ∷ []

-- a line from one point to another
abbrev pub line_text : (from_x from_y to_x to_y : ℕ) → List ℕ
line_text from_x from_y to_x to_y = codes "<line x1=\"" ++ decimal from_x ++ codes "\" y1=\"" ++ decimal from_y
    ++ codes "\" x2=\"" ++ decimal to_x ++ codes "\" y2=\"" ++ decimal to_y ++ codes "\"/>\n"

-- a rectangle by its upper left corner
abbrev pub rectangle_text : (x y width height : ℕ) → List ℕ
rectangle_text x y width height = codes "<rect x=\"" ++ decimal x ++ codes "\" y=\"" ++ decimal y
    ++ codes "\" width=\"" ++ decimal width ++ codes "\" height=\"" ++ decimal height ++ codes "\"/>\n"

-- a label at a point
abbrev pub label_text : (x y : ℕ) → List ℕ → List ℕ
label_text x y label = codes "<text x=\"" ++ decimal x ++ codes "\" y=\"" ++ decimal y ++ codes "\">"
    ++ flat_map escaped label ++ codes "</text>\n"

-- a label somewhere
pub record IsLabel (text : List ℕ) : Type 0 where
  pub x : ℕ
  pub y : ℕ
  pub label : List ℕ
  pub spelled : text ≡ label_text x y label

-- a line at some height from one place to another, with a label
pub record IsArrow (from to : ℕ) (text : List ℕ) : Type 0 where
  pub y : ℕ
  pub label : List ℕ
  pub named : IsLabel label
  pub spelled : text ≡ line_text from y to y ++ label

-- a square at some height beside a place, with a label
pub record IsSquare (x : ℕ) (text : List ℕ) : Type 0 where
  pub y : ℕ
  pub label : List ℕ
  pub named : IsLabel label
  pub spelled : text ≡ rectangle_text (x - 5) y 10 10 ++ label

-- the lane of a partition, with a label
pub record IsLane (partition : ℕ) (text : List ℕ) : Type 0 where
  pub x : ℕ
  pub width : ℕ
  pub height : ℕ
  pub label : List ℕ
  pub named : IsLabel label
  pub spelled : text ≡ rectangle_text x 74 width height ++ label

-- the place of a column; in no picture that can be looked at is it the greatest number
abbrev pub x_of : ℕ → ℕ
x_of place = min (min (place * 300) (2 ^ 64 - 1) + 150) (2 ^ 64 - 1)

-- the place of a unit's line
abbrev pub unit_x : List UnitId → UnitId → ℕ
unit_x units unit = x_of (column units unit)

-- the vertical line of a unit, with a label
pub record IsUnitLine (units : List UnitId) (unit : UnitId) (text : List ℕ) : Type 0 where
  pub bottom : ℕ
  pub label : List ℕ
  pub named : IsLabel label
  pub spelled : text ≡ line_text (unit_x units unit) 118 (unit_x units unit) bottom ++ label

-- where the arrows come from that lead to a unit: its partner, or a place beside it where the trace does not tell that
abbrev pub source_x : List UnitId → UnitId → Option UnitId → ℕ
source_x units unit (Some partner) = unit_x units partner
source_x units unit None = unit_x units unit - 120

-- an arrow for each entry, all from one place to another
abbrev pub AreArrows : (from to : ℕ) → List Entry → List ℕ → Type 0
AreArrows from to entries text = AreDrawn (λ (entry : Entry). IsArrow from to) entries text

-- the entries that a unit took in a session: an arrow for each, from its partner
abbrev pub IsSession : List UnitId → List CopyRow → QueueRow → List ℕ → Type 0
IsSession units copies queue text =
    AreArrows (source_x units queue.unit (partner_of queue.unit copies)) (unit_x units queue.unit) queue.taken text

-- the unit of the first piece, or the copier where there is none
abbrev pub end_of : List PieceRow → UnitId → UnitId
end_of [] copier = copier
end_of (piece ∷ pieces) copier = piece.unit

-- a copy: an arrow from the window that was read to the one that was written
abbrev pub IsCopy : List UnitId → CopyRow → List ℕ → Type 0
IsCopy units copy text =
    IsArrow (unit_x units (end_of copy.from copy.unit)) (unit_x units (end_of copy.to copy.unit)) text

-- a request that was served: a square on the line of its server unit
abbrev pub IsService : List UnitId → Served → List ℕ → Type 0
IsService units served text = IsSquare (unit_x units served.unit) text

-- a frame: an arrow from its sender to each port that it was offered to
abbrev pub IsFrame : List UnitId → FrameRow → List ℕ → Type 0
IsFrame units frame text =
    AreDrawn (λ (offer : OfferRow). IsArrow (unit_x units frame.unit) (unit_x units offer.port)) frame.offers text

-- a group of elements of one kind, of whose text this holds
pub record IsGroup (kind : List ℕ) (Is : List ℕ → Type 0) (text : List ℕ) : Type 0 where
  pub inner : List ℕ
  pub holds : Is inner
  pub spelled : text ≡ codes "<g class=\"" ++ kind ++ codes "\">\n" ++ inner ++ codes "</g>\n"

-- the beginning of a picture, and its legend
pub record IsHead (text : List ℕ) : Type 0 where
  pub legend : List ℕ
  pub begins : text ≡ codes "<svg xmlns=\"http://www.w3.org/2000/svg\"" ++ legend

-- The parts of the picture, whose columns are these units: a head, a lane for each partition, a vertical line for each unit, an
-- arrow for each entry that was taken, an arrow for each copy, a square for each request that was served, an arrow for each port
-- that a frame was offered to, and the end.
pub record HasParts (trace : Trace) (units : List UnitId) (text : List ℕ) : Type 0 where
  pub head : List ℕ
  pub lanes : List ℕ
  pub lines : List ℕ
  pub entries : List ℕ
  pub copies : List ℕ
  pub services : List ℕ
  pub frames : List ℕ
  pub begins : IsHead head
  pub each_partition : IsGroup (codes "lane") (AreDrawn IsLane (lanes_below units 256)) lanes
  pub each_unit : IsGroup (codes "unit") (AreDrawn (IsUnitLine units) units) lines
  pub each_entry : IsGroup (codes "entry") (AreDrawn (IsSession units trace.copies) trace.queues) entries
  pub each_copy : IsGroup (codes "copy") (AreDrawn (IsCopy units) trace.copies) copies
  pub each_service : IsGroup (codes "serve") (AreDrawn (IsService units) trace.serves) services
  pub each_frame : IsGroup (codes "frame") (AreDrawn (IsFrame units) trace.frames) frames
  pub whole : text ≡ head ++ lanes ++ lines ++ entries ++ copies ++ services ++ frames ++ codes "</svg>\n"

-- the picture of a trace, whose columns are the units that have a line
abbrev pub IsPictureOf : Trace → List ℕ → Type 0
IsPictureOf trace text = HasParts trace (lines_below trace 65536) text
