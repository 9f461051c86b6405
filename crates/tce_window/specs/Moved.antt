-- Bytes that are read and written through the pieces of a held range.
use Rattle.std.specs.Prelude.{◌≡◌, ℕ, ◌+◌, ◌<◌, ◌≤◌, ◌==◌, Bool, true, All, List, [], ◌∷◌, Option, Some, None, length, map, take, drop, slice_get, if◌then◌else◌}
use Rattle.std.specs.List.{flat_map}
use Rattle.std.specs.Option.{option_and_then}
use Rattle.vio_num.specs.declared.names.UnitId.{UnitId}
use Rattle.page_slots.specs.Stroke.{StrokeValue}
use Rattle.page_slots.specs.declared.stroke.StrokeName.{StrokeName}
use Rattle.page_slots.specs.Page.{bytes_at}
use Rattle.tce_window.specs.declared.piece.Piece.{Piece}
use Rattle.tce_window.specs.declared.answers.Right.TheVariants.{Read, Write}
use Rattle.tce_window.specs.Held.{HeldValue, held_strokes}
use Rattle.tce_window.specs.Pieces.{Touches, IsGranted}
use Rattle.tce_window.specs.Port.{Grows}
use Rattle.tce_window.specs.Strokes.{with_strokes}

-- the strokes of a write of these bytes over pieces: one for each piece, with the part that falls to it
abbrev pub piece_strokes : StrokeName → List ℕ → List Piece → List StrokeValue
piece_strokes name bytes [] = []
piece_strokes name bytes (piece ∷ pieces) =
    record { name = name; offset = piece.offset; bytes = take piece.len bytes } ∷ piece_strokes name (drop piece.len bytes) pieces

-- those of the pieces' strokes that lie on page p, in their order
abbrev pub strokes_on : ℕ → List Piece → List StrokeValue → List StrokeValue
strokes_on p (piece ∷ pieces) (stroke ∷ strokes) =
    if piece.page == p then stroke ∷ strokes_on p pieces strokes else strokes_on p pieces strokes
strokes_on p _ _ = []

-- the number of a page's strokes
abbrev pub stroke_count : Option (List StrokeValue) → ℕ
stroke_count (Some strokes) = length strokes
stroke_count None = 0

-- the places of those pieces that lie on page p, in their order
abbrev pub places_on : ℕ → List Piece → List ℕ
places_on p [] = []
places_on p (piece ∷ pieces) = if piece.page == p then piece.at ∷ places_on p pieces else places_on p pieces

-- the pieces, each with the place of its stroke, where page p had `count p` strokes before
abbrev pub numbered : (ℕ → ℕ) → List Piece → List Piece
numbered count [] = []
numbered count (piece ∷ pieces) =
    record piece { at = count piece.page } ∷ numbered (λ p. if piece.page == p then count p + 1 else count p) pieces

-- a piece but for its place among the strokes
abbrev pub unplaced : Piece → Piece
unplaced piece = record piece { at = 0 }

-- a held range after a write through it: its pieces lie where they lay, and its pages have what they had
pub record Follows (old new : HeldValue) : Type 0 where
  pub right : new.right ≡ old.right
  pub pieces : map unplaced new.pieces ≡ map unplaced old.pieces
  pub pages : (p : ℕ) → Grows true (held_strokes old.pages p) (held_strokes new.pages p)

-- the bytes of a piece that is read: those that the first strokes of its page left, as many as it says
abbrev pub left_at : Option (List StrokeValue) → ℕ → List ℕ
left_at (Some strokes) i = bytes_at strokes i
left_at None i = []

abbrev pub read_bytes : (ℕ → Option (List StrokeValue)) → Piece → List ℕ
read_bytes strokes piece = take piece.len (drop piece.offset (left_at (strokes piece.page) piece.at))

-- the stroke that a written piece names
abbrev pub stroke_of : (ℕ → Option (List StrokeValue)) → Piece → Option StrokeValue
stroke_of strokes piece = option_and_then (λ s. slice_get s piece.at) (strokes piece.page)

-- the piece is one stroke of this name, of its offset and its length
abbrev pub IsNamed : StrokeName → Piece → Option StrokeValue → Type 0
IsNamed name piece (Some stroke) =
    (stroke.name ≡ name) × (stroke.offset ≡ piece.offset) × (length stroke.bytes ≡ piece.len)
IsNamed name piece None = ⊥

abbrev pub bytes_of : Option StrokeValue → List ℕ
bytes_of (Some stroke) = stroke.bytes
bytes_of None = []

-- no stroke is that of two pieces: on each page later pieces have later strokes
abbrev pub AreApart : List Piece → Type 0
AreApart [] = Unit {0}
AreApart (piece ∷ pieces) =
    All (λ other. other.page ≡ piece.page → piece.at < other.at) pieces × AreApart pieces

-- these pieces are read from the unit's window from this address on, and are these bytes
pub record IsReadFrom (unit : UnitId) (values : ℕ → List ℕ) (strokes : ℕ → Option (List StrokeValue)) (at : ℕ) (pieces : List Piece) (bytes : List ℕ) : Type 0 where
  pub touched : Touches unit at (at + length bytes) pieces
  pub granted : All (IsGranted values Read) pieces
  pub reached : All (λ piece. piece.at ≤ stroke_count (strokes piece.page)) pieces
  pub join : flat_map (read_bytes strokes) pieces ≡ bytes

-- these bytes are written to these pieces of the unit's window from this address on, under this name
pub record IsWrittenTo (unit : UnitId) (values : ℕ → List ℕ) (strokes : ℕ → Option (List StrokeValue)) (at : ℕ) (name : StrokeName) (pieces : List Piece) (bytes : List ℕ) : Type 0 where
  pub touched : Touches unit at (at + length bytes) pieces
  pub granted : All (IsGranted values Write) pieces
  pub named : All (λ piece. IsNamed name piece (stroke_of strokes piece)) pieces
  pub apart : AreApart pieces
  pub join : flat_map (λ piece. bytes_of (stroke_of strokes piece)) pieces ≡ bytes

-- the strokes of these pieces that lie on page p were laid behind all that it had then, and the pieces name
-- these and no earlier ones
pub record IsLaid (is_shared : Bool) (p : ℕ) (pieces : List Piece) (strokes : List StrokeValue) (old new : Option (List StrokeValue)) : Type 0 where
  pub before : Option (List StrokeValue)
  pub grown : Grows is_shared old before
  pub laid : new ≡ with_strokes before (strokes_on p pieces strokes)
  pub behind : All (λ piece. piece.page ≡ p → stroke_count before ≤ piece.at) pieces
