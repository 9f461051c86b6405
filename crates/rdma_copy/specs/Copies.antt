-- What a copy leaves, of the two windows between which it is made.
use Rattle.std.specs.Prelude.{◌≡◌, ℕ, ◌≤◌, Bool, All, List, length}
use Rattle.std.specs.List.{flat_map}
use Rattle.tce_window.specs.declared.piece.TheConstants.{MOST_BYTES}
use Rattle.page_slots.specs.declared.stroke.StrokeName.{StrokeName}
use Rattle.tce_window.specs.declared.answers.HoldFault.{HoldFault}
use Rattle.tce_window.specs.declared.answers.Right.{Right}
use Rattle.tce_window.specs.declared.piece.Piece.{Piece}
use Rattle.tce_window.specs.Held.{HeldValue, held_len, held_strokes, joined}
use Rattle.tce_window.specs.Moved.{numbered, piece_strokes, places_on, read_bytes, stroke_count, strokes_on, IsLaid, IsWrittenTo}
use Rattle.tce_window.specs.Pieces.{HasStrokes, IsLast, IsOfEntry, IsRefused, IsUsable}
use Rattle.tce_window.specs.Port.{Later}
use Rattle.tce_window.specs.PortState.{PortState, Lays}
use Rattle.tce_window.specs.Strokes.{with_strokes}
use Rattle.rdma_copy.specs.declared.copy.CopyRecord.{CopyRecord}
use Rattle.rdma_copy.specs.Copy.{IsLawful, Side, side}

-- what is known of a window, as a side of a copy
abbrev pub side_of : PortState → Side
side_of port = side port.place.unit port.values port.strokes

-- The copy was made, and is lawful: at the last known values of the entries, from pages with all their strokes
-- that are known, with strokes that lie on each page behind all that it had.
pub record Copies (is_shared : Bool) (src dst dst' : PortState) (from to len : ℕ) (name : StrokeName) (copy : CopyRecord) : Type 0 where
  pub name_is : copy.name ≡ name
  pub len_is : copy.len ≡ len
  pub lawful : IsLawful copy (side_of src) from (side_of dst') to
  pub last_read : All (IsLast src.values) copy.from.items
  pub all_read : All (λ piece. HasStrokes piece (src.strokes piece.page)) copy.from.items
  pub last_written : All (IsLast dst'.values) copy.to.items
  pub laid : (p : ℕ) → IsLaid is_shared p copy.to.items
      (piece_strokes name (flat_map (read_bytes src.strokes) copy.from.items) copy.to.items) (dst.strokes p) (dst'.strokes p)
  pub places : Lays is_shared (λ p. places_on p copy.to.items) dst dst'

-- the bytes of a held range
abbrev pub bytes_held : HeldValue → List ℕ
bytes_held held = joined held.pages held.pieces

-- The bytes of a held range were written to a range of a window.
pub record Fills (is_shared : Bool) (source : HeldValue) (dst dst' : PortState) (to len : ℕ) (name : StrokeName) (copy : CopyRecord) : Type 0 where
  pub name_is : copy.name ≡ name
  pub len_is : copy.len ≡ len
  pub long : length (bytes_held source) ≡ len
  pub from : copy.from.items ≡ source.pieces
  pub written : IsWrittenTo dst'.place.unit dst'.values dst'.strokes to name copy.to.items (bytes_held source)
  pub last : All (IsLast dst'.values) copy.to.items
  pub laid : (p : ℕ) → IsLaid is_shared p copy.to.items (piece_strokes name (bytes_held source) copy.to.items) (dst.strokes p) (dst'.strokes p)
  pub places : Lays is_shared (λ p. places_on p copy.to.items) dst dst'

-- A record of this copy, between these pieces.
pub record IsRecordOf (name : StrokeName) (len : ℕ) (from to : List Piece) (copy : CopyRecord) : Type 0 where
  pub name_is : copy.name ≡ name
  pub len_is : copy.len ≡ len
  pub from_is : copy.from.items ≡ from
  pub to_is : copy.to.items ≡ to

-- The bytes of a held range were written over another, and its pieces are placed behind the strokes of before.
pub record IsOverwritten (name : StrokeName) (source old new : HeldValue) : Type 0 where
  pub bytes : length (bytes_held source) ≡ held_len source.pieces
  pub strokes : (p : ℕ) → held_strokes new.pages p ≡ with_strokes (held_strokes old.pages p)
      (strokes_on p old.pieces (piece_strokes name (bytes_held source) old.pieces))
  pub pieces : new.pieces ≡ numbered (λ p. stroke_count (held_strokes old.pages p)) old.pieces

-- Nothing was written over a held range.
pub record IsUnwritten (old new : HeldValue) : Type 0 where
  pub strokes : (p : ℕ) → held_strokes new.pages p ≡ held_strokes old.pages p
  pub pieces : new.pieces ≡ old.pieces

-- Each entry of a range may be used, as it is known.
abbrev pub MayHold : PortState → Right → (ioba len : ℕ) → Type 0
MayHold port right ioba len = IsUsable port.values right port.place.size ioba len

-- A range of 1 to 65,536 bytes is refused for this entry of it.
pub record RefusesRange (port : PortState) (right : Right) (ioba len : ℕ) (fault : HoldFault) : Type 0 where
  pub some : 1 ≤ len
  pub few : len ≤ MOST_BYTES
  pub of_entry : IsOfEntry fault
  pub refused : IsRefused port.values right port.place.size ioba len fault

-- Nothing is held, and nothing changed but what is known of the window, and which strokes the port laid.
pub record OnlyCopies (is_shared : Bool) (old new : PortState) : Type 0 where
  pub free : new.held_count ≡ 0
  pub place : new.place ≡ old.place
  pub values : (e : ℕ) → Later is_shared (old.values e) (new.values e)
  pub in_use : old.in_use ≤ new.in_use
