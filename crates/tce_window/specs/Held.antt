-- A held range: its pieces, and the pages that they lie on.
use Rattle.std.specs.Prelude.{◌≡◌, ℕ, ◌+◌, ◌<◌, ◌==◌, List, [], ◌∷◌, Option, Some, None, IsSome, take, drop, if◌then◌else◌}
use Rattle.page_slots.specs.Stroke.{StrokeValue}
use Rattle.std.specs.List.{flat_map}
use Rattle.page_slots.specs.Page.{left_by}
use Rattle.tce_window.specs.declared.piece.Piece.{Piece}
use Rattle.tce_window.specs.declared.answers.Right.{Right}
use Rattle.tce_window.specs.declared.held_pages.HeldPage.{HeldPage}

pub record HeldValue : Type 0 where
  -- the right under which the range is held
  pub right : Right
  -- its pieces, in the order of their addresses
  pub pieces : List Piece
  -- the pages on which they lie, each once
  pub pages : List (Option HeldPage)

-- the first that is there
abbrev pub either : Option (List StrokeValue) → Option (List StrokeValue) → Option (List StrokeValue)
either (Some strokes) other = Some strokes
either None other = other

-- the strokes of this page, if it has number p
abbrev pub strokes_of : Option HeldPage → ℕ → Option (List StrokeValue)
strokes_of (Some held) p = if held.number == p then Some held.page.strokes else None
strokes_of None p = None

-- the strokes of page p among these
abbrev pub held_strokes : List (Option HeldPage) → ℕ → Option (List StrokeValue)
held_strokes [] p = None
held_strokes (held ∷ pages) p = either (strokes_of held p) (held_strokes pages p)

-- the pages fit into the places of n pages that are away: each has its place there, and each that is away
-- is among them
pub record FillsPlaces (pages : List (Option HeldPage)) (n : ℕ) (strokes : ℕ → Option (List StrokeValue)) : Type 0 where
  pub within : (p : ℕ) → IsSome (held_strokes pages p) → p < n
  pub away : (p : ℕ) → p < n → strokes p ≡ None → IsSome (held_strokes pages p)
  pub places : (p : ℕ) → IsSome (held_strokes pages p) → strokes p ≡ None

-- the number of bytes of the pieces
abbrev pub held_len : List Piece → ℕ
held_len [] = 0
held_len (piece ∷ pieces) = piece.len + held_len pieces

-- the bytes of a page with these strokes
abbrev pub page_bytes : Option (List StrokeValue) → List ℕ
page_bytes (Some strokes) = left_by strokes
page_bytes None = []

-- the bytes of the piece, and those of the pieces one behind the other
abbrev pub piece_bytes : List (Option HeldPage) → Piece → List ℕ
piece_bytes pages piece = take piece.len (drop piece.offset (page_bytes (held_strokes pages piece.page)))

abbrev pub joined : List (Option HeldPage) → List Piece → List ℕ
joined pages pieces = flat_map (piece_bytes pages) pieces
