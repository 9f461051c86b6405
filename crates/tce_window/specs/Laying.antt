-- How strokes are laid on pages, one after another.
use Rattle.std.specs.Prelude.{ℕ, suc, ◌+◌, ◌-◌, ◌/◌, ◌%◌, ◌≡◌, ◌<◌, ◌≤◌, ◌==◌, min, List, [], ◌∷◌, ◌++◌, Option, Some, None, is_some, if◌then◌else◌}
use Rattle.std.specs.List.{count_by}
use Rattle.vio_num.specs.declared.TheConstants.{PAGE_BYTES}
use Rattle.page_slots.specs.Stroke.{StrokeValue}
use Rattle.page_slots.specs.Page.{AreWithinPage}
use Rattle.tce_window.specs.declared.piece.Piece.{Piece}
use Rattle.tce_window.specs.declared.held_pages.HeldPage.{HeldPage}
use Rattle.tce_window.specs.Held.{strokes_of}
use Rattle.tce_window.specs.Strokes.{with_strokes}

-- how many of the pieces lie on page p
abbrev pub count_on : ℕ → List Piece → ℕ
count_on p pieces = count_by (λ piece. piece.page == p) pieces

-- the strokes of page p, once this one is written on the page of this number
abbrev pub with_stroke : (number : ℕ) → StrokeValue → (p : ℕ) → Option (List StrokeValue) → Option (List StrokeValue)
with_stroke number stroke p strokes = if number == p then with_strokes strokes (stroke ∷ []) else strokes

-- each page has room for a stroke for each piece that lies on it
abbrev pub HaveRoom : List Piece → (room : ℕ → ℕ) → Type 0
HaveRoom pieces room = (p : ℕ) → count_on p pieces ≤ room p

-- the strokes for which this page has room
abbrev pub room_of : Option HeldPage → ℕ
room_of (Some held) = held.page.spare
room_of None = 0

-- the place of page p among these
abbrev pub place_on : List (Option HeldPage) → ℕ → ℕ
place_on [] p = 0
place_on (held ∷ pages) p = if is_some (strokes_of held p) then 0 else suc (place_on pages p)

-- the strokes for which page p has room
abbrev pub held_room : List (Option HeldPage) → ℕ → ℕ
held_room [] p = 0
held_room (held ∷ pages) p = if is_some (strokes_of held p) then room_of held else held_room pages p

-- a held page with room for this many strokes
abbrev pub HasRoom : ℕ → Option HeldPage → Type 0
HasRoom count (Some held) = count ≤ held.page.spare
HasRoom count None = Unit {0}

-- the strokes of a held page lie within it
abbrev pub IsWithinHeld : Option HeldPage → Type 0
IsWithinHeld (Some held) = AreWithinPage held.page.strokes
IsWithinHeld None = Unit {0}

-- a held page, with one stroke more
abbrev pub with_more : StrokeValue → Option HeldPage → Option HeldPage
with_more stroke (Some held) =
    Some (record held { page = record { strokes = held.page.strokes ++ stroke ∷ []; spare = held.page.spare - 1 } })
with_more stroke None = None

-- pieces that lie over the addresses from..to of a region, one on each page
abbrev pub LieOver : (from to : ℕ) → List Piece → Type 0
LieOver from to [] = from ≡ to
LieOver from to (piece ∷ pieces) =
    (from < to) × (piece.page ≡ from / PAGE_BYTES) × (piece.offset ≡ from % PAGE_BYTES) × (piece.len ≡ min (to - from) (PAGE_BYTES - from % PAGE_BYTES)) × LieOver (from + piece.len) to pieces
