-- Ranges of a window's addresses as pieces, one for each entry that they touch, and what grants them.
use Rattle.std.specs.Prelude.{◌≡◌, ℕ, ◌+◌, ◌-◌, ◌/◌, ◌%◌, ◌<◌, ◌≤◌, ◌==◌, Bool, true, false, IsTrue, List, [], ◌∷◌, Option, Some, None, length, slice_get, min}
use Rattle.std.specs.List.{list_any}
use Rattle.vio_num.specs.declared.TheConstants.{PAGE_BYTES}
use Rattle.vio_num.specs.declared.names.UnitId.{UnitId}
use Rattle.page_slots.specs.Stroke.{StrokeValue}
use Rattle.tce_window.specs.declared.piece.Piece.{Piece}
use Rattle.tce_window.specs.declared.answers.Right.{Right}
use Rattle.tce_window.specs.declared.answers.HoldFault.{HoldFault}
use Rattle.tce_window.specs.declared.answers.HoldFault.TheVariants.{Past, NotGranted, InUse}
use Rattle.tce_window.specs.Grant.{grants, told, IsCurrent}

-- the piece with which the range from..to begins: it ends with the range or with its entry
pub record IsPieceAt (unit : UnitId) (from to : ℕ) (piece : Piece) : Type 0 where
  pub unit_is : piece.unit ≡ unit
  pub entry : piece.entry ≡ from / PAGE_BYTES
  pub offset : piece.offset ≡ from % PAGE_BYTES
  pub len : piece.len ≡ min (to - from) (PAGE_BYTES - from % PAGE_BYTES)

-- the pieces touch the consecutive addresses from..to of the unit's window
abbrev pub Touches : UnitId → ℕ → ℕ → List Piece → Type 0
Touches unit from to [] = from ≡ to
Touches unit from to (piece ∷ pieces) =
    (from < to) × IsPieceAt unit from to piece × Touches unit (from + piece.len) to pieces

-- the value of the piece's version grants the right, and names its page
pub record IsGranted (values : ℕ → List ℕ) (right : Right) (piece : Piece) : Type 0 where
  pub value : ℕ
  pub shown : slice_get (values piece.entry) piece.version ≡ Some value
  pub granted : IsTrue (grants right value)
  pub page : piece.page ≡ value / PAGE_BYTES

-- no later value of the piece's entry is known
abbrev pub IsLast : (ℕ → List ℕ) → Piece → Type 0
IsLast values piece = length (values piece.entry) ≡ piece.version + 1

-- the page of the piece, with as many strokes as the piece says
abbrev pub HasStrokes : Piece → Option (List StrokeValue) → Type 0
HasStrokes piece (Some strokes) = piece.at ≡ length strokes
HasStrokes piece None = ⊥

-- whether one of the pieces lies on page p
abbrev pub on_page : List Piece → ℕ → Bool
on_page pieces p = list_any (λ piece. piece.page == p) pieces

-- The last value of entry e is known, and grants the right.
pub record MayUse (values : ℕ → List ℕ) (right : Right) (e : ℕ) : Type 0 where
  pub version : ℕ
  pub value : ℕ
  pub current : IsCurrent values e version value
  pub granted : IsTrue (grants right value)

-- The last value of entry e is known, and names this page.
pub record NamesPage (values : ℕ → List ℕ) (e page : ℕ) : Type 0 where
  pub version : ℕ
  pub value : ℕ
  pub current : IsCurrent values e version value
  pub named : value / PAGE_BYTES ≡ page

-- of a window of n entries, each entry from `first` to before `entry` grants the right
abbrev pub AreUsable : (ℕ → List ℕ) → Right → ℕ → ℕ → ℕ → Type 0
AreUsable values right n first entry = (e : ℕ) → first ≤ e → e < entry → (e < n) × MayUse values right e

-- the value of this version of the entry lacks the right, and is told so
abbrev pub Lacks : (ℕ → List ℕ) → Right → ℕ → ℕ → ℕ → Type 0
Lacks values right entry version tce =
    (value : ℕ) × IsCurrent values entry version value × (grants right value ≡ false) × (tce ≡ told value)

-- the entry behind the last one that a range touches
abbrev pub end_entry : ℕ → ℕ → ℕ
end_entry ioba len = (ioba + len + 4095) / PAGE_BYTES

-- each entry that the range touches is one of n, and grants the right
abbrev pub IsUsable : (ℕ → List ℕ) → Right → (n ioba len : ℕ) → Type 0
IsUsable values right n ioba len = AreUsable values right n (ioba / PAGE_BYTES) (end_entry ioba len)

-- an entry that the range touches names the page
abbrev pub IsOfRange : (ℕ → List ℕ) → (ioba len page : ℕ) → Type 0
IsOfRange values ioba len page = (e : ℕ) × (ioba / PAGE_BYTES ≤ e) × (e < end_entry ioba len) × NamesPage values e page

-- why a range of a window of n entries is not held: its first entry that is past the window or lacks the
-- right; or all its entries may be used, and the page of one is in use
abbrev pub IsRefused : (ℕ → List ℕ) → Right → (n ioba len : ℕ) → HoldFault → Type 0
IsRefused values right n ioba len (Past entry) =
    (ioba / PAGE_BYTES ≤ entry) × (entry < end_entry ioba len) × (n ≤ entry) × AreUsable values right n (ioba / PAGE_BYTES) entry
IsRefused values right n ioba len (NotGranted entry version tce) =
    (ioba / PAGE_BYTES ≤ entry) × (entry < end_entry ioba len) × (entry < n) × Lacks values right entry version tce × AreUsable values right n (ioba / PAGE_BYTES) entry
IsRefused values right n ioba len (InUse page word) =
    (page < n) × IsOfRange values ioba len page × IsUsable values right n ioba len

-- why the entry with number `at` refuses a range: it is past the window, or lacks the right
abbrev pub IsRefusedAt : (ℕ → List ℕ) → Right → (n at : ℕ) → HoldFault → Type 0
IsRefusedAt values right n at (Past entry) = (entry ≡ at) × (n ≤ entry)
IsRefusedAt values right n at (NotGranted entry version tce) = (entry ≡ at) × (entry < n) × Lacks values right entry version tce
IsRefusedAt values right n at (InUse page word) = ⊥

-- a page is found in use only where others have a hand in the window
abbrev pub IsSharedUse : (is_shared : Bool) → HoldFault → Type 0
IsSharedUse is_shared (InUse page word) = is_shared ≡ true
IsSharedUse is_shared _ = Unit {0}

-- the refusal names an entry, and no page in use
abbrev pub IsOfEntry : HoldFault → Type 0
IsOfEntry (InUse page word) = ⊥
IsOfEntry _ = Unit {0}

-- the pieces lie in consecutive entries, from this one on
abbrev pub LieFrom : ℕ → List Piece → Type 0
LieFrom entry [] = Unit {0}
LieFrom entry (piece ∷ pieces) = (piece.entry ≡ entry) × LieFrom (entry + 1) pieces
