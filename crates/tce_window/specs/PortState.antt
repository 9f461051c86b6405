-- What a port of a window knows of it. On the plain form that is all there is; on a shared form others may
-- have put more values and laid more strokes.
use Rattle.std.specs.Prelude.{◌≡◌, ℕ, ◌+◌, ◌-◌, ◌/◌, ◌<◌, ◌≤◌, ◌++◌, ◌&&◌, nat_le, nat_lt, if◌then◌else◌, Bool, true, false, All, IsTrue, IsSome, List, [], ◌∷◌, Option, None, is_some, length}
use Rattle.std.specs.Borrow.{GName}
use Rattle.vio_num.specs.declared.TheConstants.{PAGE_BYTES}
use Rattle.vio_num.specs.declared.names.UnitId.{UnitId}
use Rattle.page_slots.specs.Stroke.{StrokeValue}
use Rattle.page_slots.specs.declared.stroke.StrokeName.{StrokeName}
use Rattle.tce_window.specs.declared.answers.Right.{Right}
use Rattle.tce_window.specs.Held.{HeldValue, held_len, held_strokes}
use Rattle.page_slots.specs.Seats.{places_from}
use Rattle.tce_window.specs.Moved.{stroke_count}
use Rattle.tce_window.specs.Named.{IsFirstStale}
use Rattle.tce_window.specs.Pieces.{on_page, Touches, IsGranted, IsLast, HasStrokes, IsUsable}
use Rattle.tce_window.specs.Port.{Later, Grows, TakenOver, IsWritten, IsBusy}
use Rattle.tce_window.specs.Puts.{put_into}
use Rattle.tce_window.specs.Region.{in_region, first_page, end_page, IsInPlace, ReadsRange, IsInUse}

-- what is known of one window, field by field as a port's state has it
pub record WindowFacts : Type 0 where
  pub unit : UnitId
  pub size : ℕ
  pub lenders : List GName
  pub strokes : ℕ → Option (List StrokeValue)
  pub values : ℕ → List ℕ
  pub held_from : ℕ
  pub held_count : ℕ
  pub taken : ℕ → ℕ
  pub laid : ℕ → List ℕ
  pub in_use : ℕ

-- a port that reaches one window alone has no other beside it
abbrev pub none_beside : UnitId → WindowFacts
none_beside unit = record {
  unit = unit;
  size = 0;
  lenders = [];
  strokes = λ p. None;
  values = λ e. [];
  held_from = 0;
  held_count = 0;
  taken = λ p. 0;
  laid = λ p. [];
  in_use = 0;
}

-- what no call changes
pub record PortPlace : Type 0 where
  -- the unit whose window it is, and the number of its pages, which is that of its entries
  pub unit : UnitId
  pub size : ℕ
  -- the borrows through which the port reaches its window
  pub lenders : List GName
  -- the windows of other units that are reached through the same borrow
  pub beside : UnitId → WindowFacts

pub record PortState : Type 0 where
  pub place : PortPlace
  -- the strokes known of each page; none where the port holds the page
  pub strokes : ℕ → Option (List StrokeValue)
  -- the values known of each entry, version 0 first
  pub values : ℕ → List ℕ
  -- the entries that the port holds: so many, from this one on
  pub held_from : ℕ
  pub held_count : ℕ
  -- of each page that the port holds, the number of strokes that it had as it was taken
  pub taken : ℕ → ℕ
  -- the places, among the strokes of each page, of those that this port laid, where others lay strokes too
  pub laid : ℕ → List ℕ
  -- how often a page or an entry was read in use
  pub in_use : ℕ

-- a window as a port of it alone sees it
abbrev pub port_at : WindowFacts → PortState
port_at facts = record {
  place = record { unit = facts.unit; size = facts.size; lenders = facts.lenders; beside = none_beside };
  strokes = facts.strokes;
  values = facts.values;
  held_from = facts.held_from;
  held_count = facts.held_count;
  taken = facts.taken;
  laid = facts.laid;
  in_use = facts.in_use;
}

-- whether a range of 1 to 65,536 bytes lies inside the region
abbrev pub contains : PortState → ℕ → ℕ → Bool
contains port at len = in_region port.place.size at len

-- bytes were read that are known to lie in the range
abbrev pub Reads : PortState → ℕ → List ℕ → Type 0
Reads port at out = ReadsRange port.strokes port.place.size at out

-- this page of the range was found in use
abbrev pub FindsInUse : (is_shared : Bool) → PortState → (at len page : ℕ) → Type 0
FindsInUse is_shared port at len page = IsInUse is_shared port.strokes port.place.size at len page

-- each page that the range touches is in its place
abbrev pub AreInPlace : PortState → ℕ → ℕ → Type 0
AreInPlace port at len = IsInPlace port.strokes at len

-- where the port holds nothing, each page of the region is in its place
abbrev pub HasAllPages : PortState → Type 0
HasAllPages port = port.held_count ≡ 0 → (p : ℕ) → p < port.place.size → IsSome (port.strokes p)

-- A named read found this page stale, and this other name on it.
pub record FindsStale (name : StrokeName) (port : PortState) (at len page : ℕ) (found : Option StrokeName) : Type 0 where
  pub inside : IsTrue (contains port at len)
  pub first : IsFirstStale name at len port.strokes (first_page at) (end_page at len) page found

-- where others lay strokes too, the port laid strokes at these places of each page, behind those that it had laid
abbrev pub Lays : (is_shared : Bool) → (ℕ → List ℕ) → PortState → PortState → Type 0
Lays is_shared places old new = is_shared ≡ true → (p : ℕ) → new.laid p ≡ old.laid p ++ places p

abbrev pub LaysNothing : (is_shared : Bool) → PortState → PortState → Type 0
LaysNothing is_shared old new = is_shared ≡ true → (p : ℕ) → new.laid p ≡ old.laid p

-- where others lay strokes too, the port keeps the number of strokes that each page of the range had as it was taken
abbrev pub Counts : (is_shared : Bool) → PortState → HeldValue → Type 0
Counts is_shared port held =
    is_shared ≡ true → (p : ℕ) → IsSome (held_strokes held.pages p) → port.taken p ≡ stroke_count (held_strokes held.pages p)

-- the place of the stroke that a write laid on page p: the last one, if the range touches the page
abbrev pub place_written : (at len : ℕ) → PortState → ℕ → List ℕ
place_written at len port p =
    if nat_le (first_page at) p && nat_lt p (end_page at len) then (stroke_count (port.strokes p) - 1) ∷ [] else []

-- the places of the strokes that a held page has more than it had as it was taken
abbrev pub places_since : (taken : ℕ → ℕ) → HeldValue → ℕ → List ℕ
places_since taken held p = places_from (taken p) (stroke_count (held_strokes held.pages p) - taken p)

-- Bytes were written: on each page that they touch one stroke lies behind all that the page had, which the port laid.
pub record Writes (is_shared : Bool) (old : PortState) (at : ℕ) (bytes : List ℕ) (mark : ℕ) (new : PortState) : Type 0 where
  pub inside : IsTrue (contains old at (length bytes))
  pub there : AreInPlace new at (length bytes)
  pub strokes : (p : ℕ) → IsWritten is_shared (record { who = old.place.unit; mark = mark }) at bytes p (old.strokes p) (new.strokes p)
  pub laid : Lays is_shared (place_written at (length bytes) new) old new

-- the entries that the port holds
abbrev pub IsHeldEntry : PortState → ℕ → Type 0
IsHeldEntry port e = (port.held_from ≤ e) × (e < port.held_from + port.held_count)

-- A list was put into the entries from this address on, up to the first one that is held.
pub record Puts (old : PortState) (ioba : ℕ) (put : List ℕ) (new : PortState) : Type 0 where
  pub values : (e : ℕ) → new.values e ≡ old.values e ++ put_into (ioba / PAGE_BYTES) put e
  pub held : (e : ℕ) → IsHeldEntry old e → new.values e ≡ old.values e

-- Of a list that is put from this address on, the value at `done` met an entry with pins: where nobody else has
-- a hand in the window, one that the port itself holds.
pub record MeetsPins (is_shared : Bool) (old : PortState) (ioba : ℕ) (list : List ℕ) (entry pins done : ℕ) : Type 0 where
  pub busy : IsBusy (ioba / PAGE_BYTES) list entry pins done
  pub held : is_shared ≡ false → IsHeldEntry old entry

-- A range of `len` bytes from this address on is held: its pieces, what they are granted, and the pages that the
-- holder has in hand.
pub record Holds (is_shared : Bool) (old : PortState) (ioba len : ℕ) (right : Right) (new : PortState) (held : HeldValue) : Type 0 where
  pub right_is : held.right ≡ right
  pub touched : Touches old.place.unit ioba (ioba + len) held.pieces
  pub bytes : held_len held.pieces ≡ len
  pub granted : All (IsGranted new.values right) held.pieces
  pub last : All (IsLast new.values) held.pieces
  pub usable : IsUsable new.values right old.place.size ioba len
  pub strokes : All (λ piece. HasStrokes piece (held_strokes held.pages piece.page)) held.pieces
  pub taken : (p : ℕ) → TakenOver is_shared (old.strokes p) (held_strokes held.pages p) (new.strokes p)
  pub pages : (p : ℕ) → is_some (held_strokes held.pages p) ≡ on_page held.pieces p
  pub count : new.held_count ≡ length held.pieces
  pub from : new.held_from ≡ ioba / PAGE_BYTES
  pub inside : All (λ piece. piece.page < old.place.size) held.pieces
  pub counted : Counts is_shared new held

-- what is known of each page is as before, with more behind where others lay strokes too
abbrev pub Learns : (is_shared : Bool) → PortState → PortState → Type 0
Learns is_shared old new = (p : ℕ) → Grows is_shared (old.strokes p) (new.strokes p)

-- A write was refused: the port laid no stroke.
pub record LaysNone (is_shared : Bool) (old new : PortState) : Type 0 where
  pub strokes : Learns is_shared old new
  pub laid : LaysNothing is_shared old new

-- A range was refused: nothing is held.
pub record HoldsNone (is_shared : Bool) (old new : PortState) : Type 0 where
  pub free : new.held_count ≡ 0
  pub strokes : Learns is_shared old new

-- Nothing changed but values.
pub record OnlyPuts (old new : PortState) : Type 0 where
  pub place : new.place ≡ old.place
  pub strokes : new.strokes ≡ old.strokes
  pub held_from : new.held_from ≡ old.held_from
  pub held_count : new.held_count ≡ old.held_count
  pub taken : new.taken ≡ old.taken
  pub laid : new.laid ≡ old.laid
  pub in_use : old.in_use ≤ new.in_use

-- Nothing changed but what is known of strokes that others laid.
pub record OnlyReads (is_shared : Bool) (old new : PortState) : Type 0 where
  pub place : new.place ≡ old.place
  pub strokes : Learns is_shared old new
  pub values : new.values ≡ old.values
  pub held_from : new.held_from ≡ old.held_from
  pub held_count : new.held_count ≡ old.held_count
  pub taken : new.taken ≡ old.taken
  pub laid : new.laid ≡ old.laid
  pub in_use : old.in_use ≤ new.in_use

-- Nothing changed but strokes, and which of them the port laid.
pub record OnlyWrites (old new : PortState) : Type 0 where
  pub place : new.place ≡ old.place
  pub values : new.values ≡ old.values
  pub held_from : new.held_from ≡ old.held_from
  pub held_count : new.held_count ≡ old.held_count
  pub taken : new.taken ≡ old.taken
  pub in_use : old.in_use ≤ new.in_use

-- Nothing changed but what is held, what is known of values and strokes, and which strokes the port laid.
pub record OnlyHolds (is_shared : Bool) (old new : PortState) : Type 0 where
  pub place : new.place ≡ old.place
  pub values : (e : ℕ) → Later is_shared (old.values e) (new.values e)
  pub in_use : old.in_use ≤ new.in_use

-- Nothing changed but what is held, where its pages are, and which strokes the port laid: no entry has another
-- value than before.
pub record OnlyGivesBack (old new : PortState) : Type 0 where
  pub place : new.place ≡ old.place
  pub values : new.values ≡ old.values
  pub in_use : new.in_use ≡ old.in_use
