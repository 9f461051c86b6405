-- A plain window as a port.
use Rattle.std.specs.Prelude.{◌≡◌, ℕ, ◌+◌, ◌*◌, ◌/◌, ◌<◌, ◌≤◌, All, List, [], Some, length, refl, slice_get}
use Rattle.vio_num.specs.declared.TheConstants.{PAGE_BYTES}
use Rattle.tce_window.specs.declared.answers.Right.{Right}
use Rattle.tce_window.specs.declared.piece.Piece.{Piece}
use Rattle.tce_window.specs.Grant.{values_of}
use Rattle.tce_window.specs.Pieces.{IsPieceAt, Touches, IsGranted, IsLast, HasStrokes, IsUsable, MayUse}
use Rattle.tce_window.specs.PortState.{PortState, none_beside}
use Rattle.tce_window.specs.Window.{WindowValue, strokes_at}

-- what is known of a plain window is all there is; since nobody else lays strokes, it keeps no places of its own
abbrev pub known_of : WindowValue → PortState
known_of window = record {
  place = record {
    unit = window.unit;
    size = length window.pages;
    lenders = [];
    beside = none_beside;
  };
  strokes = strokes_at window.pages;
  values = values_of window.rows;
  held_from = window.held_from;
  held_count = window.held_count;
  taken = λ _. 0;
  laid = λ _. [];
  in_use = window.in_use;
}

-- version 0 of each entry
pub plain_begins : (window : WindowValue) (e : ℕ) → slice_get ((known_of window).values e) 0 ≡ Some (PAGE_BYTES * e + 3)
unfolding values_of
plain_begins window e = refl

-- The piece with which a range of `left` bytes begins may be used, and its page is in its place.
pub record MayTake (port : PortState) (right : Right) (address left : ℕ) (piece : Piece) : Type 0 where
  pub piece_is : IsPieceAt port.place.unit address (address + left) piece
  pub granted : IsGranted port.values right piece
  pub last : IsLast port.values piece
  pub strokes : HasStrokes piece (port.strokes piece.page)
  pub usable : MayUse port.values right (address / PAGE_BYTES)
  pub inside : address / PAGE_BYTES < port.place.size

-- The pieces of a range, each of which may be used.
pub record MayTakeEach (port : PortState) (right : Right) (ioba len : ℕ) (pieces : List Piece) : Type 0 where
  pub touched : Touches port.place.unit ioba (ioba + len) pieces
  pub granted : All (IsGranted port.values right) pieces
  pub last : All (IsLast port.values) pieces
  pub strokes : All (λ piece. HasStrokes piece (port.strokes piece.page)) pieces
  pub usable : IsUsable port.values right port.place.size ioba len
  pub inside : ioba / PAGE_BYTES + length pieces ≤ port.place.size
  pub some : 1 ≤ length pieces
