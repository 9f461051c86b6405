-- The range that a plain window lends, until it is given back.
use Rattle.std.specs.Prelude.{◌≡◌, All, List, Option, Some, None, IsSome, true, length, map}
use Rattle.std.proofs.Common.{refl, sym, subst}
use Rattle.page_slots.specs.Stroke.{StrokeValue}
use Rattle.tce_window.specs.declared.piece.Piece.{Piece}
use Rattle.tce_window.specs.Held.{HeldValue, held_strokes, FillsPlaces}
use Rattle.tce_window.specs.Moved.{unplaced, Follows}
use Rattle.tce_window.specs.Pieces.{LieFrom}
use Rattle.tce_window.specs.Port.{Grows}
use Rattle.tce_window.specs.Window.{WindowValue, strokes_at}

-- these pieces are of the window, in the entries that it holds
pub record AreLent (window : WindowValue) (pieces : List Piece) : Type 0 where
  pub units : All (λ piece. piece.unit ≡ window.unit) pieces
  pub entries : LieFrom window.held_from pieces
  pub count : window.held_count ≡ length pieces

-- the range is the one that the window holds, whatever strokes were laid on its pages since: its pieces are
-- those, but for their places among strokes, and its pages fit into the places that are empty
pub record IsLentBy (window : WindowValue) (held : HeldValue) : Type 0 where
  pub pieces : AreLent window (map unplaced held.pieces)
  pub places : FillsPlaces held.pages (length window.pages) (strokes_at window.pages)

there_still : (old new : Option (List StrokeValue)) → Grows true old new → IsSome old → IsSome new
there_still (Some old) (Some new) grown there = refl
there_still (Some old) None grown there = absurd grown
there_still None (Some new) grown there = refl
there_still None None grown there = there

there_before : (old new : Option (List StrokeValue)) → Grows true old new → IsSome new → IsSome old
there_before (Some old) new grown there = refl
there_before None (Some new) grown there = absurd grown
there_before None None grown there = there

-- a range that was written through is still the one that is lent
pub written_still_lent : (window : WindowValue) (old new : HeldValue) → IsLentBy window old → Follows old new → IsLentBy window new
written_still_lent window old new lent follows = record {
  pieces = subst (AreLent window) (sym follows.pieces) lent.pieces;
  places = record {
    within = λ p there. lent.places.within p (there_before (held_strokes old.pages p) (held_strokes new.pages p) (follows.pages p) there);
    away = λ p less empty. there_still (held_strokes old.pages p) (held_strokes new.pages p) (follows.pages p) (lent.places.away p less empty);
    places = λ p there. lent.places.places p (there_before (held_strokes old.pages p) (held_strokes new.pages p) (follows.pages p) there);
  };
}
