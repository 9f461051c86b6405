-- The pieces of a range that was just held are those that the window lends.
use Rattle.std.proofs.Common.{◌≡◌, ℕ, ◌/◌, List, [], ◌∷◌, map, length, refl, sym, ◌∙◌, ap}
use Rattle.vio_num.specs.declared.names.UnitId.{UnitId}
use Rattle.tce_window.specs.declared.piece.Piece.{Piece}
use Rattle.tce_window.specs.Pieces.{Touches}
use Rattle.tce_window.specs.Moved.{unplaced}
use Rattle.tce_window.specs.Window.{WindowValue}
use Rattle.tce_window.specs.Lent.{AreLent}
use Rattle.tce_window.proofs.Laws.{touched_unit, touched_lie, kept_length, kept_lie, kept_unit}

unplaced_twice : (pieces : List Piece) → map unplaced (map unplaced pieces) ≡ map unplaced pieces
unplaced_twice [] = refl
unplaced_twice (piece ∷ pieces) = ap (λ rest. unplaced piece ∷ rest) (unplaced_twice pieces)

pub lent_pieces : (window : WindowValue) (unit : UnitId) (from to : ℕ) (pieces : List Piece) → Touches unit from to pieces → window.unit ≡ unit
    → window.held_from ≡ from / 4096 → window.held_count ≡ length pieces → AreLent window (map unplaced pieces)
lent_pieces window unit from to pieces touched own first count = record {
  units = kept_unit window.unit (map unplaced pieces) pieces (unplaced_twice pieces) (rw own (touched_unit unit from to pieces touched));
  entries = kept_lie window.held_from (map unplaced pieces) pieces (unplaced_twice pieces) (rw first (touched_lie unit from to pieces touched));
  count = count ∙ sym (kept_length (map unplaced pieces) pieces (unplaced_twice pieces));
}
