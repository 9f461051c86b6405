use Rattle.std.proofs.Common.{rules, ◌≡◌, List, [], ◌∷◌, ◌++◌, map, take, subst, sym, ap, ◌∙◌}
use Rattle.std.proofs.lemmas.List.{take_more, map-append}
use Rattle.std.proofs.lemmas.List.Elements.{All-push}
use Rattle.tce_window.specs.declared.piece.Piece.{Piece}
use Rattle.tce_window.specs.Moved.{unplaced}
use Rattle.tce_window.specs.Pieces.{HasStrokes}
use Rattle.tce_window.specs.Window.{strokes_at}
use Rattle.shared_window.proofs.placing.place_pieces.Goals as goal

pub loop-piece-preserved : goal.loop-piece-preserved
loop-piece-preserved c =
    let pieces : List Piece = c.args.pieces.now in
    let list : List Piece = c.loop-piece.list.items in
    let i = c.loop-piece.piece-index in
    let item = c.piece-item.result in
    let new = c.placed.result in
    let inv = c.loop-piece.invariant in
    let same : new.page ≡ item.page = ap (λ q. q.page) c.placed.ensures.rest in
    record {
      count = search rules;
      strokes = rw c.push.ensures.items (All-push (λ piece. HasStrokes piece (strokes_at c.args.region.now piece.page)) list new inv.strokes (subst (λ p. HasStrokes new (strokes_at c.args.region.now p)) (sym same) c.placed.ensures.strokes));
      rest = ap (map unplaced) c.push.ensures.items ∙ (map-append unplaced list (new ∷ []) ∙ ((λ j. inv.rest j ++ c.placed.ensures.rest j ∷ []) ∙ (sym (map-append unplaced (take i pieces) (item ∷ []))
          ∙ ap (map unplaced) (ap (λ h. take i pieces ++ h ∷ []) c.piece-item.is ∙ sym (take_more pieces i item c.loop-piece-test.true)))));
    }
