-- Each step makes room on the page of the next piece.
use Rattle.std.proofs.Common.{◌<◌, ◌≡◌, ◌≤◌, ◌∙◌, length, get_or, take, le_trans, sym, subst, rules, arith}
use Rattle.std.proofs.lemmas.List.{take_all, take_more}
use Rattle.std.proofs.lemmas.List.Elements.{All-push, All-same, All-weaker}
use Rattle.tce_window.specs.declared.piece.Piece.{Piece}
use Rattle.tce_window.specs.Laying.{count_on}
use Rattle.tce_window.proofs.Growing.{have_room}
use Rattle.tce_window.proofs.laying.make_room.Goals as goal

pub loop-piece-preserved : goal.loop-piece-preserved
loop-piece-preserved g c =
    let pieces = c.args.pieces.now in
    let i = c.loop-piece.piece-index in
    let Fits : Piece → Type 0 = λ piece. count_on piece.page pieces ≤ g.P.PageSet.room c.reserve.new.self piece.page in
    let less : i < length pieces = omega arith in
    let d : Piece = c.piece-item.result in
    let item : d ≡ get_or pieces i d = search rules in
    let enough : Fits d = subst (λ n. n ≤ g.P.PageSet.room c.reserve.new.self d.page) c.count_on.ensures c.in_ok-reserve.ensures.room in
    record {
      strokes = λ p. c.in_ok-reserve.ensures.strokes p ∙ c.loop-piece.invariant.strokes p;
      places = c.in_ok-reserve.ensures.places ∙ c.loop-piece.invariant.places;
      room =
          All-same Fits _ _ (take_more pieces i d less)
          (All-push Fits (take i pieces) (get_or pieces i d)
          (All-weaker (λ piece. count_on piece.page pieces ≤ g.P.PageSet.room c.loop-piece.pages piece.page) Fits
          (λ piece h. le_trans h (c.in_ok-reserve.ensures.kept piece.page)) (take i pieces) c.loop-piece.invariant.room)
          (subst Fits item enough));
    }

pub returns-clause-room : goal.returns-clause-room
returns-clause-room g c =
    let pieces = c.args.pieces.now in
    let past : length pieces ≤ c.loop-piece.piece-index = omega arith in
    have_room pieces (g.P.PageSet.room c.loop-piece.pages)
    (All-same (λ piece. count_on piece.page pieces ≤ g.P.PageSet.room c.loop-piece.pages piece.page) pieces (take c.loop-piece.piece-index pieces) (sym (take_all c.loop-piece.piece-index pieces past)) c.loop-piece.invariant.room)
