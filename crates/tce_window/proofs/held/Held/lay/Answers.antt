-- The strokes are laid on the pages, and the pieces lie where they lay.
use Rattle.std.proofs.Common.{◌≡◌, ℕ, ◌≤◌, List, Option, Result, OnOk, OnErr, length, ap, subst, refl, sym, arith}
use Rattle.arrayvec.specs.ArrayVec.{ArrayVec, with_items}
use Rattle.arrayvec.proofs.ArrayVecLemmas.{items-with_items}
use Rattle.page_slots.specs.Stroke.{StrokeValue}
use Rattle.tce_window.specs.declared.piece.Piece.{Piece}
use Rattle.tce_window.specs.declared.answers.Right.{Right}
use Rattle.tce_window.specs.declared.held_pages.HeldPage.{HeldPage}
use Rattle.tce_window.specs.Held.{HeldValue, held_strokes}
use Rattle.tce_window.specs.Moved.{Follows, strokes_on, stroke_count, numbered}
use Rattle.tce_window.specs.Strokes.{with_strokes}
use Rattle.tce_window.proofs.Growing.{All-unplaced, there_follows, follows_laid}
use Rattle.tce_window.proofs.held.Held.lay.Goals as goal

-- the range, once the strokes are laid: its pieces were lent as a slice
abbrev after : Right → ArrayVec Piece → List (Option HeldPage) → List Piece → HeldValue
after right pieces laid placed = record { right = right; pieces = (with_items pieces placed).items; pages = laid }

follows : {T E : Type 0} (r : Result T E) (right : Right) (pieces : ArrayVec Piece) (pages laid : List (Option HeldPage)) (told placed : List Piece)
    (strokes : List StrokeValue) → told ≡ pieces.items → length placed ≡ length told
    → OnOk r ((p : ℕ) → held_strokes laid p ≡ with_strokes (held_strokes pages p) (strokes_on p told strokes))
    → OnOk r (placed ≡ numbered (λ p. stroke_count (held_strokes pages p)) told)
    → OnErr r ((p : ℕ) → held_strokes laid p ≡ held_strokes pages p) → OnErr r (placed ≡ told)
    → Follows (record { right = right; pieces = pieces.items; pages = pages }) (after right pieces laid placed)
follows r right pieces pages laid told placed strokes is_told size grown numbered err same =
    let old : HeldValue = record { right = right; pieces = told; pages = pages } in
    let new : HeldValue = record { right = right; pieces = placed; pages = laid } in
    let start : old ≡ record { right = right; pieces = pieces.items; pages = pages } = ap (λ list. record { right = right; pieces = list; pages = pages }) is_told in
    let end : new ≡ after right pieces laid placed =
    ap (λ list. record { right = right; pieces = list; pages = laid }) (sym (items-with_items pieces placed (omega (arith, size, ap length is_told)))) in
    subst (λ v. Follows v (after right pieces laid placed)) start (subst (λ v. Follows old v) end
    (follows_laid r old new (λ p. stroke_count (held_strokes pages p)) (λ p. strokes_on p told strokes) refl grown numbered err same))

pub returns-clause-follows : goal.returns-clause-follows
returns-clause-follows c =
    subst (λ old. Follows old (after c.self.inside.right c.self.inside.pieces c.lay.new.pages c.lay.new.pieces)) c.self.view_is
    (follows c.lay.result c.self.inside.right c.self.inside.pieces c.self.inside.pages c.lay.new.pages c.as_mut_slice.result.now c.lay.new.pieces c.args.strokes.items
    c.as_mut_slice.ensures.value (omega arith) c.lay.ensures.strokes c.lay.ensures.pieces c.lay.ensures.err c.lay.ensures.same)

pub invariant_of-self : goal.invariant_of-self
invariant_of-self c =
    let old : HeldValue = record { right = c.self.inside.right; pieces = c.self.inside.pieces.items; pages = c.self.inside.pages } in
    let new : HeldValue = after c.self.inside.right c.self.inside.pieces c.lay.new.pages c.lay.new.pieces in
    let on : Follows old new =
    follows c.lay.result c.self.inside.right c.self.inside.pieces c.self.inside.pages c.lay.new.pages c.as_mut_slice.result.now c.lay.new.pieces c.args.strokes.items
    c.as_mut_slice.ensures.value (omega arith) c.lay.ensures.strokes c.lay.ensures.pieces c.lay.ensures.err c.lay.ensures.same in
    record {
      there = there_follows old new on c.self.invariant.there;
      some = All-unplaced (λ piece. 1 ≤ piece.len) old.pieces new.pieces (λ piece h. h) (λ piece h. h) on.pieces c.self.invariant.some;
    }
