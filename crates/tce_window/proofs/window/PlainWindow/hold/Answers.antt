-- The pages of the pieces are in the holder's hand.
use Rattle.std.proofs.Common.{◌≡◌, ◌+◌, ◌∙◌, List, IsSome, length, get_or, refl, sym, ap, subst, arith, rules}
use Rattle.tce_window.specs.declared.piece.Piece.{Piece}
use Rattle.tce_window.specs.Held.{held_strokes, FillsPlaces}
use Rattle.tce_window.specs.Pieces.{on_page, HasStrokes}
use Rattle.tce_window.specs.Window.{strokes_at}
use Rattle.tce_window.proofs.Holding.{Took, took, fills_of, in_hand, taken_over, tests_of, within_of}
use Rattle.tce_window.proofs.Lending.{lent_pieces}
use Rattle.tce_window.proofs.Laws.{touched_some}
use Rattle.tce_window.proofs.Piecing.{there_of}
use Rattle.tce_window.proofs.Reading.{touched_len}
use Rattle.tce_window.proofs.window.PlainWindow.hold.Goals as goal

pub invariant_of-result : goal.invariant_of-result
invariant_of-result c =
    let pieces : List Piece = c.in_ok-pieces.pieces.items in
    let pages = c.take-pages.result in
    let old = c.args.self.now.pages in
    let view : c.self.inside.region ≡ old = search rules in
    let t : Took pieces pages old c.take-pages.new.self =
    took c.deref.result.now pieces pages c.self.inside.region old c.take-pages.new.self c.deref.ensures.0 view c.take-pages.ensures.taken c.take-pages.ensures.away c.in_ok-pieces.ensures.ok.strokes (c.self.invariant.kept.all_there (search rules)) in
    record {
      there = λ k d less.
          subst IsSome (sym (in_hand pieces pages (strokes_at old) k d less t.taken))
          (there_of (get_or pieces k d) (strokes_at old (get_or pieces k d).page) (c.in_ok-pieces.ensures.ok.strokes k d less));
      some = touched_some _ _ _ pieces c.in_ok-pieces.ensures.ok.touched;
    }

pub returns-clause-ok : goal.returns-clause-ok
returns-clause-ok c =
    let pieces : List Piece = c.in_ok-pieces.pieces.items in
    let pages = c.take-pages.result in
    let old = c.args.self.now.pages in
    let view : c.self.inside.region ≡ old = search rules in
    let t : Took pieces pages old c.take-pages.new.self =
    took c.deref.result.now pieces pages c.self.inside.region old c.take-pages.new.self c.deref.ensures.0 view c.take-pages.ensures.taken c.take-pages.ensures.away c.in_ok-pieces.ensures.ok.strokes (c.self.invariant.kept.all_there (search rules)) in
    let rows : c.self.inside.table.rows ≡ c.args.self.now.rows = search rules in
    let whole = touched_len _ _ _ pieces c.in_ok-pieces.ensures.ok.touched in
    record {
      right_is = refl;
      touched = c.in_ok-pieces.ensures.ok.touched;
      bytes = omega (arith, whole);
      granted = rw rows c.in_ok-pieces.ensures.ok.granted;
      last = rw rows c.in_ok-pieces.ensures.ok.last;
      usable = rw rows c.in_ok-pieces.ensures.ok.usable;
      strokes = λ k d less. subst (HasStrokes (get_or pieces k d)) (sym (in_hand pieces pages (strokes_at old) k d less t.taken)) (c.in_ok-pieces.ensures.ok.strokes k d less);
      taken = λ p. taken_over (on_page pieces p) (strokes_at old p) (held_strokes pages p) (strokes_at c.take-pages.new.self p) (t.taken p) (t.away p);
      pages = tests_of pieces pages (strokes_at old) (length old) t.taken t.there t.within;
      count = search rules;
      from = refl;
      inside = λ k d less. within_of old _ (there_of (get_or pieces k d) (strokes_at old (get_or pieces k d).page) (c.in_ok-pieces.ensures.ok.strokes k d less));
      counted = λ shared. absurd (cc (shared));
    }

pub returns-clause-lent : goal.returns-clause-lent
returns-clause-lent c =
    let pieces : List Piece = c.in_ok-pieces.pieces.items in
    let pages = c.take-pages.result in
    let old = c.args.self.now.pages in
    let view : c.self.inside.region ≡ old = search rules in
    let t : Took pieces pages old c.take-pages.new.self =
    took c.deref.result.now pieces pages c.self.inside.region old c.take-pages.new.self c.deref.ensures.0 view c.take-pages.ensures.taken c.take-pages.ensures.away c.in_ok-pieces.ensures.ok.strokes (c.self.invariant.kept.all_there (search rules)) in
    let own : c.self.inside.unit ≡ c.args.self.now.unit = search rules in
    let count : c.len-self-inside.result ≡ length pieces = search rules in
    let size : length c.take-pages.new.self ≡ length old = c.take-pages.ensures.size ∙ ap length view in
    record {
      pieces = lent_pieces _ c.args.self.now.unit c.args.ioba (c.args.ioba + c.args.len) pieces c.in_ok-pieces.ensures.ok.touched own refl count;
      places = subst (λ n. FillsPlaces pages n (strokes_at c.take-pages.new.self)) (sym size) (fills_of pieces pages (strokes_at c.take-pages.new.self) (strokes_at old) (length old) t.taken t.away t.there t.within);
    }
