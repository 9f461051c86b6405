-- Each page goes into its place.
use Rattle.std.proofs.Common.{◌≡◌, ◌∷◌, ◌∙◌, ap, sym, rules}
use Rattle.tce_window.specs.Held.{held_strokes, strokes_of, either}
use Rattle.tce_window.specs.Window.{strokes_at}
use Rattle.tce_window.proofs.Holding.{either-either, part_there, rest_there}
use Rattle.tce_window.proofs.region.put_pages.Goals as goal

pub put_page-requires : goal.put_page-requires
put_page-requires c p there =
    let split : c.loop-page.page-iterator ≡ c.in-Some.page ∷ c.next.new.self = search rules in
    c.loop-page.invariant.within p (rw split (part_there (strokes_of c.in-Some.page p) (held_strokes c.next.new.self p) there))

pub loop-page-preserved : goal.loop-page-preserved
loop-page-preserved c =
    let split : c.loop-page.page-iterator ≡ c.in-Some.page ∷ c.next.new.self = search rules in
    record {
      steps = tt;
      ends = tt;
      strokes = λ p.
          ap (λ x. either x (held_strokes c.next.new.self p)) (c.put_page.ensures.strokes p)
          ∙ either-either (strokes_at c.loop-page.pages.items p) (strokes_of c.in-Some.page p) (held_strokes c.next.new.self p)
          ∙ ap (λ pages. either (strokes_at c.loop-page.pages.items p) (held_strokes pages p)) (sym split)
          ∙ c.loop-page.invariant.strokes p;
      within = λ p there.
          rw c.put_page.ensures.size (c.loop-page.invariant.within p (rw split (rest_there (strokes_of c.in-Some.page p) (held_strokes c.next.new.self p) there)));
      size = c.put_page.ensures.size ∙ c.loop-page.invariant.size;
    }
