-- The page stands at its place.
use Rattle.std.proofs.Common.{◌≡◌, ◌∙◌, List, Option, None, get_or, sym, ap, rules}
use Rattle.tce_window.specs.declared.held_pages.HeldPage.{HeldPage}
use Rattle.tce_window.specs.Held.{held_strokes, strokes_of}
use Rattle.tce_window.specs.Laying.{place_on}
use Rattle.tce_window.proofs.Naming.{same_at}
use Rattle.tce_window.proofs.Growing.{not_none, strokes_there, page_there}
use Rattle.tce_window.proofs.held_pages.HeldPages.page.Goals as goal

pub unreachable-requires : goal.unreachable-requires
unreachable-requires c =
    let pages = c.args.self.now in
    let here : c.index-deref-place_on.result ≡ get_or pages (place_on pages c.args.number) None =
    c.index-deref-place_on.is ∙ ap (λ (list : List (Option HeldPage)). get_or list c.place_on.result c.index-deref-place_on.result) (search rules) ∙ same_at pages c.place_on.result _ None c.place_on.ensures.inside ∙ ap (λ i. get_or pages i None) c.place_on.ensures.place
    in
    let none : held_strokes pages c.args.number ≡ None = sym (strokes_there pages c.args.number) ∙ ap (λ held. strokes_of held c.args.number) (sym here ∙ c.in-None.is) in
    not_none (held_strokes pages c.args.number) none c.requires

pub returns : goal.returns
returns c =
    let pages = c.args.self.now in
    let here : c.index-deref-place_on.result ≡ get_or pages (place_on pages c.args.number) None =
    c.index-deref-place_on.is ∙ ap (λ (list : List (Option HeldPage)). get_or list c.place_on.result c.index-deref-place_on.result) (search rules) ∙ same_at pages c.place_on.result _ None c.place_on.ensures.inside ∙ ap (λ i. get_or pages i None) c.place_on.ensures.place
    in
    page_there c.in-Some.held c.args.number (held_strokes pages c.args.number)
    (ap (λ held. strokes_of held c.args.number) (sym c.in-Some.is ∙ here) ∙ strokes_there pages c.args.number) c.requires
