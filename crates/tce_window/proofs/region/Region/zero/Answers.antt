use Rattle.std.proofs.lemmas.Grind.{common_steps}
use Rattle.std.proofs.Common.{arith, ◌∙◌, ap, [], ◌∷◌, ◌++◌, List, Option, Some}
use Rattle.std.proofs.lemmas.List.{replicate-append-replicate}
use Rattle.page_slots.specs.Page.{PageValue}
use Rattle.tce_window.proofs.region.Region.zero.Goals as goal

pub loop-page-preserved : goal.loop-page-preserved
loop-page-preserved c =
    let page : Option PageValue = Some (record { strokes = []; spare = 0 }) in
    grind (arith, common_steps) ∙ ap (λ (pages : List (Option PageValue)). pages ++ page ∷ []) c.loop-page.invariant ∙ replicate-append-replicate c.loop-page._page 1 page
