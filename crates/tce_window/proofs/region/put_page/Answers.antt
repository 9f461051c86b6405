-- A page goes into its place, where that is empty.
use Rattle.std.proofs.Common.{◌≡◌, ◌<◌, ◌∙◌, refl, ap, sym, subst, Some, None, IsSome, length, rules}
use Rattle.std.proofs.lemmas.Option.{slice_get_read}
use Rattle.tce_window.specs.Held.{strokes_of, either}
use Rattle.tce_window.specs.Window.{strokes_in, strokes_at}
use Rattle.tce_window.proofs.Holding.{own_there, put_empty, put_full, none_of, some_in}
use Rattle.tce_window.proofs.region.put_page.Goals as goal

pub index-requires : goal.index-requires
index-requires c =
    let inside : c.in-Some.field-0.number < length c.args.pages.now.items = c.requires c.in-Some.field-0.number (subst (λ h. IsSome (strokes_of h c.in-Some.field-0.number)) (sym c.in-Some.is) (own_there c.in-Some.field-0)) in
    search rules

pub index_mut-requires : goal.index_mut-requires
index_mut-requires c =
    let inside : c.in-Some.field-0.number < length c.args.pages.now.items = c.requires c.in-Some.field-0.number (subst (λ h. IsSome (strokes_of h c.in-Some.field-0.number)) (sym c.in-Some.is) (own_there c.in-Some.field-0)) in
    search rules

pub returns-then-is_none-clause-strokes : goal.returns-then-is_none-clause-strokes
returns-then-is_none-clause-strokes c p =
    let inside : c.in-Some.field-0.number < length c.args.pages.now.items = c.requires c.in-Some.field-0.number (subst (λ h. IsSome (strokes_of h c.in-Some.field-0.number)) (sym c.in-Some.is) (own_there c.in-Some.field-0)) in
    let empty : strokes_at c.args.pages.now.items c.in-Some.field-0.number ≡ None = ap strokes_in (slice_get_read c.args.pages.now.items (length c.args.pages.now.items) c.in-Some.field-0.number c.index.result.now refl inside c.index.ensures ∙ ap Some (none_of c.index.result.now c.if-is_none.ensures)) in
    put_empty c.args.pages.now.items c.in-Some.field-0 p inside empty ∙ ap (λ h. either (strokes_at c.args.pages.now.items p) (strokes_of h p)) (sym c.in-Some.is)

pub returns-else-is_none-clause-strokes : goal.returns-else-is_none-clause-strokes
returns-else-is_none-clause-strokes c p =
    let inside : c.in-Some.field-0.number < length c.args.pages.now.items = c.requires c.in-Some.field-0.number (subst (λ h. IsSome (strokes_of h c.in-Some.field-0.number)) (sym c.in-Some.is) (own_there c.in-Some.field-0)) in
    let full : IsSome (strokes_at c.args.pages.now.items c.in-Some.field-0.number) = subst (λ x. IsSome (strokes_in x)) (sym (slice_get_read c.args.pages.now.items (length c.args.pages.now.items) c.in-Some.field-0.number c.index.result.now refl inside c.index.ensures)) (some_in c.index.result.now c.if-is_none.ensures) in
    put_full c.args.pages.now.items c.in-Some.field-0 p full ∙ ap (λ h. either (strokes_at c.args.pages.now.items p) (strokes_of h p)) (sym c.in-Some.is)
