-- Pages that are taken out of their places, and put back.
use Rattle.std.proofs.Common.{◌≡◌, ℕ, ◌<◌, ◌==◌, List, [], ◌∷◌, ◌++◌, Option, Some, None, IsSome, is_some, All, Result, Ok, Err, IfErr, ⊎_elim, length, get_or, set, slice_get, cond, Bool, true, false, refl, sym, ◌∙◌, ap, ap₂, subst, rules}
use Rattle.std.proofs.lemmas.Bool.{eq-eqb, ne_eqb}
use Rattle.page_slots.specs.Stroke.{StrokeValue}
use Rattle.page_slots.specs.Page.{PageValue}
use Rattle.tce_window.specs.declared.held_pages.HeldPage.{HeldPage}
use Rattle.tce_window.specs.Held.{held_strokes, strokes_of, either, FillsPlaces}
use Rattle.tce_window.specs.declared.piece.Piece.{Piece}
use Rattle.tce_window.specs.declared.answers.HoldFault.{HoldFault}
use Rattle.tce_window.specs.declared.answers.HoldFault.TheVariants.{Past, NotGranted, InUse}
use Rattle.tce_window.specs.Pieces.{on_page, HasStrokes, IsOfEntry, IsSharedUse}
use Rattle.tce_window.specs.Port.{NamesFound, Grows, TakenOver}
use Rattle.std.proofs.lemmas.Bool.{cases_lt}
use Rattle.std.proofs.lemmas.Option.{slice_get_past}
use Rattle.std.proofs.lemmas.List.Elements.{All-head, All-tail}
use Rattle.tce_window.specs.Window.{strokes_in, strokes_at, AllThere}
use Rattle.tce_window.proofs.Values.{by_number}
use Rattle.tce_window.proofs.Piecing.{own_page, there_of}
use Rattle.tce_window.proofs.Pages.{get-set_same, get-set_other}

pub either-none : (x : Option (List StrokeValue)) → either x None ≡ x
either-none (Some x) = refl
either-none None = refl

pub either-either : (x y z : Option (List StrokeValue)) → either (either x y) z ≡ either x (either y z)
either-either (Some x) y z = refl
either-either None y z = refl

pub held_strokes-push : (pages : List (Option HeldPage)) (held : Option HeldPage) (p : ℕ) → held_strokes (pages ++ held ∷ []) p ≡ either (held_strokes pages p) (strokes_of held p)
held_strokes-push [] held p = either-none (strokes_of held p)
held_strokes-push (first ∷ pages) held p =
    ap (either (strokes_of first p)) (held_strokes-push pages held p)
    ∙ sym (either-either (strokes_of first p) (held_strokes pages p) (strokes_of held p))

-- a page is taken
pub taken_away : (pages : List (Option PageValue)) (number p : ℕ) → number < length pages → strokes_at (set pages number None) p ≡ cond (number == p) None (strokes_at pages p)
taken_away pages number p inside =
    by_number number p (strokes_at (set pages number None) p ≡ cond (number == p) None (strokes_at pages p))
    (λ same. subst (λ q. strokes_at (set pages number None) q ≡ cond (number == q) None (strokes_at pages q)) same
    (rw (eq-eqb number number refl) (ap strokes_in (get-set_same pages number None inside))))
    (λ other. rw (ne_eqb number p other) (ap strokes_in (get-set_other pages number p None (λ e. other (sym e)))))

pub taken_strokes : (pages : List (Option PageValue)) (number p : ℕ) (page : PageValue) → slice_get pages number ≡ Some (Some page)
    → strokes_of (Some (record { number = number; page = page })) p ≡ cond (number == p) (strokes_at pages p) None
taken_strokes pages number p page here =
    by_number number p (strokes_of (Some (record { number = number; page = page })) p ≡ cond (number == p) (strokes_at pages p) None)
    (λ same. subst (λ q. strokes_of (Some (record { number = number; page = page })) q ≡ cond (number == q) (strokes_at pages q) None) same
    (rw (eq-eqb number number refl) (sym (ap strokes_in here))))
    (λ other. rw (ne_eqb number p other) refl)

pub not_there : (pages : List (Option PageValue)) (number p : ℕ) → slice_get pages number ≡ Some None → cond (number == p) (strokes_at pages p) None ≡ None
not_there pages number p here =
    by_number number p (cond (number == p) (strokes_at pages p) None ≡ None)
    (λ same. subst (λ q. cond (number == q) (strokes_at pages q) None ≡ None) same
    (rw (eq-eqb number number refl) (ap strokes_in here)))
    (λ other. rw (ne_eqb number p other) refl)

-- a page is put back
pub own_there : (held : HeldPage) → IsSome (strokes_of (Some held) held.number)
own_there held = rw (eq-eqb held.number held.number refl) (search rules)

pub put_empty : (pages : List (Option PageValue)) (held : HeldPage) (p : ℕ) → held.number < length pages → strokes_at pages held.number ≡ None
    → strokes_at (set pages held.number (Some held.page)) p ≡ either (strokes_at pages p) (strokes_of (Some held) p)
put_empty pages held p inside empty =
    by_number held.number p (strokes_at (set pages held.number (Some held.page)) p ≡ either (strokes_at pages p) (strokes_of (Some held) p))
    (λ same. subst (λ q. strokes_at (set pages held.number (Some held.page)) q ≡ either (strokes_at pages q) (strokes_of (Some held) q)) same
    (rw (eq-eqb held.number held.number refl)
    (ap strokes_in (get-set_same pages held.number (Some held.page) inside) ∙ ap (λ x. either x (Some held.page.strokes)) (sym empty))))
    (λ other. rw (ne_eqb held.number p other)
    (ap strokes_in (get-set_other pages held.number p (Some held.page) (λ e. other (sym e))) ∙ sym (either-none (strokes_at pages p))))

full_either : (x y : Option (List StrokeValue)) → IsSome x → x ≡ either x y
full_either (Some x) y h = refl
full_either None y h = absurd (cc (h))

pub put_full : (pages : List (Option PageValue)) (held : HeldPage) (p : ℕ) → IsSome (strokes_at pages held.number)
    → strokes_at pages p ≡ either (strokes_at pages p) (strokes_of (Some held) p)
put_full pages held p full =
    by_number held.number p (strokes_at pages p ≡ either (strokes_at pages p) (strokes_of (Some held) p))
    (λ same. full_either (strokes_at pages p) (strokes_of (Some held) p) (subst (λ q. IsSome (strokes_at pages q)) same full))
    (λ other. rw (ne_eqb held.number p other) (sym (either-none (strokes_at pages p))))

pub none_of : (slot : Option PageValue) → is_some slot ≡ false → slot ≡ None
none_of (Some page) h = absurd (cc (h))
none_of None h = refl

pub some_in : (slot : Option PageValue) → is_some slot ≡ true → IsSome (strokes_in (Some slot))
some_in (Some page) h = search rules
some_in None h = absurd (cc (h))

pub part_there : (x y : Option (List StrokeValue)) → IsSome x → IsSome (either x y)
part_there (Some x) y h = h
part_there None y h = absurd (cc (h))

pub rest_there : (x y : Option (List StrokeValue)) → IsSome y → IsSome (either x y)
rest_there (Some x) y h = search rules
rest_there None y h = h

-- a page that has strokes has a number below that of the places
pub within_of : (pages : List (Option PageValue)) (p : ℕ) → IsSome (strokes_at pages p) → p < length pages
within_of pages p h =
    ⊎_elim (λ less. less)
    (λ past. absurd (no_strokes (slice_get pages p) (slice_get_past pages p past) h))
    (cases_lt p (length pages))
  where
    no_strokes : (x : Option (Option PageValue)) → x ≡ None → IsSome (strokes_in x) → ⊥
    no_strokes None e h = cc (h)
    no_strokes (Some slot) e h = cc (e)

pub page_within : (n : ℕ) (pieces : List Piece) (p : ℕ) → All (λ piece. piece.page < n) pieces → on_page pieces p ≡ true → p < n
page_within n [] p all on = absurd (cc (on))
page_within n (piece ∷ pieces) p all on =
    by_number piece.page p (p < n)
    (λ same. subst (λ q. q < n) same (All-head (λ piece. piece.page < n) piece pieces all))
    (λ other. page_within n pieces p (All-tail (λ piece. piece.page < n) piece pieces all) (rw (ne_eqb piece.page p other) at on))

-- one page, on which a piece lies or none
on_it : (on : Bool) (held new old : Option (List StrokeValue)) → held ≡ cond on old None → IsSome held → on ≡ true
on_it true held new old e h = refl
on_it false held new old e h = absurd (cc (e, h))

taken_from : (on : Bool) (held new old : Option (List StrokeValue)) → held ≡ cond on old None → new ≡ cond on None old → IsSome old → new ≡ None → IsSome held
taken_from true held new old e f h none = subst IsSome (sym e) h
taken_from false held new old e f h none = absurd (cc (f, none, h))

left_empty : (on : Bool) (new old : Option (List StrokeValue)) → new ≡ cond on None old → on ≡ true → new ≡ None
left_empty true new old f e = f
left_empty false new old f e = absurd (cc (e))

same_test : (on : Bool) (held old : Option (List StrokeValue)) → held ≡ cond on old None → (on ≡ true → IsSome old) → is_some held ≡ on
same_test true held old e h = ap is_some e ∙ h refl
same_test false held old e h = ap is_some e

pub fills_of : (pieces : List Piece) (pages : List (Option HeldPage)) (new old : ℕ → Option (List StrokeValue)) (n : ℕ)
    → ((p : ℕ) → held_strokes pages p ≡ cond (on_page pieces p) (old p) None) → ((p : ℕ) → new p ≡ cond (on_page pieces p) None (old p))
    → ((p : ℕ) → p < n → IsSome (old p)) → ((p : ℕ) → on_page pieces p ≡ true → p < n) → FillsPlaces pages n new
fills_of pieces pages new old n held away there within = record {
  within = λ p h. within p (on_it (on_page pieces p) (held_strokes pages p) (new p) (old p) (held p) h);
  away = λ p less none. taken_from (on_page pieces p) (held_strokes pages p) (new p) (old p) (held p) (away p) (there p less) none;
  places = λ p h. left_empty (on_page pieces p) (new p) (old p) (away p) (on_it (on_page pieces p) (held_strokes pages p) (new p) (old p) (held p) h);
}

pub tests_of : (pieces : List Piece) (pages : List (Option HeldPage)) (old : ℕ → Option (List StrokeValue)) (n : ℕ)
    → ((p : ℕ) → held_strokes pages p ≡ cond (on_page pieces p) (old p) None)
    → ((p : ℕ) → p < n → IsSome (old p)) → ((p : ℕ) → on_page pieces p ≡ true → p < n) → (p : ℕ) → is_some (held_strokes pages p) ≡ on_page pieces p
tests_of pieces pages old n held there within p =
    same_test (on_page pieces p) (held_strokes pages p) (old p) (held p) (λ on. there p (within p on))

-- a page of the range is in the holder's hand, and the others are where they were
pub taken_over : (on : Bool) (old held new : Option (List StrokeValue)) → held ≡ cond on old None → new ≡ cond on None old → TakenOver false old held new
taken_over true (Some s) held new e f = subst (λ h. TakenOver false (Some s) h new) (sym e) (refl, f)
taken_over true None held new e f = subst (λ h. TakenOver false None h new) (sym e) (subst (Grows false None) (sym f) tt)
taken_over false (Some s) held new e f = subst (λ h. TakenOver false (Some s) h new) (sym e) (subst (Grows false (Some s)) (sym f) refl)
taken_over false None held new e f = subst (λ h. TakenOver false None h new) (sym e) (subst (Grows false None) (sym f) tt)

-- a page on which a piece lies is in the holder's hand
pub in_hand : (pieces : List Piece) (pages : List (Option HeldPage)) (old : ℕ → Option (List StrokeValue)) (k : ℕ) (d : Piece) → k < length pieces
    → ((p : ℕ) → held_strokes pages p ≡ cond (on_page pieces p) (old p) None) → held_strokes pages (get_or pieces k d).page ≡ old (get_or pieces k d).page
in_hand pieces pages old k d less taken =
    let p = (get_or pieces k d).page in
    taken p ∙ ap (λ b. cond b (old p) None) (own_page pieces k d less)

-- The pages of these pieces were taken out of their places.
pub record Took (pieces : List Piece) (pages : List (Option HeldPage)) (old new : List (Option PageValue)) : Type 0 where
  pub taken : (p : ℕ) → held_strokes pages p ≡ cond (on_page pieces p) (strokes_at old p) None
  pub away : (p : ℕ) → strokes_at new p ≡ cond (on_page pieces p) None (strokes_at old p)
  pub within : (p : ℕ) → on_page pieces p ≡ true → p < length old
  pub there : AllThere old

pub took : (lent pieces : List Piece) (pages : List (Option HeldPage)) (region old new : List (Option PageValue)) → lent ≡ pieces → region ≡ old
    → ((p : ℕ) → held_strokes pages p ≡ cond (on_page lent p) (strokes_at region p) None) → ((p : ℕ) → strokes_at new p ≡ cond (on_page lent p) None (strokes_at region p))
    → All (λ piece. HasStrokes piece (strokes_at old piece.page)) pieces → AllThere region → Took pieces pages old new
took lent pieces pages region old new is_lent is_old taken away strokes there = record {
  taken = λ p. taken p ∙ ap₂ (λ (ps : List Piece) (xs : List (Option PageValue)). cond (on_page ps p) (strokes_at xs p) None) is_lent is_old;
  away = λ p. away p ∙ ap₂ (λ (ps : List Piece) (xs : List (Option PageValue)). cond (on_page ps p) None (strokes_at xs p)) is_lent is_old;
  within = λ p. page_within (length old) pieces p (λ k d less. within_of old _ (there_of (get_or pieces k d) (strokes_at old (get_or pieces k d).page) (strokes k d less)));
  there = subst (λ xs. AllThere xs) is_old there;
}

pub if_err_map : {T : Type 0} (r : Result T HoldFault) (P Q : HoldFault → Type 0) → ((f : HoldFault) → P f → Q f) → IfErr r P → IfErr r Q
if_err_map (Ok v) P Q g m = m
if_err_map (Err f) P Q g m = g f m

-- a refusal that names an entry names no page in use
pub none_found : (fault : HoldFault) → IsOfEntry fault → NamesFound (λ _ _. ⊥) fault
none_found (Past entry) h = tt
none_found (NotGranted entry version tce) h = tt
none_found (InUse page word) h = h

pub none_shared : (fault : HoldFault) → IsOfEntry fault → IsSharedUse false fault
none_shared (Past entry) h = tt
none_shared (NotGranted entry version tce) h = tt
none_shared (InUse page word) h = absurd h
