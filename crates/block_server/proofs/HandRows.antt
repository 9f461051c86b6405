-- Rows but for their answers, as one comes or changes.
use Rattle.std.proofs.Common.{◌≡◌, ◌≢◌, ◌⊎◌, inl, inr, ◌<◌, ◌++◌, ◌==◌, ℕ, zero, suc, Bool, true, false, List, [], ◌∷◌, Option, Some, None, option_map, length, slice_get, slice_set, refl, sym, ◌∙◌, ap, arith}
use Rattle.std.proofs.lemmas.List.{map-append, map-set}
use Rattle.std.proofs.lemmas.Option.{slice_get-map}
use Rattle.std.proofs.lemmas.Bool.{eqb-true, eqb-false}
use Rattle.tce_window.proofs.Laws.{get-set_other, get-set_same}
use Rattle.vio_num.specs.declared.history.Served.{Served}
use Rattle.block_server.specs.Cargo.{rows_of, unanswered}
use Rattle.block_server.specs.Records.{FillsRow}

-- an element of a list with one more
pub get_push : (rows : List Served) (new row : Served) (place : ℕ) → slice_get (rows ++ new ∷ []) place ≡ Some row → (slice_get rows place ≡ Some row) ⊎ ((place ≡ length rows) × (row ≡ new))
get_push [] new row zero is = inr (refl, one new row is)
  where
    one : (a b : Served) → Some a ≡ Some b → b ≡ a
    one a b e = cc (e)
get_push [] new row (suc place) is = absurd (none is)
  where
    none : None ≡ Some row → ⊥
    none e = cc (e)
get_push (first ∷ rows) new row zero is = inl is
get_push (first ∷ rows) new row (suc place) is = at (get_push rows new row place is)
  where
    at : (slice_get rows place ≡ Some row) ⊎ ((place ≡ length rows) × (row ≡ new)) → (slice_get rows place ≡ Some row) ⊎ ((suc place ≡ length (first ∷ rows)) × (row ≡ new))
    at (inl there) = inl there
    at (inr last) = inr (omega (arith, last.0), last.1)

pub get_last : (rows : List Served) (new : Served) → slice_get (rows ++ new ∷ []) (length rows) ≡ Some new
get_last [] new = refl
get_last (first ∷ rows) new = get_last rows new

pub get_more : (rows : List Served) (new row : Served) (place : ℕ) → slice_get rows place ≡ Some row → slice_get (rows ++ new ∷ []) place ≡ Some row
get_more [] new row place is = absurd (cc (is))
get_more (first ∷ rows) new row zero is = is
get_more (first ∷ rows) new row (suc place) is = get_more rows new row place is

-- an element of a list that is set
pub set_at : (front behind : List Served) (row new : Served) → slice_set (front ++ row ∷ behind) (length front) new ≡ front ++ new ∷ behind
set_at [] behind row new = refl
set_at (first ∷ front) behind row new = ap (λ (list : List Served). first ∷ list) (set_at front behind row new)

-- an element of a list in which one was set
pub get_set : (rows : List Served) (at place : ℕ) (new row : Served) → at < length rows → slice_get (slice_set rows at new) place ≡ Some row
    → ((place ≡ at) × (row ≡ new)) ⊎ ((place ≢ at) × (slice_get rows place ≡ Some row))
get_set rows at place new row there is = by (place == at) refl
  where
    same : (a b : Served) → Some a ≡ Some b → b ≡ a
    same a b e = cc (e)

    by : (t : Bool) → (place == at) ≡ t → ((place ≡ at) × (row ≡ new)) ⊎ ((place ≢ at) × (slice_get rows place ≡ Some row))
    by true e =
        let here = eqb-true place at e in
        inl (here, same new row (sym (get-set_same rows at new there) ∙ ap (slice_get (slice_set rows at new)) (sym here) ∙ is))
    by false e =
        let other = eqb-false place at e in
        inr (other, sym (get-set_other rows at place new other) ∙ is)

-- a row more
pub rows_push : (h h' : List Served) (row : Served) → h' ≡ h ++ row ∷ [] → rows_of h' ≡ rows_of h ++ unanswered row ∷ []
rows_push h h' row added = ap rows_of added ∙ map-append unanswered h (row ∷ [])

-- the row of a place
pub row_in : (h : List Served) (place : ℕ) (row : Served) → slice_get h place ≡ Some row → slice_get (rows_of h) place ≡ Some (unanswered row)
row_in h place row is = slice_get-map unanswered h place ∙ ap (option_map unanswered) is

pub row_from : (h : List Served) (place : ℕ) (row : Served) → slice_get (rows_of h) place ≡ Some row → (found : Served) × ((slice_get h place ≡ Some found) × (row ≡ unanswered found))
row_from h place row is = at (slice_get h place) refl
  where
    same : (a b : Served) → Some a ≡ Some b → b ≡ a
    same a b e = cc (e)

    at : (found : Option Served) → slice_get h place ≡ found → (found : Served) × ((slice_get h place ≡ Some found) × (row ≡ unanswered found))
    at (Some found) e = (found, (e, same (unanswered found) row (sym (row_in h place found e) ∙ is)))
    at None e = absurd (cc (sym (slice_get-map unanswered h place ∙ ap (option_map unanswered) e) ∙ is))

-- an answer changes no row but in its answer
set_same : (h : List Served) (place : ℕ) (row new : Served) → slice_get h place ≡ Some row → unanswered new ≡ unanswered row → rows_of (slice_set h place new) ≡ rows_of h
set_same [] place row new there same = absurd (cc (there))
set_same (first ∷ h) zero row new there same = ap (λ (r : Served). r ∷ rows_of h) (same ∙ ap unanswered (one first row there))
  where
    one : (a b : Served) → Some a ≡ Some b → b ≡ a
    one a b e = cc (e)
set_same (first ∷ h) (suc place) row new there same = ap (λ (list : List Served). unanswered first ∷ list) (set_same h place row new there same)

pub answered_same : (h : List Served) (place : ℕ) (row new : Served) → slice_get h place ≡ Some row → unanswered new ≡ unanswered row → rows_of (slice_set h place new) ≡ rows_of h
answered_same h place row new there same = set_same h place row new there same

-- data-in change a row alone
pub rows_filled : (h : List Served) (place : ℕ) (row : Served) (inn : List ℕ) → slice_get h place ≡ Some row → FillsRow (rows_of h) (rows_of (slice_set h place (record row { inn = inn }))) place inn
rows_filled h place row inn there served is =
    map-set unanswered h place (record row { inn = inn })
    ∙ ap (λ (r : Served). slice_set (rows_of h) place (record r { inn = inn })) (same (unanswered row) served (sym (row_in h place row there) ∙ is))
  where
    same : (a b : Served) → Some a ≡ Some b → a ≡ b
    same a b e = cc (e)
