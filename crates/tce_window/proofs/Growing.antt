-- Strokes laid on held pages, one after the other.
use Rattle.std.proofs.Common.{◌≡◌, ℕ, zero, suc, ◌+◌, ◌-◌, ◌<◌, ◌≤◌, ◌==◌, Bool, true, false, List, [], ◌∷◌, ◌++◌, Option, Some, None, Result, Ok, Err, OnOk, OnErr, IsSome, is_some, All, length, get_or, set, cond, take, drop, map, refl, sym, ◌∙◌, ap, ap₂, subst, arith, rules, ◌⊎◌, inl, inr, ⊎_elim}
use Rattle.std.specs.Option.{option_map}
use Rattle.arrayvec.specs.ArrayVec.{ArrayVec, with_items}
use Rattle.arrayvec.proofs.ArrayVecLemmas.{items-with_items}
use Rattle.std.proofs.lemmas.List.{append-nil, append_assoc, length-append, take_more_set, drop_more, drop-set-lt, length-set}
use Rattle.std.proofs.lemmas.Bool.{eq-eqb, ne_eqb, eqb-true}
use Rattle.std.proofs.lemmas.List.Sums.{sum_by-cons}
use Rattle.std.proofs.lemmas.List.Elements.{All-nil, All-cons, All-head, All-tail, All-weaker}
use Rattle.page_slots.specs.Page.{AreWithinPage}
use Rattle.page_slots.specs.Stroke.{StrokeValue}
use Rattle.page_slots.specs.declared.stroke.StrokeName.{StrokeName}
use Rattle.tce_window.specs.declared.piece.Piece.{Piece}
use Rattle.tce_window.specs.declared.held_pages.HeldPage.{HeldPage}
use Rattle.tce_window.specs.Held.{HeldValue, held_strokes, strokes_of, either}
use Rattle.tce_window.specs.Laying.{count_on, room_of, held_room, place_on, HasRoom, HaveRoom, IsWithinHeld, with_more}
use Rattle.tce_window.specs.Moved.{piece_strokes, strokes_on, stroke_count, numbered, unplaced, Follows}
use Rattle.tce_window.specs.Pieces.{on_page}
use Rattle.tce_window.specs.Port.{Grows}
use Rattle.tce_window.specs.Strokes.{IsWithin, with_strokes}
use Rattle.tce_window.proofs.Naming.{same_at}
use Rattle.tce_window.proofs.Values.{by_number}

-- a held page whose strokes stay
pub strokes-set : (pages : List (Option HeldPage)) (i : ℕ) (held d : Option HeldPage) → i < length pages
    → ((p : ℕ) → strokes_of held p ≡ strokes_of (get_or pages i d) p) → (p : ℕ) → held_strokes (set pages i held) p ≡ held_strokes pages p
strokes-set [] i held d less same p = refl
strokes-set (first ∷ pages) zero held d less same p = ap (λ x. either x (held_strokes pages p)) (same p)
strokes-set (first ∷ pages) (suc i) held d less same p =
    ap (either (strokes_of first p)) (strokes-set pages i held d (omega (arith, less)) same p)

-- where the page of each piece has room for the pieces on it, each page has
none_on : (pieces : List Piece) (p : ℕ) → on_page pieces p ≡ false → count_on p pieces ≡ 0
none_on [] p none = refl
none_on (piece ∷ pieces) p none =
    by_number piece.page p (count_on p (piece ∷ pieces) ≡ 0)
    (λ same. absurd (cc (rw (eq-eqb piece.page p same) at none)))
    (λ other.
    let rest : on_page pieces p ≡ false = rw (ne_eqb piece.page p other) at none in
    let counted : count_on p (piece ∷ pieces) ≡ cond (piece.page == p) 1 0 + count_on p pieces = sum_by-cons (λ piece. cond (piece.page == p) 1 0) piece pieces in
    let nothing : ◌≡◌ {A = ℕ} (cond (piece.page == p) 1 0) 0 = ap (λ (b : Bool). cond b 1 0) (ne_eqb piece.page p other) in
    omega (arith, counted, nothing, none_on pieces p rest))

room_on : (pieces : List Piece) (count room : ℕ → ℕ) (p : ℕ) → All (λ piece. count piece.page ≤ room piece.page) pieces → (count p ≤ room p) ⊎ (on_page pieces p ≡ false)
room_on [] count room p all = inr refl
room_on (piece ∷ pieces) count room p all =
    by_number piece.page p ((count p ≤ room p) ⊎ (on_page (piece ∷ pieces) p ≡ false))
    (λ same. inl (subst (λ q. count q ≤ room q) same (All-head (λ piece. count piece.page ≤ room piece.page) piece pieces all)))
    (λ other. rw (ne_eqb piece.page p other) (room_on pieces count room p (All-tail (λ piece. count piece.page ≤ room piece.page) piece pieces all)))

pub have_room : (pieces : List Piece) (room : ℕ → ℕ) → All (λ piece. count_on piece.page pieces ≤ room piece.page) pieces → HaveRoom pieces room
have_room pieces room all p =
    ⊎_elim (λ enough. enough) (λ none. omega (arith, none_on pieces p none)) (room_on pieces (λ q. count_on q pieces) room p all)

-- the page of this number stands at its place
pub place_inside : (pages : List (Option HeldPage)) (n : ℕ) → IsSome (held_strokes pages n) → place_on pages n < length pages
place_inside [] n there = absurd (cc (there))
place_inside (None ∷ pages) n there = omega (arith, place_inside pages n there)
place_inside (Some held ∷ pages) n there =
    by_number held.number n (place_on (Some held ∷ pages) n < length (Some held ∷ pages))
    (λ same. rw (eq-eqb held.number n same) (omega arith))
    (λ other. rw (ne_eqb held.number n other) (omega (arith, place_inside pages n (rw (ne_eqb held.number n other) at there))))

pub strokes_there : (pages : List (Option HeldPage)) (n : ℕ) → strokes_of (get_or pages (place_on pages n) None) n ≡ held_strokes pages n
strokes_there [] n = refl
strokes_there (None ∷ pages) n = strokes_there pages n
strokes_there (Some held ∷ pages) n =
    by_number held.number n (strokes_of (get_or (Some held ∷ pages) (place_on (Some held ∷ pages) n) None) n ≡ held_strokes (Some held ∷ pages) n)
    (λ same. rw (eq-eqb held.number n same) (rw (eq-eqb held.number n same) refl))
    (λ other. rw (ne_eqb held.number n other) (strokes_there pages n))

pub not_none : (strokes : Option (List StrokeValue)) → strokes ≡ None → IsSome strokes → ⊥
not_none (Some strokes) e there = cc (e)
not_none None e there = cc (there)

-- the page that stands at its place
pub page_there : (held : HeldPage) (n : ℕ) (strokes : Option (List StrokeValue)) → strokes_of (Some held) n ≡ strokes → IsSome strokes → strokes ≡ Some held.page.strokes
page_there held n strokes e there =
    by_number held.number n (strokes ≡ Some held.page.strokes)
    (λ same. sym e ∙ rw (eq-eqb held.number n same) refl)
    (λ other. absurd (cc (rw (ne_eqb held.number n other) at e, there)))

pub room_there : (pages : List (Option HeldPage)) (n : ℕ) → room_of (get_or pages (place_on pages n) None) ≡ held_room pages n
room_there [] n = refl
room_there (None ∷ pages) n = room_there pages n
room_there (Some held ∷ pages) n =
    by_number held.number n (room_of (get_or (Some held ∷ pages) (place_on (Some held ∷ pages) n) None) ≡ held_room (Some held ∷ pages) n)
    (λ same. rw (eq-eqb held.number n same) refl)
    (λ other. rw (ne_eqb held.number n other) (room_there pages n))

-- a page on which room is made
pub room-set : (pages : List (Option HeldPage)) (i : ℕ) (held d : Option HeldPage) → i < length pages
    → ((p : ℕ) → strokes_of held p ≡ strokes_of (get_or pages i d) p) → room_of (get_or pages i d) ≤ room_of held → (p : ℕ) → held_room pages p ≤ held_room (set pages i held) p
room-set [] i held d less same more p = omega arith
room-set (first ∷ pages) zero held d less same more p =
    subst (λ b. cond (is_some (strokes_of first p)) (room_of first) (held_room pages p) ≤ cond b (room_of held) (held_room pages p)) (sym (ap is_some (same p)))
    (more_or_rest (is_some (strokes_of first p)) (room_of first) (room_of held) (held_room pages p) more)
  where
    more_or_rest : (b : Bool) (old new rest : ℕ) → old ≤ new → cond b old rest ≤ cond b new rest
    more_or_rest true old new rest more = more
    more_or_rest false old new rest more = omega arith
room-set (first ∷ pages) (suc i) held d less same more p =
    behind (is_some (strokes_of first p)) (room_of first) (held_room pages p) (held_room (set pages i held) p) (room-set pages i held d (omega (arith, less)) same more p)
  where
    behind : (b : Bool) (first old new : ℕ) → old ≤ new → cond b first old ≤ cond b first new
    behind true first old new more = omega arith
    behind false first old new more = more

pub room-set_there : (pages : List (Option HeldPage)) (n : ℕ) (held : Option HeldPage) → IsSome (held_strokes pages n)
    → ((p : ℕ) → strokes_of held p ≡ strokes_of (get_or pages (place_on pages n) None) p) → held_room (set pages (place_on pages n) held) n ≡ room_of held
room-set_there [] n held there same = absurd (cc (there))
room-set_there (None ∷ pages) n held there same = room-set_there pages n held there same
room-set_there (Some first ∷ pages) n held there same =
    by_number first.number n (held_room (set (Some first ∷ pages) (place_on (Some first ∷ pages) n) held) n ≡ room_of held)
    (λ own.
    let here : (p : ℕ) → strokes_of held p ≡ strokes_of (Some first) p = λ p. rw (eq-eqb first.number n own) at same p in
    rw (eq-eqb first.number n own) (rw (here n) (rw (eq-eqb first.number n own) refl)))
    (λ other. rw (ne_eqb first.number n other) (rw (ne_eqb first.number n other)
    (room-set_there pages n held (rw (ne_eqb first.number n other) at there) (λ p. rw (ne_eqb first.number n other) at same p))))

pub has_room : (count n : ℕ) (held : Option HeldPage) → HasRoom count held → IsSome (strokes_of held n) → count ≤ room_of held
has_room count n (Some held) room there = room
has_room count n None room there = absurd (cc (there))

-- these pages, with one stroke more on that of this number
abbrev pub one_more : StrokeValue → List (Option HeldPage) → ℕ → List (Option HeldPage)
one_more stroke pages n = set pages (place_on pages n) (with_more stroke (get_or pages (place_on pages n) None))

-- pages that are lent as a slice and written back
pub after_write : (pages : ArrayVec (Option HeldPage)) (lent old new : List (Option HeldPage)) (place n : ℕ) (stroke : StrokeValue) → lent ≡ pages.items → pages.items ≡ old
    → place ≡ place_on old n → new ≡ set lent place (with_more stroke (get_or lent place None)) → (with_items pages new).items ≡ one_more stroke old n
after_write pages lent old new place n stroke is_lent is_old is_place is_new =
    let same : lent ≡ old = is_lent ∙ is_old in
    let laid : new ≡ one_more stroke old n = is_new ∙ ap₂ (λ xs i. set xs i (with_more stroke (get_or xs i None))) same is_place in
    let size : length new ≡ length pages.items = ap length is_new ∙ length-set lent place (with_more stroke (get_or lent place None)) ∙ ap length is_lent in
    items-with_items pages new size ∙ laid

pub item_there : (lent old : List (Option HeldPage)) (place n : ℕ) (d : Option HeldPage) → lent ≡ old → place ≡ place_on old n → place < length old
    → get_or lent place d ≡ get_or old (place_on old n) None
item_there lent old place n d same is_place inside =
    ap₂ (λ xs i. get_or xs i d) same is_place ∙ same_at old (place_on old n) d None (subst (λ i. i < length old) is_place inside)

pub after_reserve : (pages : ArrayVec (Option HeldPage)) (lent old : List (Option HeldPage)) (place n : ℕ) (held : Option HeldPage) → lent ≡ pages.items → pages.items ≡ old
    → place ≡ place_on old n → (with_items pages (set lent place held)).items ≡ set old (place_on old n) held
after_reserve pages lent old place n held is_lent is_old is_place =
    let same : lent ≡ old = is_lent ∙ is_old in
    let size : length (set lent place held) ≡ length pages.items = length-set lent place held ∙ ap length is_lent in
    items-with_items pages (set lent place held) size ∙ ap₂ (λ xs i. set xs i held) same is_place

-- one page, and the pages behind it
first_strokes : (b : Bool) (old : List StrokeValue) (stroke : StrokeValue) (rest : Option (List StrokeValue))
    → either (cond b (Some (old ++ stroke ∷ [])) None) rest ≡ cond b (option_map (λ s. s ++ stroke ∷ []) (either (cond b (Some old) None) rest)) (either (cond b (Some old) None) rest)
first_strokes true old stroke rest = refl
first_strokes false old stroke rest = refl

second_strokes : (a b : Bool) (old : List StrokeValue) (stroke : StrokeValue) (rest new : Option (List StrokeValue)) → (a ≡ true → b ≡ false)
    → new ≡ cond b (option_map (λ s. s ++ stroke ∷ []) rest) rest
    → either (cond a (Some old) None) new ≡ cond b (option_map (λ s. s ++ stroke ∷ []) (either (cond a (Some old) None) rest)) (either (cond a (Some old) None) rest)
second_strokes true true old stroke rest new apart e = absurd (cc (apart refl))
second_strokes true false old stroke rest new apart e = refl
second_strokes false true old stroke rest new apart e = e
second_strokes false false old stroke rest new apart e = e

same_none : {X : Type 0} (b : Bool) → ◌≡◌ {A = Option X} None (cond b None None)
same_none true = refl
same_none false = refl

-- two numbers of a page
apart_from : (a n p : ℕ) → (a ≡ n → ⊥) → (a == p) ≡ true → (n == p) ≡ false
apart_from a n p other e = ne_eqb n p (λ same. other (eqb-true a p e ∙ sym same))

pub more_strokes : (pages : List (Option HeldPage)) (n p : ℕ) (stroke : StrokeValue)
    → held_strokes (one_more stroke pages n) p ≡ cond (n == p) (option_map (λ s. s ++ stroke ∷ []) (held_strokes pages p)) (held_strokes pages p)
more_strokes [] n p stroke = same_none (n == p)
more_strokes (None ∷ pages) n p stroke = more_strokes pages n p stroke
more_strokes (Some held ∷ pages) n p stroke =
    by_number held.number n (held_strokes (one_more stroke (Some held ∷ pages) n) p ≡ cond (n == p) (option_map (λ s. s ++ stroke ∷ []) (held_strokes (Some held ∷ pages) p)) (held_strokes (Some held ∷ pages) p))
    (λ same. rw (eq-eqb held.number n same) (rw (← same) (first_strokes (held.number == p) held.page.strokes stroke (held_strokes pages p))))
    (λ other. rw (ne_eqb held.number n other)
    (second_strokes (held.number == p) (n == p) held.page.strokes stroke (held_strokes pages p) (held_strokes (one_more stroke pages n) p) (apart_from held.number n p other) (more_strokes pages n p stroke)))

-- strokes that lie within their pages, with one more that does
pub within_more : (stroke : StrokeValue) (pages : List (Option HeldPage)) (i p : ℕ) → IsWithin (held_strokes pages p) → IsWithinHeld (with_more stroke (get_or pages i None))
    → IsWithin (held_strokes (set pages i (with_more stroke (get_or pages i None))) p)
within_more stroke [] i p within more = tt
within_more stroke (None ∷ pages) zero p within more = within
within_more stroke (Some held ∷ pages) zero p within more = first_within (held.number == p) held.page.strokes (held.page.strokes ++ stroke ∷ []) (held_strokes pages p) within more
  where
    first_within : (b : Bool) (old new : List StrokeValue) (rest : Option (List StrokeValue)) → IsWithin (either (cond b (Some old) None) rest) → AreWithinPage new → IsWithin (either (cond b (Some new) None) rest)
    first_within true old new rest within more = more
    first_within false old new rest within more = within
within_more stroke (first ∷ pages) (suc i) p within more =
    rest_within (strokes_of first p) (held_strokes pages p) (held_strokes (set pages i (with_more stroke (get_or pages i None))) p) within (λ h. within_more stroke pages i p h more)
  where
    rest_within : (first old new : Option (List StrokeValue)) → IsWithin (either first old) → (IsWithin old → IsWithin new) → IsWithin (either first new)
    rest_within (Some first) old new within step = within
    rest_within None old new within step = step within

-- the room of one page, and of the pages behind it
first_room : (b : Bool) (old new : List StrokeValue) (spare rest : ℕ) → 1 ≤ spare
    → cond (is_some (cond b (Some old) None)) spare rest ≡ cond (is_some (cond b (Some new) None)) (spare - 1) rest + cond b 1 0
first_room true old new spare rest some = omega (arith, some)
first_room false old new spare rest some = omega arith

second_room : (a b : Bool) (old : List StrokeValue) (spare rest new : ℕ) → (a ≡ true → b ≡ false) → rest ≡ new + cond b 1 0
    → cond (is_some (cond a (Some old) None)) spare rest ≡ cond (is_some (cond a (Some old) None)) spare new + cond b 1 0
second_room true true old spare rest new apart e = absurd (cc (apart refl))
second_room true false old spare rest new apart e = omega arith
second_room false true old spare rest new apart e = e
second_room false false old spare rest new apart e = e

pub less_room : (pages : List (Option HeldPage)) (n p : ℕ) (stroke : StrokeValue) → 1 ≤ held_room pages n
    → held_room pages p ≡ held_room (one_more stroke pages n) p + cond (n == p) 1 0
less_room [] n p stroke some = absurd (omega (arith, some))
less_room (None ∷ pages) n p stroke some = less_room pages n p stroke some
less_room (Some held ∷ pages) n p stroke some =
    by_number held.number n (held_room (Some held ∷ pages) p ≡ held_room (one_more stroke (Some held ∷ pages) n) p + cond (n == p) 1 0)
    (λ same. rw (eq-eqb held.number n same)
    (rw (← same) (first_room (held.number == p) held.page.strokes (held.page.strokes ++ stroke ∷ []) held.page.spare (held_room pages p) (rw (eq-eqb held.number n same) at some))))
    (λ other. rw (ne_eqb held.number n other)
    (second_room (held.number == p) (n == p) held.page.strokes held.page.spare (held_room pages p) (held_room (one_more stroke pages n) p) (apart_from held.number n p other)
    (less_room pages n p stroke (rw (ne_eqb held.number n other) at some))))

-- a page that a stroke was laid on, or another
pub there_after : (b : Bool) (old new : Option (List StrokeValue)) (stroke : StrokeValue) → new ≡ cond b (option_map (λ s. s ++ stroke ∷ []) old) old → IsSome old → IsSome new
there_after true (Some s) new stroke e there = subst IsSome (sym e) (search rules)
there_after true None new stroke e there = absurd (cc (there))
there_after false old new stroke e there = subst IsSome (sym e) there

pub there_before : (b : Bool) (old new : Option (List StrokeValue)) (stroke : StrokeValue) → new ≡ cond b (option_map (λ s. s ++ stroke ∷ []) old) old → IsSome new → IsSome old
there_before b (Some s) new stroke e there = search rules
there_before true None new stroke e there = subst IsSome e there
there_before false None new stroke e there = subst IsSome e there

pub strokes_after : (b : Bool) (old new : Option (List StrokeValue)) (stroke : StrokeValue) (on : List StrokeValue) → new ≡ cond b (option_map (λ s. s ++ stroke ∷ []) old) old
    → option_map (λ s. s ++ on) new ≡ option_map (λ s. s ++ cond b (stroke ∷ on) on) old
strokes_after true (Some s) new stroke on e = ap (option_map (λ s. s ++ on)) e ∙ ap Some (append_assoc s (stroke ∷ []) on)
strokes_after true None new stroke on e = ap (option_map (λ s. s ++ on)) e
strokes_after false old new stroke on e = ap (option_map (λ s. s ++ on)) e

pub count_after : (b : Bool) (old new : Option (List StrokeValue)) (stroke : StrokeValue) → new ≡ cond b (option_map (λ s. s ++ stroke ∷ []) old) old → (b ≡ true → IsSome old)
    → stroke_count new ≡ cond b (stroke_count old + 1) (stroke_count old)
count_after true (Some s) new stroke e there = ap stroke_count e ∙ length-append s (stroke ∷ [])
count_after true None new stroke e there = absurd (cc (there refl))
count_after false old new stroke e there = ap stroke_count e

pub numbered-same : (f g : ℕ → ℕ) (pieces : List Piece) → ((p : ℕ) → f p ≡ g p) → numbered f pieces ≡ numbered g pieces
numbered-same f g [] same = refl
numbered-same f g (piece ∷ pieces) same =
    ap (λ n. record piece { at = n } ∷ numbered (λ p. cond (piece.page == p) (f p + 1) (f p)) pieces) (same piece.page)
    ∙ ap (λ rest. record piece { at = g piece.page } ∷ rest)
    (numbered-same (λ p. cond (piece.page == p) (f p + 1) (f p)) (λ p. cond (piece.page == p) (g p + 1) (g p)) pieces (λ p. ap (λ n. cond (piece.page == p) (n + 1) n) (same p)))

-- a piece is numbered
pub numbered_step : (pieces : List Piece) (i at : ℕ) (d : Piece) (count count' : ℕ → ℕ) → i < length pieces
    → at ≡ count (get_or pieces i d).page → ((p : ℕ) → count' p ≡ cond ((get_or pieces i d).page == p) (count p + 1) (count p))
    → take (i + 1) (set pieces i (record (get_or pieces i d) { at = at })) ++ numbered count' (drop (i + 1) (set pieces i (record (get_or pieces i d) { at = at })))
    ≡ take i pieces ++ numbered count (drop i pieces)
numbered_step pieces i at d count count' less is_at more =
    let piece = get_or pieces i d in
    let placed : Piece = record piece { at = at } in
    let step = λ (p : ℕ). cond (piece.page == p) (count p + 1) (count p) in
    ap (λ (front : List Piece). front ++ numbered count' (drop (i + 1) (set pieces i placed))) (take_more_set pieces i placed less)
    ∙ append_assoc (take i pieces) (placed ∷ []) (numbered count' (drop (i + 1) (set pieces i placed)))
    ∙ ap (λ (rest : List Piece). take i pieces ++ placed ∷ numbered count' rest) (drop-set-lt (i + 1) pieces i placed (omega arith))
    ∙ ap (λ (rest : List Piece). take i pieces ++ placed ∷ rest) (numbered-same count' step (drop (i + 1) pieces) more)
    ∙ ap (λ n. take i pieces ++ record piece { at = n } ∷ numbered step (drop (i + 1) pieces)) is_at
    ∙ ap (λ (rest : List Piece). take i pieces ++ numbered count rest) (sym (drop_more pieces i d less))

-- the first of the pieces has room for its stroke, and those behind it have room then
pub room_first : (piece : Piece) (whole rest : List Piece) (room : ℕ) → whole ≡ piece ∷ rest → count_on piece.page whole ≤ room → 1 ≤ room
room_first piece whole rest room split h =
    let counted : cond (piece.page == piece.page) 1 0 + count_on piece.page rest ≤ room = subst (λ n. n ≤ room) (ap (count_on piece.page) split ∙ sum_by-cons (λ other. cond (other.page == piece.page) 1 0) piece rest) h in
    let one : ◌≡◌ {A = ℕ} (cond (piece.page == piece.page) 1 0) 1 = ap (λ (b : Bool). cond b 1 0) (eq-eqb piece.page piece.page refl) in
    omega (arith, counted, one)

pub room_after : (piece : Piece) (whole rest : List Piece) (p before after : ℕ) → whole ≡ piece ∷ rest → before ≡ after + cond (piece.page == p) 1 0
    → count_on p whole ≤ before → count_on p rest ≤ after
room_after piece whole rest p before after split less h =
    let counted : cond (piece.page == p) 1 0 + count_on p rest ≤ before = subst (λ n. n ≤ before) (ap (count_on p) split ∙ sum_by-cons (λ other. cond (other.page == p) 1 0) piece rest) h in
    omega (arith, counted, less)

-- pieces that are numbered lie where they lay
unplaced-numbered : (count : ℕ → ℕ) (pieces : List Piece) → map unplaced (numbered count pieces) ≡ map unplaced pieces
unplaced-numbered count [] = refl
unplaced-numbered count (piece ∷ pieces) =
    ap (λ (rest : List Piece). unplaced piece ∷ rest) (unplaced-numbered (λ p. cond (piece.page == p) (count p + 1) (count p)) pieces)

grows : (on : List StrokeValue) (old new : Option (List StrokeValue)) → new ≡ option_map (λ s. s ++ on) old → Grows true old new
grows on (Some s) new e = subst (Grows true (Some s)) (sym e) (on, refl)
grows on None new e = subst (Grows true None) (sym e) tt

grows-same : (old new : Option (List StrokeValue)) → new ≡ old → Grows true old new
grows-same (Some s) new e = subst (Grows true (Some s)) (sym e) ([], sym (append-nil s))
grows-same None new e = subst (Grows true None) (sym e) tt

-- a range on which strokes were laid, or none, follows what it was
pub follows_laid : {T E : Type 0} (r : Result T E) (old new : HeldValue) (count : ℕ → ℕ) (on : ℕ → List StrokeValue) → new.right ≡ old.right
    → OnOk r ((p : ℕ) → held_strokes new.pages p ≡ option_map (λ s. s ++ on p) (held_strokes old.pages p)) → OnOk r (new.pieces ≡ numbered count old.pieces)
    → OnErr r ((p : ℕ) → held_strokes new.pages p ≡ held_strokes old.pages p) → OnErr r (new.pieces ≡ old.pieces) → Follows old new
follows_laid (Ok v) old new count on right strokes pieces err same = record {
  right = right;
  pieces = ap (map unplaced) pieces ∙ unplaced-numbered count old.pieces;
  pages = λ p. grows (on p) (held_strokes old.pages p) (held_strokes new.pages p) (strokes p);
}
follows_laid (Err e) old new count on right strokes pieces err same = record {
  right = right;
  pieces = ap (map unplaced) same;
  pages = λ p. grows-same (held_strokes old.pages p) (held_strokes new.pages p) (err p);
}

-- what holds of pieces wherever their strokes are
pub All-unplaced : (P : Piece → Type 0) (old new : List Piece) → ((piece : Piece) → P piece → P (unplaced piece)) → ((piece : Piece) → P (unplaced piece) → P piece)
    → map unplaced new ≡ map unplaced old → All P old → All P new
All-unplaced P old [] to from e all = All-nil P
All-unplaced P [] (piece ∷ new) to from e all = absurd (cc (e))
All-unplaced P (first ∷ old) (piece ∷ new) to from e all =
    let head : unplaced piece ≡ unplaced first = cc (e) in
    let tail : map unplaced new ≡ map unplaced old = cc (e) in
    All-cons P piece new (from piece (subst P (sym head) (to first (All-head P first old all))))
    (All-unplaced P old new to from tail (All-tail P first old all))

there_grown : (old new : Option (List StrokeValue)) → Grows true old new → IsSome old → IsSome new
there_grown (Some old) (Some new) g there = search rules
there_grown (Some old) None g there = absurd g
there_grown None new g there = absurd (cc (there))

pub there_follows : (old new : HeldValue) → Follows old new → All (λ piece. IsSome (held_strokes old.pages piece.page)) old.pieces
    → All (λ piece. IsSome (held_strokes new.pages piece.page)) new.pieces
there_follows old new follows there =
    All-unplaced (λ piece. IsSome (held_strokes new.pages piece.page)) old.pieces new.pieces (λ piece h. h) (λ piece h. h) follows.pieces
    (All-weaker (λ piece. IsSome (held_strokes old.pages piece.page)) (λ piece. IsSome (held_strokes new.pages piece.page))
    (λ piece h. there_grown (held_strokes old.pages piece.page) (held_strokes new.pages piece.page) (follows.pages piece.page) h) old.pieces there)

-- a write has a stroke for each piece
pub length-piece_strokes : (name : StrokeName) (bytes : List ℕ) (pieces : List Piece) → length (piece_strokes name bytes pieces) ≡ length pieces
length-piece_strokes name bytes [] = refl
length-piece_strokes name bytes (piece ∷ pieces) = ap suc (length-piece_strokes name (drop piece.len bytes) pieces)

-- where no stroke is left a page is as it is
pub none_left : (p : ℕ) (pieces : List Piece) (strokes : Option (List StrokeValue)) (left : List StrokeValue) → left ≡ [] → strokes ≡ with_strokes strokes (strokes_on p pieces left)
none_left p pieces strokes left none =
    same strokes ∙ ap (with_strokes strokes) (sym (ap (strokes_on p pieces) none ∙ nothing p pieces))
  where
    same : (strokes : Option (List StrokeValue)) → strokes ≡ with_strokes strokes []
    same (Some s) = ap Some (sym (append-nil s))
    same None = refl

    nothing : (p : ℕ) (pieces : List Piece) → strokes_on p pieces [] ≡ []
    nothing p [] = refl
    nothing p (piece ∷ pieces) = refl
