-- Which strokes of a page of a port's region the deliveries name, as more are laid on it.
use Rattle.std.proofs.Common.{◌≡◌, ◌≢◌, ◌+◌, ◌-◌, ◌<◌, ◌≤◌, ◌==◌, ℕ, zero, suc, ◌++◌, Bool, true, false, cond, List, [], ◌∷◌, Option, Some, None, All, length, map, take, drop, slice_get, refl, sym, ◌∙◌, ap, subst, arith, nat_lt, append-nil, length-append}
use Rattle.std.specs.List.{Contains}
use Rattle.std.proofs.lemmas.Bool.Decides.{nat_tests}
use Rattle.std.proofs.lemmas.Grind.{flat_map-append}
use Rattle.std.proofs.lemmas.List.{get_or_append_left, get_or-append-add}
use Rattle.std.proofs.lemmas.List.Elements.{All-nil, All-cons, All-head, All-tail, All-append, All-weaker, Contains-append_left, Contains-append_right}
use Rattle.std.proofs.lemmas.Option.{slice_get_within, slice_get-get_or, get_or_from_slice_get}
use Rattle.vio_num.specs.declared.names.UnitId.{UnitId}
use Rattle.page_slots.specs.Stroke.{StrokeValue}
use Rattle.page_slots.specs.declared.stroke.StrokeName.{StrokeName}
use Rattle.tce_window.specs.declared.piece.Piece.{Piece}
use Rattle.tce_window.specs.Moved.{AreApart, IsLaid, IsNamed, piece_strokes, places_on, stroke_count, stroke_of, strokes_on}
use Rattle.tce_window.specs.Port.{Grows}
use Rattle.tce_window.specs.Strokes.{with_strokes}
use Rattle.unit_region.specs.Kept.{LaysOwn, LaysOwnOn}
use Rattle.vio_trace.specs.declared.lan_rows.DeliverRow.{DeliverRow}
use Rattle.lan_script.specs.Carried.{IsNamedPage, Rises, named_on, places_shown, stroke_in}
use Rattle.lan_script.specs.Frames.{piece_row_of}

-- Strokes were laid behind `before` others, and these places name those by others.
record NamesLaid (unit : UnitId) (before : ℕ) (more : List StrokeValue) (places : List ℕ) : Type 0 where
  pub rising : Rises places
  pub behind : All (λ place. before ≤ place) places
  pub there : All (λ place. place < before + length more) places
  pub others : (k : ℕ) (stroke : StrokeValue) → slice_get more k ≡ Some stroke → stroke.name.who ≢ unit → Contains places (before + k)

rises_append : (n : ℕ) (xs ys : List ℕ) → Rises xs → All (λ x. x < n) xs → Rises ys → All (λ y. n ≤ y) ys → Rises (xs ++ ys)
rises_append n [] ys rising below rising' behind = rising'
rises_append n (x ∷ xs) ys rising below rising' behind = (
  All-append (λ y. x < y) xs ys rising.0
      (All-weaker (λ y. n ≤ y) (λ y. x < y) (λ y least. omega (arith, least, All-head (λ z. z < n) x xs below)) ys behind),
  rises_append n xs ys rising.1 (All-tail (λ z. z < n) x xs below) rising' behind,
)

-- rising numbers of a range are no more than the range has
few_rising : (low high : ℕ) (xs : List ℕ) → low ≤ high → Rises xs → All (λ x. low ≤ x) xs → All (λ x. x < high) xs → low + length xs ≤ high
few_rising low high [] room rising least most = omega (arith, room)
few_rising low high (x ∷ xs) room rising least most =
    omega (
      arith,
      All-head (λ z. low ≤ z) x xs least,
      few_rising (x + 1) high xs
          (omega (arith, All-head (λ z. z < high) x xs most)) rising.1
          (All-weaker (λ z. x < z) (λ z. x + 1 ≤ z) (λ z above. omega (arith, above)) xs rising.0) (All-tail (λ z. z < high) x xs most),
    )

-- those behind the first are above the range's first
above_first : (low x : ℕ) (xs : List ℕ) → low ≤ x → All (λ z. x < z) xs → All (λ z. low + 1 ≤ z) xs
above_first low x xs least = All-weaker (λ z. x < z) (λ z. low + 1 ≤ z) (λ z more. omega (arith, more, least)) xs

-- where there are as many as the range has, the first is the range's
first_rising : (low n x : ℕ) (xs : List ℕ) → Rises (x ∷ xs) → All (λ x. low ≤ x) (x ∷ xs) → All (λ x. x < low + n) (x ∷ xs)
    → length (x ∷ xs) ≡ n → x ≡ low
first_rising low n x xs rising least most long =
    let first_most = All-head (λ z. z < low + n) x xs most in
    let few = few_rising (x + 1) (low + n) xs (omega (arith, first_most)) rising.1 (above_first x x xs (omega arith) rising.0) (All-tail (λ z. z < low + n) x xs most) in
    omega (arith, long, few, All-head (λ z. low ≤ z) x xs least)

-- and each number of it is one of them
all_rising : (low n : ℕ) (xs : List ℕ) → Rises xs → All (λ x. low ≤ x) xs → All (λ x. x < low + n) xs → length xs ≡ n
    → (k : ℕ) → k < n → Contains xs (low + k)
all_rising low n [] rising least most long k below = absurd (omega (arith, long, below))
all_rising low n (x ∷ xs) rising least most long zero below = (0, omega arith, first_rising low n x xs rising least most long ∙ omega arith)
all_rising low n (x ∷ xs) rising least most long (suc j) below =
    subst (Contains (x ∷ xs)) (omega arith) (Contains-append_right (x ∷ []) xs (low + 1 + j)
    (all_rising (low + 1) (length xs) xs rising.1 (above_first low x xs (All-head (λ z. low ≤ z) x xs least) rising.0)
    (All-weaker (λ z. z < low + n) (λ z. z < low + 1 + length xs) (λ z less. omega (arith, less, long)) xs (All-tail (λ z. z < low + n) x xs most))
    refl j (omega (arith, below, long))))

is_less : (a b : ℕ) → nat_lt a b ≡ true → a < b
is_less a b is = grind (arith, nat_tests)

is_past : (a b : ℕ) → nat_lt a b ≡ false → b ≤ a
is_past a b is = grind (arith, nat_tests)

some_same : {X : Type 0} (a b : X) → Some a ≡ Some b → a ≡ b
some_same a b e = cc (e)

-- a stroke of a page on which more were laid is one of those that were, or of the new ones
old_or_new : {X : Type 0} (xs ys : List X) (i : ℕ) (x : X) → slice_get (xs ++ ys) i ≡ Some x → i < length xs → slice_get xs i ≡ Some x
old_or_new xs ys i x is less =
    slice_get-get_or xs i x less ∙ ap Some (sym (get_or_append_left xs ys x i less) ∙ get_or_from_slice_get (xs ++ ys) i x x is)

new_one : {X : Type 0} (xs ys : List X) (k : ℕ) (x : X) → slice_get (xs ++ ys) (length xs + k) ≡ Some x → slice_get ys k ≡ Some x
new_one xs ys k x is =
    slice_get-get_or ys k x (omega (arith, slice_get_within (xs ++ ys) (length xs + k) x is, length-append xs ys))
    ∙ ap Some (sym (get_or-append-add xs ys k x) ∙ get_or_from_slice_get (xs ++ ys) (length xs + k) x x is)

-- A page has what it had, and more behind.
page_more : (unit : UnitId) (s more : List StrokeValue) (named places : List ℕ) → IsNamedPage unit (Some s) named
    → NamesLaid unit (length s) more places → IsNamedPage unit (Some (s ++ more)) (named ++ places)
page_more unit s more named places page laid = record {
  rising = rises_append (length s) named places page.rising page.there laid.rising laid.behind;
  there = All-append (λ place. place < length (s ++ more)) named places
      (All-weaker (λ place. place < length s) (λ place. place < length (s ++ more)) (λ place less. omega (arith, less, length-append s more)) named page.there)
      (All-weaker (λ place. place < length s + length more) (λ place. place < length (s ++ more)) (λ place less. omega (arith, less, length-append s more)) places laid.there);
  others = λ place stroke is other. by place stroke is other (nat_lt place (length s)) refl;
}
  where
    by : (place : ℕ) (stroke : StrokeValue) → slice_get (s ++ more) place ≡ Some stroke → stroke.name.who ≢ unit
        → (b : Bool) → nat_lt place (length s) ≡ b → Contains (named ++ places) place
    by place stroke is other true less =
        Contains-append_left named places place (page.others place stroke (old_or_new s more place stroke is (is_less place (length s) less)) other)
    by place stroke is other false past =
        let at : place ≡ length s + (place - length s) = omega (arith, is_past place (length s) past) in
        let laid_is = new_one s more (place - length s) stroke (subst (λ n. slice_get (s ++ more) n ≡ Some stroke) at is) in
        Contains-append_right named places place (subst (Contains places) (sym at) (laid.others (place - length s) stroke laid_is other))

-- No page is known: nothing is named.
none_named : (unit : UnitId) (named places : List ℕ) → IsNamedPage unit None named → Rises places → All (λ place. place < 0) places
    → IsNamedPage unit None (named ++ places)
none_named unit named places page rising there = record {
  rising = rises_append 0 named places page.rising page.there rising
      (All-weaker (λ place. place < 0) (λ place. 0 ≤ place) (λ place less. omega arith) places there);
  there = All-append (λ place. place < 0) named places page.there there;
  others = λ place stroke is other. cc (is);
}

-- A page has what it had, and the strokes by another unit than the window's, which these places name.
page_laid : (unit : UnitId) (strokes : Option (List StrokeValue)) (more : List StrokeValue) (named places : List ℕ) → IsNamedPage unit strokes named
    → Rises places → All (λ place. stroke_count strokes ≤ place) places
    → All (λ place. place < stroke_count (with_strokes strokes more)) places → length places ≡ length more
    → IsNamedPage unit (with_strokes strokes more) (named ++ places)
page_laid unit (Some s) more named places page rising behind there long = page_more unit s more named places page (record {
  rising = rising;
  behind = behind;
  there = within;
  others = λ k stroke is other. all_rising (length s) (length more) places rising behind within long k (slice_get_within more k stroke is);
})
  where
    within : All (λ place. place < length s + length more) places
    within = All-weaker (λ place. place < length (s ++ more)) (λ place. place < length s + length more)
        (λ place less. omega (arith, less, length-append s more)) places there
page_laid unit None more named places page rising behind there long = none_named unit named places page rising there

-- what is so of each piece of a page is so of its place
places_all : (P : ℕ → Type 0) (page : ℕ) (pieces : List Piece) → All (λ piece. piece.page ≡ page → P piece.at) pieces → All P (places_on page pieces)
places_all P page [] each = All-nil P
places_all P page (piece ∷ pieces) each = by (piece.page == page) refl (places_all P page pieces (All-tail (λ p. p.page ≡ page → P p.at) piece pieces each))
  where
    by : (t : Bool) → (piece.page == page) ≡ t → All P (places_on page pieces) → All P (cond t (piece.at ∷ places_on page pieces) (places_on page pieces))
    by true is rest = All-cons P piece.at (places_on page pieces) (All-head (λ p. p.page ≡ page → P p.at) piece pieces each (grind (arith, nat_tests, is))) rest
    by false is rest = rest

places_rise : (page : ℕ) (pieces : List Piece) → AreApart pieces → Rises (places_on page pieces)
places_rise page [] apart = tt
places_rise page (piece ∷ pieces) apart = by (piece.page == page) refl (places_rise page pieces apart.1)
  where
    by : (t : Bool) → (piece.page == page) ≡ t → Rises (places_on page pieces) → Rises (cond t (piece.at ∷ places_on page pieces) (places_on page pieces))
    by true is rest = (
      places_all (λ at. piece.at < at) page pieces
          (All-weaker (λ p. p.page ≡ piece.page → piece.at < p.at) (λ p. p.page ≡ page → piece.at < p.at)
          (λ p above on. above (grind (arith, nat_tests, is, on))) pieces apart.0),
      rest,
    )
    by false is rest = rest

-- one stroke for each piece
places_long : (page : ℕ) (name : StrokeName) (bytes : List ℕ) (pieces : List Piece)
    → length (places_on page pieces) ≡ length (strokes_on page pieces (piece_strokes name bytes pieces))
places_long page name bytes [] = refl
places_long page name bytes (piece ∷ pieces) = by (piece.page == page) (places_long page name (drop piece.len bytes) pieces)
  where
    by : (t : Bool) → length (places_on page pieces) ≡ length (strokes_on page pieces (piece_strokes name (drop piece.len bytes) pieces))
        → length (cond t (piece.at ∷ places_on page pieces) (places_on page pieces))
        ≡ length (cond t (record { name = name; offset = piece.offset; bytes = take piece.len bytes } ∷ strokes_on page pieces (piece_strokes name (drop piece.len bytes) pieces))
        (strokes_on page pieces (piece_strokes name (drop piece.len bytes) pieces)))
    by true same = ap suc same
    by false same = same

-- a piece that names a stroke names one that is there
stroke_there : (name : StrokeName) (piece : Piece) (strokes : Option (List StrokeValue)) → IsNamed name piece (stroke_in strokes piece.at) → piece.at < stroke_count strokes
stroke_there name piece (Some s) is = by (slice_get s piece.at) refl is
  where
    by : (o : Option StrokeValue) → slice_get s piece.at ≡ o → IsNamed name piece o → piece.at < length s
    by (Some stroke) e named = slice_get_within s piece.at stroke e
    by None e named = absurd named
stroke_there name piece None is = absurd is

-- what is known of a page that no other has a hand in stays the same
pub same_strokes : (old new : Option (List StrokeValue)) → Grows false old new → new ≡ old
same_strokes (Some old) (Some new) grown = ap Some grown
same_strokes (Some old) None grown = absurd grown
same_strokes None (Some new) grown = absurd grown
same_strokes None None grown = refl

grown_page : (unit : UnitId) (old new : Option (List StrokeValue)) (named : List ℕ) → Grows false old new → IsNamedPage unit old named → IsNamedPage unit new named
grown_page unit old new named grown page = subst (λ s. IsNamedPage unit s named) (sym (same_strokes old new grown)) page

-- the strokes of a delivery were laid on a page, and it names them
pub filled_page : (unit : UnitId) (page : ℕ) (name : StrokeName) (bytes : List ℕ) (pieces : List Piece) (strokes : ℕ → Option (List StrokeValue))
    (old : Option (List StrokeValue)) (named : List ℕ) → IsLaid false page pieces (piece_strokes name bytes pieces) old (strokes page) → AreApart pieces
    → All (λ piece. IsNamed name piece (stroke_of strokes piece)) pieces → IsNamedPage unit old named
    → IsNamedPage unit (strokes page) (named ++ places_on page pieces)
filled_page unit page name bytes pieces strokes old named laid apart are is =
    subst (λ s. IsNamedPage unit s (named ++ places_on page pieces)) (sym laid.laid)
    (page_laid unit laid.before (strokes_on page pieces (piece_strokes name bytes pieces)) named (places_on page pieces)
    (grown_page unit old laid.before named laid.grown is)
    (places_rise page pieces apart) (places_all (λ at. stroke_count laid.before ≤ at) page pieces laid.behind)
    (subst (λ s. All (λ at. at < stroke_count s) (places_on page pieces)) laid.laid there)
    (places_long page name bytes pieces))
  where
    there : All (λ at. at < stroke_count (strokes page)) (places_on page pieces)
    there = places_all (λ at. at < stroke_count (strokes page)) page pieces
        (All-weaker (λ piece. IsNamed name piece (stroke_of strokes piece)) (λ piece. piece.page ≡ page → piece.at < stroke_count (strokes page))
        (λ piece one on. subst (λ p. piece.at < stroke_count (strokes p)) on (stroke_there name piece (strokes piece.page) one)) pieces are)

-- a page has what it had, and strokes of the window's own unit behind
own_more : (unit : UnitId) (old new : List StrokeValue) (named : List ℕ) → LaysOwn unit old new → IsNamedPage unit (Some old) named
    → IsNamedPage unit (Some new) named
own_more unit old new named lays page =
    subst (λ s. IsNamedPage unit (Some s) named) (sym lays.is)
    (subst (IsNamedPage unit (Some (old ++ lays.more))) (append-nil named) (page_more unit old lays.more named [] page (record {
      rising = tt;
      behind = All-nil (λ place. length old ≤ place);
      there = All-nil (λ place. place < length old + length lays.more);
      others = λ k stroke is other.
          let at = slice_get_within lays.more k stroke is in
          absurd (other (subst (λ (s : StrokeValue). s.name.who ≡ unit) (get_or_from_slice_get lays.more k stroke stroke is) (lays.own k stroke at)));
    })))

pub own_page : (unit : UnitId) (old new : Option (List StrokeValue)) (named : List ℕ) → LaysOwnOn unit old new → IsNamedPage unit old named
    → IsNamedPage unit new named
own_page unit (Some old) (Some new) named lays page = own_more unit old new named lays page
own_page unit (Some old) None named lays page = absurd lays
own_page unit None (Some new) named lays page = absurd lays
own_page unit None None named lays page = page

-- the places that the rows of pieces name are those of the pieces
pub places_rows : (page : ℕ) (pieces : List Piece) → places_shown page (map piece_row_of pieces) ≡ places_on page pieces
places_rows page [] = refl
places_rows page (piece ∷ pieces) = ap (λ rest. cond (piece.page == page) (piece.at ∷ rest) rest) (places_rows page pieces)

-- those that later deliveries name stand behind
pub named_more : (page : ℕ) (rows more : List DeliverRow) → named_on page (rows ++ more) ≡ named_on page rows ++ named_on page more
named_more page rows more = flat_map-append (λ (row : DeliverRow). places_shown page row.to) rows more
