-- Which strokes of a page the copies name, as more are laid on it.
use Rattle.std.proofs.Common.{◌≡◌, ◌≢◌, ◌+◌, ◌-◌, ◌<◌, ◌≤◌, ℕ, zero, suc, ◌++◌, Bool, true, false, List, [], ◌∷◌, Option, Some, None, All, length, slice_get, refl, sym, ◌∙◌, ap, subst, arith, nat_lt, append-nil, length-append}
use Rattle.std.specs.List.{Contains}
use Rattle.std.proofs.lemmas.Bool.Decides.{nat_tests}
use Rattle.std.proofs.lemmas.List.{get_or_append_left, get_or-append-add}
use Rattle.std.proofs.lemmas.List.Elements.{All-nil, All-head, All-tail, All-append, All-weaker, Contains-append_left, Contains-append_right}
use Rattle.std.proofs.lemmas.Option.{slice_get_within, slice_get-get_or, get_or_from_slice_get}
use Rattle.vio_num.specs.declared.names.UnitId.{UnitId}
use Rattle.page_slots.specs.Stroke.{StrokeValue}
use Rattle.tce_window.specs.Moved.{stroke_count}
use Rattle.tce_window.specs.Strokes.{with_strokes}
use Rattle.block_server.specs.Makers.{Rises, stroke_in}

-- Of one page: the places that are named rise, are there, and are those of all strokes by others.
pub record IsNamedPage (unit : UnitId) (strokes : Option (List StrokeValue)) (named : List ℕ) : Type 0 where
  pub rising : Rises named
  pub there : All (λ place. place < stroke_count strokes) named
  pub others : (place : ℕ) (stroke : StrokeValue) → stroke_in strokes place ≡ Some stroke → stroke.name.who ≢ unit → Contains named place

-- Strokes were laid behind `before` others, and these places name those by others.
pub record NamesLaid (unit : UnitId) (before : ℕ) (more : List StrokeValue) (places : List ℕ) : Type 0 where
  pub rising : Rises places
  pub behind : All (λ place. before ≤ place) places
  pub there : All (λ place. place < before + length more) places
  pub others : (k : ℕ) (stroke : StrokeValue) → slice_get more k ≡ Some stroke → stroke.name.who ≢ unit → Contains places (before + k)

rises_append : (n : ℕ) (xs ys : List ℕ) → Rises xs → All (λ x. x < n) xs → Rises ys → All (λ y. n ≤ y) ys → Rises (xs ++ ys)
rises_append n [] ys rising below rising' behind = rising'
rises_append n (x ∷ xs) ys rising below rising' behind = (
  All-append (λ y. x < y) xs ys rising.0
      (All-weaker (λ y. n ≤ y) (λ y. x < y) (λ y least. omega (arith, least, All-head (λ z. z < n) x xs below)) ys behind),
  rises_append n xs ys rising.1 (All-tail (λ z. z < n) x xs below) rising' behind,
)

-- rising numbers of a range are no more than the range has
few_rising : (low high : ℕ) (xs : List ℕ) → low ≤ high → Rises xs → All (λ x. low ≤ x) xs → All (λ x. x < high) xs → low + length xs ≤ high
few_rising low high [] room rising least most = omega (arith, room)
few_rising low high (x ∷ xs) room rising least most =
    omega (
      arith,
      All-head (λ z. low ≤ z) x xs least,
      few_rising (x + 1) high xs
          (omega (arith, All-head (λ z. z < high) x xs most)) rising.1
          (All-weaker (λ z. x < z) (λ z. x + 1 ≤ z) (λ z above. omega (arith, above)) xs rising.0) (All-tail (λ z. z < high) x xs most),
    )

-- those behind the first are above the range's first
above_first : (low x : ℕ) (xs : List ℕ) → low ≤ x → All (λ z. x < z) xs → All (λ z. low + 1 ≤ z) xs
above_first low x xs least = All-weaker (λ z. x < z) (λ z. low + 1 ≤ z) (λ z more. omega (arith, more, least)) xs

-- where there are as many as the range has, the first is the range's
first_rising : (low n x : ℕ) (xs : List ℕ) → Rises (x ∷ xs) → All (λ x. low ≤ x) (x ∷ xs) → All (λ x. x < low + n) (x ∷ xs)
    → length (x ∷ xs) ≡ n → x ≡ low
first_rising low n x xs rising least most long =
    let first_most = All-head (λ z. z < low + n) x xs most in
    let few = few_rising (x + 1) (low + n) xs (omega (arith, first_most)) rising.1 (above_first x x xs (omega arith) rising.0) (All-tail (λ z. z < low + n) x xs most) in
    omega (arith, long, few, All-head (λ z. low ≤ z) x xs least)

-- and each number of it is one of them
pub all_rising : (low n : ℕ) (xs : List ℕ) → Rises xs → All (λ x. low ≤ x) xs → All (λ x. x < low + n) xs → length xs ≡ n
    → (k : ℕ) → k < n → Contains xs (low + k)
all_rising low n [] rising least most long k below = absurd (omega (arith, long, below))
all_rising low n (x ∷ xs) rising least most long zero below = (0, omega arith, first_rising low n x xs rising least most long ∙ omega arith)
all_rising low n (x ∷ xs) rising least most long (suc j) below =
    subst (Contains (x ∷ xs)) (omega arith) (Contains-append_right (x ∷ []) xs (low + 1 + j)
    (all_rising (low + 1) (length xs) xs rising.1 (above_first low x xs (All-head (λ z. low ≤ z) x xs least) rising.0)
    (All-weaker (λ z. z < low + n) (λ z. z < low + 1 + length xs) (λ z less. omega (arith, less, long)) xs (All-tail (λ z. z < low + n) x xs most))
    refl j (omega (arith, below, long))))

is_less : (a b : ℕ) → nat_lt a b ≡ true → a < b
is_less a b is = grind (arith, nat_tests)

is_past : (a b : ℕ) → nat_lt a b ≡ false → b ≤ a
is_past a b is = grind (arith, nat_tests)

some_same : {X : Type 0} (a b : X) → Some a ≡ Some b → a ≡ b
some_same a b e = cc (e)

-- a stroke of a page on which more were laid is one of those that were, or of the new ones
old_or_new : {X : Type 0} (xs ys : List X) (i : ℕ) (x : X) → slice_get (xs ++ ys) i ≡ Some x → i < length xs → slice_get xs i ≡ Some x
old_or_new xs ys i x is less =
    slice_get-get_or xs i x less ∙ ap Some (sym (get_or_append_left xs ys x i less) ∙ get_or_from_slice_get (xs ++ ys) i x x is)

new_one : {X : Type 0} (xs ys : List X) (k : ℕ) (x : X) → slice_get (xs ++ ys) (length xs + k) ≡ Some x → slice_get ys k ≡ Some x
new_one xs ys k x is =
    slice_get-get_or ys k x (omega (arith, slice_get_within (xs ++ ys) (length xs + k) x is, length-append xs ys))
    ∙ ap Some (sym (get_or-append-add xs ys k x) ∙ get_or_from_slice_get (xs ++ ys) (length xs + k) x x is)

pub count_with : (strokes : Option (List StrokeValue)) (more : List StrokeValue) → stroke_count strokes ≤ stroke_count (with_strokes strokes more)
count_with (Some s) more = omega (arith, length-append s more)
count_with None more = omega arith

-- A page has what it had, and more behind.
pub page_more : (unit : UnitId) (s more : List StrokeValue) (named places : List ℕ) → IsNamedPage unit (Some s) named
    → NamesLaid unit (length s) more places → IsNamedPage unit (Some (s ++ more)) (named ++ places)
page_more unit s more named places page laid = record {
  rising = rises_append (length s) named places page.rising page.there laid.rising laid.behind;
  there = All-append (λ place. place < length (s ++ more)) named places
      (All-weaker (λ place. place < length s) (λ place. place < length (s ++ more)) (λ place less. omega (arith, less, length-append s more)) named page.there)
      (All-weaker (λ place. place < length s + length more) (λ place. place < length (s ++ more)) (λ place less. omega (arith, less, length-append s more)) places laid.there);
  others = λ place stroke is other. by place stroke is other (nat_lt place (length s)) refl;
}
  where
    by : (place : ℕ) (stroke : StrokeValue) → slice_get (s ++ more) place ≡ Some stroke → stroke.name.who ≢ unit
        → (b : Bool) → nat_lt place (length s) ≡ b → Contains (named ++ places) place
    by place stroke is other true less =
        Contains-append_left named places place (page.others place stroke (old_or_new s more place stroke is (is_less place (length s) less)) other)
    by place stroke is other false past =
        let at : place ≡ length s + (place - length s) = omega (arith, is_past place (length s) past) in
        let laid_is = new_one s more (place - length s) stroke (subst (λ n. slice_get (s ++ more) n ≡ Some stroke) at is) in
        Contains-append_right named places place (subst (Contains places) (sym at) (laid.others (place - length s) stroke laid_is other))

-- No page is known: nothing is named.
none_named : (unit : UnitId) (named places : List ℕ) → IsNamedPage unit None named → Rises places → All (λ place. place < 0) places
    → IsNamedPage unit None (named ++ places)
none_named unit named places page rising there = record {
  rising = rises_append 0 named places page.rising page.there rising
      (All-weaker (λ place. place < 0) (λ place. 0 ≤ place) (λ place less. omega arith) places there);
  there = All-append (λ place. place < 0) named places page.there there;
  others = λ place stroke is other. cc (is);
}

-- A page has what it had, and the strokes by another unit than the window's, which these places name.
pub page_laid : (unit : UnitId) (strokes : Option (List StrokeValue)) (more : List StrokeValue) (named places : List ℕ) → IsNamedPage unit strokes named
    → Rises places → All (λ place. stroke_count strokes ≤ place) places
    → All (λ place. place < stroke_count (with_strokes strokes more)) places → length places ≡ length more
    → IsNamedPage unit (with_strokes strokes more) (named ++ places)
page_laid unit (Some s) more named places page rising behind there long = page_more unit s more named places page (record {
  rising = rising;
  behind = behind;
  there = within;
  others = λ k stroke is other. all_rising (length s) (length more) places rising behind within long k (slice_get_within more k stroke is);
})
  where
    within : All (λ place. place < length s + length more) places
    within = All-weaker (λ place. place < length (s ++ more)) (λ place. place < length s + length more)
        (λ place less. omega (arith, less, length-append s more)) places there
page_laid unit None more named places page rising behind there long = none_named unit named places page rising there

-- A page has what it had, and at most one stroke more, by the window's own unit.
pub page_written : (unit : UnitId) (s : List StrokeValue) (stroke : StrokeValue) (named : List ℕ) → stroke.name.who ≡ unit
    → IsNamedPage unit (Some s) named → IsNamedPage unit (Some (s ++ stroke ∷ [])) named
page_written unit s stroke named who page =
    subst (IsNamedPage unit (Some (s ++ stroke ∷ []))) (append-nil named) (page_more unit s (stroke ∷ []) named [] page (record {
      rising = tt;
      behind = All-nil (λ place. length s ≤ place);
      there = All-nil (λ place. place < length s + 1);
      others = by;
    }))
  where
    by : (k : ℕ) (other : StrokeValue) → slice_get (stroke ∷ []) k ≡ Some other → other.name.who ≢ unit → Contains [] (length s + k)
    by k other is apart = absurd (apart (ap (λ (x : StrokeValue). x.name.who) (sym (only k is)) ∙ who))
      where
        only : (k : ℕ) → slice_get (stroke ∷ []) k ≡ Some other → stroke ≡ other
        only zero e = some_same stroke other e
        only (suc k) e = cc (e)
