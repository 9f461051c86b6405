-- What a row that is put behind the others leaves of lists and of their fronts.
use Rattle.std.proofs.Common.{◌≡◌, ℕ, ◌+◌, ◌<◌, ◌≤◌, ◌==◌, zero, suc, Bool, true, false, cond, List, [], ◌∷◌, ◌++◌, length, drop, filter, All, Some, None, slice_get, append-nil, length-append, refl, sym, ◌∙◌, ap, subst, arith, drop_of_length-le, le_refl}
use Rattle.std.proofs.lemmas.Bool.{eq-eqb, eqb-true, ne_eqb}
use Rattle.std.proofs.lemmas.List.{append_assoc, drop-append-le, drop-drop}
use Rattle.std.proofs.lemmas.List.Elements.{filter-append}
use Rattle.std.proofs.lemmas.List.Quantifiers.{all_pairs_push}
use Rattle.vio_num.specs.Words.{Begins}
use Rattle.lan_buffers.specs.Present.{IsPresent}
use Rattle.lan_buffers.proofs.Pooling.{all_push}

-- a front of a list that grows
pub begins_grow : {X : Type 0} (xs ys zs : List X) → Begins xs ys → Begins xs (ys ++ zs)
begins_grow xs ys zs (rest, is) = (rest ++ zs, ap (λ l. l ++ zs) is ∙ append_assoc xs rest zs)

first_behind : {X : Type 0} (xs ys : List X) → slice_get (xs ++ ys) (length xs) ≡ slice_get ys 0
first_behind [] ys = refl
first_behind (x ∷ xs) ys = first_behind xs ys

begins_with : {X : Type 0} (xs rest whole : List X) (x : X) → whole ≡ xs ++ rest → slice_get rest 0 ≡ Some x → Begins (xs ++ x ∷ []) whole
begins_with xs [] whole x is shown = absurd (none_some shown)
  where
    none_some : {X : Type 0} {x : X} → None ≡ Some x → ⊥
    none_some e = cc (e)
begins_with xs (y ∷ rest) whole x is shown =
    let same : y ≡ x = some_same y x shown in
    (rest, is ∙ ap (λ z. xs ++ z ∷ rest) same ∙ sym (append_assoc xs (x ∷ []) rest))
  where
    some_same : {X : Type 0} (y x : X) → Some y ≡ Some x → y ≡ x
    some_same y x e = cc (e)

-- a front and what stands behind it
pub begins_next : {X : Type 0} (xs whole : List X) (x : X) → Begins xs whole → slice_get whole (length xs) ≡ Some x → Begins (xs ++ x ∷ []) whole
begins_next xs whole x (rest, is) shown =
    begins_with xs rest whole x is (sym (first_behind xs rest) ∙ ap (λ l. slice_get l (length xs)) (sym is) ∙ shown)

pub begins_len : {X : Type 0} (xs whole : List X) → Begins xs whole → length xs ≤ length whole
begins_len xs whole (rest, is) = omega (arith, ap length is, length-append xs rest)

pub slice_get-drop : {X : Type 0} (n : ℕ) (xs : List X) → slice_get (drop n xs) 0 ≡ slice_get xs n
slice_get-drop zero [] = refl
slice_get-drop zero (x ∷ xs) = refl
slice_get-drop (suc n) [] = refl
slice_get-drop (suc n) (x ∷ xs) = slice_get-drop n xs

pub slice_get-front : {X : Type 0} (xs ys : List X) (i : ℕ) → i < length xs → slice_get (xs ++ ys) i ≡ slice_get xs i
slice_get-front [] ys i within = absurd (omega (arith, within))
slice_get-front (x ∷ xs) ys zero within = refl
slice_get-front (x ∷ xs) ys (suc i) within = slice_get-front xs ys i (omega (arith, within))

pub drop_one : {X : Type 0} (n : ℕ) (xs : List X) → drop (n + 1) xs ≡ drop 1 (drop n xs)
drop_one n xs = ap (λ k. drop k xs) (omega arith) ∙ sym (drop-drop 1 n xs)

-- the rows of a session, with one more of it
pub own_row : {X : Type 0} (f : X → ℕ) (q : ℕ) (rows : List X) (row : X) → f row ≡ q
    → filter (λ r. f r == q) (rows ++ row ∷ []) ≡ filter (λ r. f r == q) rows ++ row ∷ []
own_row {X} f q rows row own =
    filter-append (λ r. f r == q) rows (row ∷ []) ∙ ap (λ l. filter (λ r. f r == q) rows ++ l) one
  where
    one : filter (λ r. f r == q) (row ∷ []) ≡ row ∷ []
    one = rw (eq-eqb (f row) q own) refl

-- and with one more of another
pub other_row : {X : Type 0} (f : X → ℕ) (q : ℕ) (rows : List X) (row : X) → (f row ≡ q → ⊥)
    → filter (λ r. f r == q) (rows ++ row ∷ []) ≡ filter (λ r. f r == q) rows
other_row {X} f q rows row other =
    filter-append (λ r. f r == q) rows (row ∷ []) ∙ ap (λ l. filter (λ r. f r == q) rows ++ l) none ∙ append-nil (filter (λ r. f r == q) rows)
  where
    none : filter (λ r. f r == q) (row ∷ []) ≡ []
    none = rw (ne_eqb (f row) q other) refl

pub present_push : {X : Type 0} (f : X → ℕ) (last from : ℕ) (rows : List X) (row : X) → f row ≡ last → 1 ≤ last
    → IsPresent f last from rows → IsPresent f last from (rows ++ row ∷ [])
present_push f last from rows row own begun p = record {
  within = omega (arith, p.within, length-append rows (row ∷ []));
  present = own_row f last rows row own ∙ ap (λ l. l ++ row ∷ []) p.present ∙ sym (drop-append-le from rows (row ∷ []) p.within);
  order = record {
    begun = all_push (λ r. 1 ≤ f r) rows row p.order.begun (omega (arith, own, begun));
    rising = all_pairs_push (λ a b. f a ≤ f b) rows row p.order.rising (λ k d lt. omega (arith, own, p.order.none_later k d lt));
    none_later = all_push (λ r. f r ≤ last) rows row p.order.none_later (omega (arith, own));
  };
}

-- a row of the last session says that there is one
pub begun_by : {X : Type 0} (f : X → ℕ) (last n : ℕ) (rows : List X) (row : X) → All (λ r. 1 ≤ f r) rows
    → slice_get (filter (λ r. f r == last) rows) n ≡ Some row → 1 ≤ last
begun_by {X} f last n [] row begun has = absurd (slice_get_nothing n has)
  where
    slice_get_nothing : (n : ℕ) → slice_get {X = X} [] n ≡ Some row → ⊥
    slice_get_nothing zero e = cc (e)
    slice_get_nothing (suc n) e = slice_get_nothing n e
begun_by {X} f last n (first ∷ rows) row begun has =
    at (f first == last) refl (begun_by f last n rows row (λ k d lt. begun (suc k) d (omega (arith, lt)))) has
  where
    at : (b : Bool) → (f first == last) ≡ b → (slice_get (filter (λ r. f r == last) rows) n ≡ Some row → 1 ≤ last)
        → slice_get (cond b (first ∷ filter (λ r. f r == last) rows) (filter (λ r. f r == last) rows)) n ≡ Some row → 1 ≤ last
    at true e rest got = subst (λ k. 1 ≤ k) (eqb-true (f first) last e) (begun 0 first (omega arith))
    at false e rest got = rest got

no_rows : {X : Type 0} (f : X → ℕ) (q : ℕ) (rows : List X) → All (λ r. f r < q) rows → filter (λ r. f r == q) rows ≡ []
no_rows f q [] before = refl
no_rows f q (row ∷ rows) before =
    rw (ne_eqb (f row) q (λ e. absurd (omega (arith, e, before 0 row (omega arith)))))
    (no_rows f q rows (λ k d lt. before (suc k) d (omega (arith, lt))))

pub present_begin : {X : Type 0} (f : X → ℕ) (last from : ℕ) (rows : List X)
    → IsPresent f last from rows → IsPresent f (last + 1) (length rows) rows
present_begin f last from rows p = record {
  within = omega arith;
  present = no_rows f (last + 1) rows (λ k d lt. omega (arith, p.order.none_later k d lt)) ∙ sym (drop_of_length-le rows (le_refl (length rows)));
  order = record { begun = p.order.begun; rising = p.order.rising; none_later = λ k d lt. omega (arith, p.order.none_later k d lt) };
}
