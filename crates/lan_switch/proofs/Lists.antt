-- Lists that are the same from a place on, and a change at that place.
use Rattle.std.proofs.Common.{◌≡◌, ℕ, zero, suc, add-one, ◌+◌, ◌≤◌, arith, drop, set, take, Option, Some, None, slice_get, length, List, [], ◌∷◌, ◌++◌, refl, sym, ◌∙◌, ap}

none_is : {X : Type 0} (x : X) → None ≡ Some x → ⊥
none_is x e = cc (e)

one_is : {X : Type 0} (x y : X) → Some x ≡ Some y → x ≡ y
one_is x y e = cc (e)

-- what stands at a place is the first of what lies from there on
first_from : {X : Type 0} (p : ℕ) (l : List X) → slice_get (drop p l) 0 ≡ slice_get l p
first_from zero l = refl
first_from (suc p) [] = refl
first_from (suc p) (x ∷ l) = first_from p l

pub get_later : {X : Type 0} (p : ℕ) (a b : List X) → drop p a ≡ drop p b → slice_get a p ≡ slice_get b p
get_later p a b e = sym (first_from p a) ∙ ap (λ l. slice_get l 0) e ∙ first_from p b

-- what lies behind a place is all but the first of what lies from there on
rest_from : {X : Type 0} (p : ℕ) (l : List X) → drop 1 (drop p l) ≡ drop (suc p) l
rest_from zero l = refl
rest_from (suc p) [] = refl
rest_from (suc p) (x ∷ l) = rest_from p l

pub drop_later : {X : Type 0} (p : ℕ) (a b : List X) → drop p a ≡ drop p b → drop (p + 1) a ≡ drop (p + 1) b
drop_later p a b e = rw add-one (sym (rest_from p a) ∙ ap (λ l. drop 1 l) e ∙ rest_from p b)

-- a list up to a place, with what stands there
take_with : {X : Type 0} (p : ℕ) (a : List X) (s : X) → slice_get a p ≡ Some s → take (suc p) a ≡ take p a ++ s ∷ []
take_with p [] s shown = absurd (none_is s shown)
take_with zero (x ∷ a) s shown = ap (λ y. y ∷ []) (one_is x s shown)
take_with (suc p) (x ∷ a) s shown = ap (λ l. x ∷ l) (take_with p a s shown)

pub take_here : {X : Type 0} (p : ℕ) (a : List X) (s : X) → slice_get a p ≡ Some s → take (p + 1) a ≡ take p a ++ s ∷ []
take_here p a s shown = rw add-one (take_with p a s shown)

-- the same where what stands there is changed
take_changed : {X : Type 0} (p : ℕ) (a : List X) (s t : X) → slice_get a p ≡ Some s → take (suc p) (set a p t) ≡ take p a ++ t ∷ []
take_changed p [] s t shown = absurd (none_is s shown)
take_changed zero (x ∷ a) s t shown = refl
take_changed (suc p) (x ∷ a) s t shown = ap (λ l. x ∷ l) (take_changed p a s t shown)

pub take_set : {X : Type 0} (p : ℕ) (a : List X) (s t : X) → slice_get a p ≡ Some s → take (p + 1) (set a p t) ≡ take p a ++ t ∷ []
take_set p a s t shown = rw add-one (take_changed p a s t shown)

drop_changed : {X : Type 0} (p : ℕ) (a : List X) (t : X) → drop (suc p) (set a p t) ≡ drop (suc p) a
drop_changed p [] t = refl
drop_changed zero (x ∷ a) t = refl
drop_changed (suc p) (x ∷ a) t = drop_changed p a t

pub drop_set : {X : Type 0} (p : ℕ) (a : List X) (t : X) → drop (p + 1) (set a p t) ≡ drop (p + 1) a
drop_set p a t = rw add-one (drop_changed p a t)

-- a list is what lies up to a place, what stands there, and what lies behind
parts_with : {X : Type 0} (p : ℕ) (a : List X) (s : X) → slice_get a p ≡ Some s → a ≡ take p a ++ s ∷ drop (suc p) a
parts_with p [] s shown = absurd (none_is s shown)
parts_with zero (x ∷ a) s shown = ap (λ y. y ∷ a) (one_is x s shown)
parts_with (suc p) (x ∷ a) s shown = ap (λ l. x ∷ l) (parts_with p a s shown)

pub parts_here : {X : Type 0} (p : ℕ) (a : List X) (s : X) → slice_get a p ≡ Some s → a ≡ take p a ++ s ∷ drop (p + 1) a
parts_here p a s shown = rw add-one (parts_with p a s shown)

changed_with : {X : Type 0} (p : ℕ) (a : List X) (s t : X) → slice_get a p ≡ Some s → set a p t ≡ take p a ++ t ∷ drop (suc p) a
changed_with p [] s t shown = absurd (none_is s shown)
changed_with zero (x ∷ a) s t shown = refl
changed_with (suc p) (x ∷ a) s t shown = ap (λ l. x ∷ l) (changed_with p a s t shown)

pub changed_here : {X : Type 0} (p : ℕ) (a : List X) (s t : X) → slice_get a p ≡ Some s → set a p t ≡ take p a ++ t ∷ drop (p + 1) a
changed_here p a s t shown = rw add-one (changed_with p a s t shown)

-- what stands in the front of a list stands in it at the same place, which lies before its end
pub get_front : {X : Type 0} (p k : ℕ) (a : List X) (s : X) → slice_get (take p a) k ≡ Some s → (suc k ≤ p) × (slice_get a k ≡ Some s)
get_front zero k a s shown = absurd (none_is s shown)
get_front (suc p) k [] s shown = absurd (none_is s shown)
get_front (suc p) zero (x ∷ a) s shown = (omega arith, shown)
get_front (suc p) (suc k) (x ∷ a) s shown =
    let h = get_front p k a s shown in
    (omega (arith, h.0), h.1)

-- a front that is as long as this is all of it
front_whole : {X : Type 0} (xs ys : List X) → take (length xs) (xs ++ ys) ≡ xs
front_whole [] ys = refl
front_whole (x ∷ xs) ys = ap (λ l. x ∷ l) (front_whole xs ys)

pub take_whole_front : {X : Type 0} (n : ℕ) (xs ys : List X) → length xs ≡ n → take n (xs ++ ys) ≡ xs
take_whole_front n xs ys e = ap (λ k. take k (xs ++ ys)) (sym e) ∙ front_whole xs ys
