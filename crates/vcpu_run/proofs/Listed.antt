-- What is so of the elements of a list once one is replaced, or each went on.
use Rattle.std.proofs.Common.{◌≡◌, ◌≢◌, ℕ, zero, suc, ◌<◌, List, [], ◌∷◌, ◌++◌, Option, Some, None, IfSome, IsSomeAnd, length, map, slice_index_or, refl, sym, ◌∙◌, subst, arith}
use Rattle.std.specs.List.{slice_get, slice_set}
use Rattle.std.specs.Option.{option_map}
use Rattle.std.proofs.lemmas.Option.{slice_get_within, slice_get-get_or, slice_get-map}

pub some_is : {X : Type 0} (x y : X) → Some x ≡ Some y → x ≡ y
some_is x y h = cc

-- what an option that holds something holds
pub held : {X : Type 0} (P : X → Type 0) (o : Option X) → IsSomeAnd o P → (x : X) × (o ≡ Some x) × P x
held P (Some x) h = (x, refl, h)
held P None h = absurd h

pub held_is : {X : Type 0} (P : X → Type 0) (o : Option X) (x : X) → o ≡ Some x → IsSomeAnd o P → P x
held_is P (Some y) x e h = subst P (some_is y x e) h
held_is P None x e h = absurd h

pub held_then : {X : Type 0} (P Q : X → Type 0) (o : Option X) → ((x : X) → P x → Q x) → IsSomeAnd o P → IsSomeAnd o Q
held_then P Q (Some x) f h = f x h
held_then P Q None f h = absurd h

pub is_held : {X : Type 0} (P : X → Type 0) (o : Option X) (x : X) → o ≡ Some x → P x → IsSomeAnd o P
is_held P (Some y) x e h = subst P (sym (some_is y x e)) h
is_held P None x e h = cc

pred_is : (j i : ℕ) → suc j ≡ suc i → j ≡ i
pred_is j i e = cc

pub each_set : {X : Type 0} (Q : ℕ → X → Type 0) (xs : List X) (i : ℕ) (y : X)
    → ((j : ℕ) (x : X) → slice_get xs j ≡ Some x → j ≢ i → Q j x) → Q i y
    → (j : ℕ) (x : X) → slice_get (slice_set xs i y) j ≡ Some x → Q j x
each_set Q [] i y others here j x h = cc
each_set Q (z ∷ zs) zero y others here zero x h = subst (Q 0) (some_is y x h) here
each_set Q (z ∷ zs) zero y others here (suc j) x h = others (suc j) x h (λ e. cc)
each_set Q (z ∷ zs) (suc i) y others here zero x h = others zero x h (λ e. cc)
each_set Q (z ∷ zs) (suc i) y others here (suc j) x h =
    each_set (λ k. Q (suc k)) zs i y (λ k w g apart. others (suc k) w g (λ e. apart (pred_is k i e))) here j x h

-- each element went on where the one replaced did
pub each_on : {X : Type 0} (R : X → X → Type 0) (xs : List X) (i : ℕ) (old new : X) → ((x : X) → R x x) → slice_get xs i ≡ Some old → R old new
    → (j : ℕ) (x : X) → slice_get xs j ≡ Some x → IsSomeAnd (slice_get (slice_set xs i new) j) (R x)
each_on R [] i old new same found on j x h = cc
each_on R (z ∷ zs) zero old new same found on zero x h = subst (λ w. R w new) (some_is old x (sym found ∙ h)) on
each_on R (z ∷ zs) zero old new same found on (suc j) x h = is_held (R x) (slice_get zs j) x h (same x)
each_on R (z ∷ zs) (suc i) old new same found on zero x h = subst (R x) (sym (some_is z x h)) (same x)
each_on R (z ∷ zs) (suc i) old new same found on (suc j) x h = each_on R zs i old new same found on j x h

-- each element of a list of the same length comes from one before
pub came_from : {X : Type 0} (R : X → X → Type 0) (old new : List X) → length new ≡ length old
    → ((k : ℕ) (x : X) → slice_get old k ≡ Some x → IsSomeAnd (slice_get new k) (R x))
    → (k : ℕ) (y : X) → slice_get new k ≡ Some y → (x : X) × (slice_get old k ≡ Some x) × R x y
came_from R old new count each k y found =
    let within : k < length new = slice_get_within new k y found in
    let less : k < length old = omega arith in
    let x = slice_index_or old k y in
    let there : slice_get old k ≡ Some x = slice_get-get_or old k y less in
    (x, there, held_is (R x) (slice_get new k) y found (each k x there))

-- one step after the other
pub each_then : {X : Type 0} (R : X → X → Type 0) (a b c : List X) → ((x y z : X) → R x y → R y z → R x z)
    → ((k : ℕ) (x : X) → slice_get a k ≡ Some x → IsSomeAnd (slice_get b k) (R x))
    → ((k : ℕ) (x : X) → slice_get b k ≡ Some x → IsSomeAnd (slice_get c k) (R x))
    → (k : ℕ) (x : X) → slice_get a k ≡ Some x → IsSomeAnd (slice_get c k) (R x)
each_then R a b c join one two k x found =
    let mid = held (R x) (slice_get b k) (one k x found) in
    held_then (R mid.0) (R x) (slice_get c k) (λ z on. join x mid.0 z mid.2 on) (two k mid.0 mid.1)

pub each_same : {X : Type 0} (R : X → X → Type 0) (xs : List X) → ((x : X) → R x x)
    → (k : ℕ) (x : X) → slice_get xs k ≡ Some x → IsSomeAnd (slice_get xs k) (R x)
each_same R xs same k x found = is_held (R x) (slice_get xs k) x found (same x)

-- what is so of each element is so of each once one more is pushed
pub each_pushed : {X : Type 0} (Q : ℕ → X → Type 0) (xs : List X) (y : X) → ((k : ℕ) (x : X) → slice_get xs k ≡ Some x → Q k x) → Q (length xs) y
    → (k : ℕ) (x : X) → slice_get (xs ++ y ∷ []) k ≡ Some x → Q k x
each_pushed Q [] y all here zero x found = subst (Q 0) (some_is y x found) here
each_pushed Q [] y all here (suc k) x found = cc
each_pushed Q (z ∷ zs) y all here zero x found = all zero x found
each_pushed Q (z ∷ zs) y all here (suc k) x found = each_pushed (λ k. Q (suc k)) zs y (λ k x there. all (suc k) x there) here k x found

-- the element that a mapped list has comes from one of the list
mapped_one : {X Y : Type 0} (f : X → Y) (o : Option X) (y : Y) → option_map f o ≡ Some y → (x : X) × (o ≡ Some x) × (f x ≡ y)
mapped_one f (Some x) y e = (x, refl, some_is (f x) y e)
mapped_one f None y e = cc

pub mapped : {X Y : Type 0} (f : X → Y) (xs : List X) (i : ℕ) (y : Y) → slice_get (map f xs) i ≡ Some y → (x : X) × (slice_get xs i ≡ Some x) × (f x ≡ y)
mapped f xs i y e = mapped_one f (slice_get xs i) y (sym (slice_get-map f xs i) ∙ e)

pub there_is : {X : Type 0} (xs : List X) (k : ℕ) → k < length xs → (x : X) × (slice_get xs k ≡ Some x)
there_is [] k less = absurd (omega arith)
there_is (x ∷ xs) zero less = (x, refl)
there_is (x ∷ xs) (suc k) less = there_is xs k (omega arith)

-- what is held is so where there is something
pub if_held : {X : Type 0} (P Q : X → Type 0) (o : Option X) → ((x : X) → P x → Q x) → IsSomeAnd o P → IfSome o Q
if_held P Q (Some x) f h = f x h
if_held P Q None f h = absurd h
