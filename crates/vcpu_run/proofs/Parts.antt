-- Lists made of parts: which rows of them pass a test.
use Rattle.std.proofs.Common.{◌≡◌, ◌∙◌, ◌⊎◌, inl, inr, ℕ, ◌+◌, ◌==◌, ◌&&◌, ◌<◌, ◌≤◌, Bool, true, false, cond, List, [], ◌∷◌, ◌++◌, Some, filter, slice_get, refl, sym, ap, ap₂, subst, arith, append-nil, zero, suc}
use Rattle.std.specs.List.{flat_map}
use Rattle.std.proofs.lemmas.Bool.Decides.{nat_tests}
use Rattle.std.proofs.lemmas.List.Elements.{filter-append}
use Rattle.vcpu_run.specs.Numbered.{numbered}
use Rattle.lan_script.proofs.Order.{Each, Ordered, each_append, each_weaker}
use Rattle.vcpu_run.proofs.Sole.{all_pass, none_passes}

-- what passes two tests passes one of those that pass the other
pub filter_both : {X : Type 0} (a b : X → Bool) (xs : List X) → filter (λ x. a x && b x) xs ≡ filter b (filter a xs)
filter_both a b [] = refl
filter_both a b (x ∷ xs) = at (a x) (filter_both a b xs)
  where
    at : (t : Bool) → filter (λ y. a y && b y) xs ≡ filter b (filter a xs)
        → cond (t && b x) (x ∷ filter (λ y. a y && b y) xs) (filter (λ y. a y && b y) xs) ≡ filter b (cond t (x ∷ filter a xs) (filter a xs))
    at true same = ap (λ rows. cond (b x) (x ∷ rows) rows) same
    at false same = same

-- x is an element
abbrev pub IsIn : {X : Type 0} → X → List X → Type 0
IsIn x [] = ⊥
IsIn x (y ∷ ys) = (x ≡ y) ⊎ IsIn x ys

pub each_in : {X : Type 0} (P : X → Type 0) (x : X) (xs : List X) → IsIn x xs → Each P xs → P x
each_in P x [] h all = absurd h
each_in P x (y ∷ ys) (inl e) all = subst P (sym e) all.0
each_in P x (y ∷ ys) (inr h) all = each_in P x ys h all.1

pub in_left : {X : Type 0} (x : X) (xs ys : List X) → IsIn x xs → IsIn x (xs ++ ys)
in_left x [] ys h = absurd h
in_left x (y ∷ xs) ys (inl e) = inl e
in_left x (y ∷ xs) ys (inr h) = inr (in_left x xs ys h)

pub in_right : {X : Type 0} (x : X) (xs ys : List X) → IsIn x ys → IsIn x (xs ++ ys)
in_right x [] ys h = h
in_right x (y ∷ xs) ys h = inr (in_right x xs ys h)

pub in_flat : {X Y : Type 0} (f : X → List Y) (x : X) (y : Y) (xs : List X) → IsIn x xs → IsIn y (f x) → IsIn y (flat_map f xs)
in_flat f x y [] h h' = absurd h
in_flat f x y (z ∷ xs) (inl e) h' = in_left y (f z) (flat_map f xs) (subst (λ w. IsIn y (f w)) e h')
in_flat f x y (z ∷ xs) (inr h) h' = in_right y (f z) (flat_map f xs) (in_flat f x y xs h h')

same_some : {X : Type 0} (x y : X) → Some y ≡ Some x → x ≡ y
same_some x y e = cc

pub in_slice : {X : Type 0} (xs : List X) (i : ℕ) (x : X) → slice_get xs i ≡ Some x → IsIn x xs
in_slice [] i x e = absurd (cc)
in_slice (y ∷ ys) zero x e = inl (same_some x y e)
in_slice (y ∷ ys) (suc i) x e = inr (in_slice ys i x e)

pub in_numbered : {X Row : Type 0} (make : ℕ → X → Row) (n i : ℕ) (xs : List X) (x : X) → slice_get xs i ≡ Some x → IsIn (make (n + i) x) (numbered make n xs)
in_numbered make n i [] x e = absurd (cc)
in_numbered make n zero (y ∷ ys) x e =
    let first : n + 0 ≡ n = omega arith in inl (ap₂ make first (same_some x y e))
in_numbered make n (suc i) (y ∷ ys) x e =
    let more : (n + 1) + i ≡ n + suc i = omega arith in
    inr (subst (λ k. IsIn (make k x) (numbered make (n + 1) ys)) more (in_numbered make (n + 1) i ys x e))

abbrev pub Told : {X Row : Type 0} → (Row → Bool) → (X → Bool) → (X → List Row) → List X → Type 0
Told test hits f xs = Each (λ x. Each (λ row. test row ≡ hits x) (f x)) xs

none_of : {X Row : Type 0} (test : Row → Bool) (hits : X → Bool) (f : X → List Row) (xs : List X) → Told test hits f xs
    → Each (λ x. hits x ≡ false) xs → Each (λ row. test row ≡ false) (flat_map f xs)
none_of test hits f [] told none = tt
none_of test hits f (x ∷ xs) told none =
    each_append (λ row. test row ≡ false) (f x) (flat_map f xs)
    (each_weaker (λ row. test row ≡ hits x) (λ row. test row ≡ false) (λ row e. e ∙ none.0) (f x) told.0)
    (none_of test hits f xs told.1 none.1)

not_both : (b : Bool) → b ≡ true → b ≡ false → ⊥
not_both b is other = cc

-- of parts of which at most one passes a test, the rows that pass are those of the part that does
pub found : {X Row : Type 0} (test : Row → Bool) (hits : X → Bool) (f : X → List Row) (x : X) → hits x ≡ true
    → (xs : List X) → IsIn x xs → Told test hits f xs → Ordered (λ a b. hits a ≡ true → hits b ≡ false) xs → filter test (flat_map f xs) ≡ f x
found test hits f x is [] h told apart = absurd h
found test hits f x is (y ∷ ys) (inl e) told apart =
    let own : hits y ≡ true = ap hits (sym e) ∙ is in
    let behind : Each (λ z. hits z ≡ false) ys = each_weaker (λ z. hits y ≡ true → hits z ≡ false) (λ z. hits z ≡ false) (λ z step. step own) ys apart.0 in
    filter-append test (f y) (flat_map f ys)
    ∙ ap₂ (λ a b. a ++ b)
    (all_pass test (f y) (each_weaker (λ row. test row ≡ hits y) (λ row. test row ≡ true) (λ row t. t ∙ own) (f y) told.0))
    (none_passes test (flat_map f ys) (none_of test hits f ys told.1 behind))
    ∙ append-nil (f y) ∙ ap f (sym e)
found {X} {Row} test hits f x is (y ∷ ys) (inr h) told apart =
    filter-append test (f y) (flat_map f ys) ∙ at (hits y) refl (found test hits f x is ys h told.1 apart.1)
  where
    at : (b : Bool) → hits y ≡ b → filter test (flat_map f ys) ≡ f x → filter test (f y) ++ filter test (flat_map f ys) ≡ f x
    at true own rest = absurd (not_both (hits x) is (each_in (λ z. hits y ≡ true → hits z ≡ false) x ys h apart.0 own))
    at false own rest =
        ap (λ a. a ++ filter test (flat_map f ys))
        (none_passes test (f y) (each_weaker (λ row. test row ≡ hits y) (λ row. test row ≡ false) (λ row t. t ∙ own) (f y) told.0)) ∙ rest

-- parts by number, of which only the one of this number passes a test
pub record AreBlocks {Row : Type 0} (test : Row → Bool) (f : ℕ → List Row) (from : ℕ → ℕ → List Row) (page : ℕ) : Type 0 where
  pub end : (q : ℕ) → from q 0 ≡ []
  pub next : (q n : ℕ) → from q (suc n) ≡ f q ++ from (q + 1) n
  pub own : Each (λ row. test row ≡ true) (f page)
  pub other : (q : ℕ) → (q ≡ page → ⊥) → Each (λ row. test row ≡ false) (f q)

behind_it : {Row : Type 0} (test : Row → Bool) (f : ℕ → List Row) (from : ℕ → ℕ → List Row) (page : ℕ) → AreBlocks test f from page
    → (n q : ℕ) → page < q → Each (λ row. test row ≡ false) (from q n)
behind_it test f from page are zero q less = subst (Each (λ row. test row ≡ false)) (sym (are.end q)) tt
behind_it test f from page are (suc n) q less =
    subst (Each (λ row. test row ≡ false)) (sym (are.next q n))
    (each_append (λ row. test row ≡ false) (f q) (from (q + 1) n) (are.other q (λ e. omega (arith, less, e)))
    (behind_it test f from page are n (q + 1) (omega (arith, less))))

is_it : (a b : ℕ) → (a == b) ≡ true → a ≡ b
is_it a b is = grind (arith, nat_tests)

is_other : (a b : ℕ) → (a == b) ≡ false → a ≡ b → ⊥
is_other a b is e = grind (arith, nat_tests)

pub only_block : {Row : Type 0} (test : Row → Bool) (f : ℕ → List Row) (from : ℕ → ℕ → List Row) (page : ℕ) → AreBlocks test f from page
    → (n q : ℕ) → q ≤ page → (q + n ≤ page → f page ≡ []) → filter test (from q n) ≡ f page
only_block test f from page are zero q reached none = ap (filter test) (are.end q) ∙ sym (none (omega (arith, reached)))
only_block {Row} test f from page are (suc n) q reached none =
    ap (filter test) (are.next q n) ∙ filter-append test (f q) (from (q + 1) n)
    ∙ at (q == page) refl (λ less. only_block test f from page are n (q + 1) less (λ past. none (omega (arith, past))))
  where
    at : (b : Bool) → (q == page) ≡ b → (q + 1 ≤ page → filter test (from (q + 1) n) ≡ f page) → filter test (f q) ++ filter test (from (q + 1) n) ≡ f page
    at true is rest =
        let e : q ≡ page = is_it q page is in
        ap₂ (λ a b. a ++ b) (ap (λ k. filter test (f k)) e ∙ all_pass test (f page) are.own)
        (none_passes test (from (q + 1) n) (behind_it test f from page are n (q + 1) (omega (arith, e))))
        ∙ append-nil (f page)
    at false is rest =
        let apart : q ≡ page → ⊥ = is_other q page is in
        ap (λ a. a ++ filter test (from (q + 1) n)) (none_passes test (f q) (are.other q apart))
        ∙ rest (omega (arith, reached, apart))
