-- Lists of tags: one tag taken out, and how often a tag stands in a list.
use Rattle.std.proofs.Common.{◌≡◌, ℕ, zero, suc, ◌+◌, ◌<◌, Bool, true, false, cond, List, [], ◌∷◌, ◌++◌, length, get_or, remove, Contains, count_by, ◌==◌, refl, sym, ◌∙◌, ap, arith, eq-eqb, Option, Some, None, IfSome, position}
use Rattle.std.proofs.lemmas.Bool.Decides.{nat_tests}
use Rattle.std.proofs.lemmas.List.Recursion.{is_count_by}
use Rattle.std.proofs.lemmas.List.Quantifiers.{position-Some}
use Rattle.srp_credits.specs.History.{without}

-- taking out the first place that holds the tag
remove_first : (tag : ℕ) (xs : List ℕ) (i : ℕ) → i < length xs → (get_or xs i 0 == tag) ≡ true → ((k : ℕ) → k < i → (get_or xs k 0 == tag) ≡ false) → remove xs i ≡ without tag xs
remove_first tag [] i h e n = absurd (omega arith)
remove_first tag (x ∷ xs) zero h e n = rw e refl
remove_first tag (x ∷ xs) (suc i) h e n =
    let other : (x == tag) ≡ false = n 0 (omega arith) in
    rw other (ap (λ (ys : List ℕ). x ∷ ys) (remove_first tag xs i (omega arith) e (λ k l. n (suc k) (omega arith))))

pub rest_of : (tag : ℕ) (xs : List ℕ) (r : Option ℕ) → r ≡ position (λ x. x == tag) xs → IfSome r (λ k. remove xs k ≡ without tag xs)
rest_of tag xs None e = tt
rest_of tag xs (Some k) e =
    let at = position-Some (λ x. x == tag) xs k 0 (sym e) in
    remove_first tag xs k at.0 at.1 at.2

-- taking out one of a list's elements, at its head or behind it
length_one_less : (b : Bool) (x : ℕ) (xs rest : List ℕ) → length rest + 1 ≡ length xs → length (cond b xs (x ∷ rest)) + 1 ≡ length (x ∷ xs)
length_one_less true x xs rest e = omega arith
length_one_less false x xs rest e = omega (arith, e)

length-without_at : (tag : ℕ) (xs : List ℕ) (k : ℕ) → k < length xs → get_or xs k tag ≡ tag → length (without tag xs) + 1 ≡ length xs
length-without_at tag [] k h e = absurd (omega arith)
length-without_at tag (x ∷ xs) zero h e = rw (eq-eqb x tag e) (omega arith)
length-without_at tag (x ∷ xs) (suc k) h e =
    length_one_less (x == tag) x xs (without tag xs) (length-without_at tag xs k (omega arith) e)

pub length-without : (tag : ℕ) (xs : List ℕ) → Contains xs tag → length (without tag xs) + 1 ≡ length xs
length-without tag xs h = length-without_at tag xs h.0 h.1 h.2

-- how often a tag stands in a list
abbrev times : ℕ → List ℕ → ℕ
times t [] = 0
times t (x ∷ xs) = cond (x == t) (1 + times t xs) (times t xs)

times-is : (t : ℕ) (xs : List ℕ) → times t xs ≡ count_by (λ x. x == t) xs
times-is t xs = is_count_by (times t) (λ x. x == t) refl (λ x xs. refl) xs

times-push : (t : ℕ) (xs : List ℕ) (y : ℕ) → times t (xs ++ y ∷ []) ≡ times t xs + cond (y == t) 1 0
times-push t [] y = grind (arith, nat_tests)
times-push t (x ∷ xs) y = grind (arith, nat_tests, times-push t xs y)

times-without : (t tag : ℕ) (xs : List ℕ) (k : ℕ) → k < length xs → get_or xs k tag ≡ tag → times t (without tag xs) + cond (tag == t) 1 0 ≡ times t xs
times-without t tag [] k h e = absurd (omega arith)
times-without t tag (x ∷ xs) zero h e = rw (eq-eqb x tag e) (grind (arith, nat_tests))
times-without t tag (x ∷ xs) (suc k) h e = one_less (x == tag) refl (times-without t tag xs k (omega arith) e)
  where
    one_less : (b : Bool) → (x == tag) ≡ b → times t (without tag xs) + cond (tag == t) 1 0 ≡ times t xs → times t (cond b xs (x ∷ without tag xs)) + cond (tag == t) 1 0 ≡ times t (x ∷ xs)
    one_less true s r = grind (arith, nat_tests)
    one_less false s r = grind (arith, nat_tests)

times-absent : (t : ℕ) (xs : List ℕ) → ((k : ℕ) → k < length xs → get_or xs k t ≡ t → ⊥) → times t xs ≡ 0
times-absent t [] n = refl
times-absent t (x ∷ xs) n =
    let other : x ≡ t → ⊥ = n 0 (omega arith) in
    let rest : times t xs ≡ 0 = times-absent t xs (λ k l e. n (suc k) (omega arith) e) in
    grind (arith, nat_tests)

pub count-push : (t : ℕ) (xs : List ℕ) (y : ℕ) → count_by (λ x. x == t) (xs ++ y ∷ []) ≡ count_by (λ x. x == t) xs + cond (y == t) 1 0
count-push t xs y = sym (times-is t (xs ++ y ∷ [])) ∙ times-push t xs y ∙ ap (λ (n : ℕ). n + cond (y == t) 1 0) (times-is t xs)

pub count-without : (t tag : ℕ) (xs : List ℕ) → Contains xs tag → count_by (λ x. x == t) (without tag xs) + cond (tag == t) 1 0 ≡ count_by (λ x. x == t) xs
count-without t tag xs h =
    omega (arith, times-is t xs, times-is t (without tag xs), times-without t tag xs h.0 h.1 h.2)

pub count-absent : (t : ℕ) (xs : List ℕ) → (¬ Contains xs t) → count_by (λ x. x == t) xs ≡ 0
count-absent t xs n = sym (times-is t xs) ∙ times-absent t xs (λ k l e. n (k, l, e))
