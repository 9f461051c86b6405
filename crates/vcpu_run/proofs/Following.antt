-- Rows in the order of their sessions, of which those of earlier sessions were taken off the front.
use Rattle.std.proofs.Common.{◌≡◌, ◌∙◌, ℕ, ◌+◌, ◌==◌, ◌<◌, ◌≤◌, Bool, true, false, cond, List, [], ◌∷◌, ◌++◌, IfSome, All, length, take, drop, filter, slice_get, get_or, refl, sym, ap, subst, arith, zero, suc}
use Rattle.std.specs.List.{AllPairs}
use Rattle.std.proofs.lemmas.Bool.Decides.{nat_tests}
use Rattle.std.proofs.lemmas.List.{append-nil, take-append-drop}
use Rattle.std.proofs.lemmas.List.Elements.{filter-append, All-head, All-tail}
use Rattle.lan_script.proofs.Order.{Each, Ordered, each_weaker}

-- the rows behind session q, in their order: of each later session they have all
pub record Follows {Row : Type 0} (key : Row → ℕ) (q : ℕ) (all rest : List Row) : Type 0 where
  pub order : Ordered (λ a b. key a ≤ key b) rest
  pub same : (r : ℕ) → q < r → filter (λ row. key row == r) rest ≡ filter (λ row. key row == r) all

none_pass : {Row : Type 0} (p : Row → Bool) (rows : List Row) → Each (λ row. p row ≡ false) rows → filter p rows ≡ []
none_pass p [] all = refl
none_pass p (row ∷ rows) all = at (p row) all.0 (none_pass p rows all.1)
  where
    at : (b : Bool) → b ≡ false → filter p rows ≡ [] → cond b (row ∷ filter p rows) (filter p rows) ≡ []
    at true e none = absurd (cc)
    at false e none = none

later_rows : {Row : Type 0} (key : Row → ℕ) (q : ℕ) (rows : List Row) (n : ℕ) → Ordered (λ a b. key a ≤ key b) rows
    → IfSome (slice_get rows n) (λ row. q < key row) → Each (λ row. q < key row) (drop n rows)
later_rows key q [] zero order first = tt
later_rows key q [] (suc n) order first = tt
later_rows key q (row ∷ rows) zero order first =
    (first, each_weaker (λ other. key row ≤ key other) (λ other. q < key other) (λ other h. omega (arith, first, h)) rows order.0)
later_rows key q (row ∷ rows) (suc n) order first = later_rows key q rows n order.1 first

drop_order : {Row : Type 0} (before : Row → Row → Type 0) (rows : List Row) (n : ℕ) → Ordered before rows → Ordered before (drop n rows)
drop_order before [] zero order = tt
drop_order before [] (suc n) order = tt
drop_order before (row ∷ rows) zero order = order
drop_order before (row ∷ rows) (suc n) order = drop_order before rows n order.1

pub each_from_all : {Row : Type 0} (P : Row → Type 0) (rows : List Row) → All P rows → Each P rows
each_from_all P [] all = tt
each_from_all P (row ∷ rows) all = (All-head P row rows all, each_from_all P rows (All-tail P row rows all))

not_one : (k r : ℕ) → k < r → (k == r) ≡ false
not_one k r less = grind (arith, nat_tests)

not_other : (k r : ℕ) → r < k → (k == r) ≡ false
not_other k r less = grind (arith, nat_tests)

-- the rows of the next session are those before the first of a later one; the rest follow it
pub this_session : {Row : Type 0} (key : Row → ℕ) (q : ℕ) (all rest : List Row) (n : ℕ) → Follows key q all rest
    → IfSome (slice_get rest n) (λ row. q + 1 < key row)
    → filter (λ row. key row == q + 1) (take n rest) ≡ filter (λ row. key row == q + 1) all
this_session {Row} key q all rest n follows first =
    let p : Row → Bool = λ row. key row == q + 1 in
    let none : filter p (drop n rest) ≡ [] = none_pass p (drop n rest)
    (each_weaker (λ row. q + 1 < key row) (λ row. p row ≡ false) (λ row h. not_other (key row) (q + 1) h) (drop n rest)
    (later_rows key (q + 1) rest n follows.order first)) in
    sym (append-nil (filter p (take n rest)))
    ∙ subst (λ rows. filter p (take n rest) ++ rows ≡ filter p all) none
    (sym (filter-append p (take n rest) (drop n rest)) ∙ (ap (filter p) (take-append-drop n rest) ∙ follows.same (q + 1) (omega arith)))

pub goes_on : {Row : Type 0} (key : Row → ℕ) (q : ℕ) (all rest : List Row) (n : ℕ) → Follows key q all rest
    → All (λ row. key row ≤ q + 1) (take n rest) → Follows key (q + 1) all (drop n rest)
goes_on {Row} key q all rest n follows before = record {
  order = drop_order (λ a b. key a ≤ key b) rest n follows.order;
  same = λ r less.
      let p : Row → Bool = λ row. key row == r in
      let none : filter p (take n rest) ≡ [] = none_pass p (take n rest)
      (each_weaker (λ row. key row ≤ q + 1) (λ row. p row ≡ false) (λ row h. not_one (key row) r (omega (arith, h, less))) (take n rest)
      (each_from_all (λ row. key row ≤ q + 1) (take n rest) before)) in
      subst (λ rows. rows ++ filter p (drop n rest) ≡ filter p all) none
      (sym (filter-append p (take n rest) (drop n rest)) ∙ (ap (filter p) (take-append-drop n rest) ∙ follows.same r (omega (arith, less))));
}

each_at : {Row : Type 0} (P : Row → Type 0) (rows : List Row) → ((k : ℕ) (d : Row) → k < length rows → P (get_or rows k d)) → Each P rows
each_at P [] h = tt
each_at P (row ∷ rows) h = (h 0 row (omega arith), each_at P rows (λ k d less. h (suc k) d (omega (arith, less))))

pub ordered_from : {Row : Type 0} (before : Row → Row → Type 0) (rows : List Row) → AllPairs before rows → Ordered before rows
ordered_from before [] pairs = tt
ordered_from {Row} before (row ∷ rows) pairs = (each_at (before row) rows (λ k d less. pairs 0 (suc k) d (omega arith) (omega (arith, less))), ordered_from before rows (λ i j d less inside. pairs (suc i) (suc j) d (omega (arith, less)) (omega (arith, inside))))

-- all rows follow session 0
pub all_follow : {Row : Type 0} (key : Row → ℕ) (rows : List Row) → AllPairs (λ a b. key a ≤ key b) rows → Follows key 0 rows rows
all_follow key rows pairs = record { order = ordered_from (λ a b. key a ≤ key b) rows pairs; same = λ r less. refl }
