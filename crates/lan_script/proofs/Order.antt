-- Rows of units in the order of their names stand in order.
use Rattle.std.proofs.Common.{◌≡◌, List, [], ◌∷◌, ◌++◌, sym, subst}
use Rattle.std.specs.List.{flat_map}
use Rattle.vio_num.specs.declared.names.UnitId.{UnitId}
use Rattle.vio_trace.specs.Form.{Ascend, UnitBefore}

-- what is so of each row, and of each row and all later ones, by recursion on the list
abbrev pub Each : {Row : Type 0} → (Row → Type 0) → List Row → Type 0
Each P [] = Unit {0}
Each P (row ∷ rows) = P row × Each P rows

abbrev pub Ordered : {Row : Type 0} → (Row → Row → Type 0) → List Row → Type 0
Ordered before [] = Unit {0}
Ordered before (row ∷ rows) = Each (before row) rows × Ordered before rows

pub each_weaker : {Row : Type 0} (P Q : Row → Type 0) → ((row : Row) → P row → Q row) → (rows : List Row) → Each P rows → Each Q rows
each_weaker P Q step [] all = tt
each_weaker P Q step (row ∷ rows) all = (step row all.0, each_weaker P Q step rows all.1)

pub each_append : {Row : Type 0} (P : Row → Type 0) (xs ys : List Row) → Each P xs → Each P ys → Each P (xs ++ ys)
each_append P [] ys hx hy = hy
each_append P (x ∷ xs) ys hx hy = (hx.0, each_append P xs ys hx.1 hy)

pub each_flat : {X Row : Type 0} (P : Row → Type 0) (f : X → List Row) (xs : List X) → Each (λ x. Each P (f x)) xs → Each P (flat_map f xs)
each_flat P f [] all = tt
each_flat P f (x ∷ xs) all = each_append P (f x) (flat_map f xs) all.0 (each_flat P f xs all.1)

-- rows behind others, each of which stands before each of them
pub ordered_append : {Row : Type 0} (before : Row → Row → Type 0) (xs ys : List Row) → Ordered before xs → Ordered before ys
    → Each (λ x. Each (before x) ys) xs → Ordered before (xs ++ ys)
ordered_append before [] ys hx hy between = hy
ordered_append before (x ∷ xs) ys hx hy between =
    (each_append (before x) xs ys hx.0 between.0, ordered_append before xs ys hx.1 hy between.1)

-- in order, each row stands before the next
pub ascends : {Row : Type 0} (before : Row → Row → Type 0) (rows : List Row) → Ordered before rows → Ascend before rows
ascends before [] rows_are = tt
ascends before (row ∷ []) rows_are = tt
ascends before (row ∷ next ∷ rows) rows_are = (rows_are.0.0, ascends before (next ∷ rows) rows_are.1)

-- where those of an earlier unit stand before those of a later one, the rows of units in order are in order
pub ordered_flat : {X Row : Type 0} (name : X → UnitId) (unit : Row → UnitId) (before : Row → Row → Type 0)
    → ((a b : Row) → UnitBefore (unit a) (unit b) → before a b)
    → (f : X → List Row) (xs : List X) → Each (λ x. Each (λ row. unit row ≡ name x) (f x)) xs → Each (λ x. Ordered before (f x)) xs
    → Ordered (λ a b. UnitBefore (name a) (name b)) xs → Ordered before (flat_map f xs)
ordered_flat name unit before apart f [] named own order = tt
ordered_flat {X} {Row} name unit before apart f (x ∷ xs) named own order =
    ordered_append before (f x) (flat_map f xs) own.0 (ordered_flat name unit before apart f xs named.1 own.1 order.1)
    (each_weaker (λ row. unit row ≡ name x) (λ row. Each (before row) (flat_map f xs)) between (f x) named.0)
  where
    behind : (row : Row) → unit row ≡ name x → (ys : List X) → Each (λ y. UnitBefore (name x) (name y)) ys
        → Each (λ y. Each (λ other. unit other ≡ name y) (f y)) ys → Each (before row) (flat_map f ys)
    behind row is [] later there = tt
    behind row is (y ∷ ys) later there =
        each_append (before row) (f y) (flat_map f ys)
        (each_weaker (λ other. unit other ≡ name y) (before row)
        (λ other e. apart row other (subst (λ u. UnitBefore u (unit other)) (sym is) (subst (λ u. UnitBefore (name x) u) (sym e) later.0))) (f y) there.0)
        (behind row is ys later.1 there.1)

    between : (row : Row) → unit row ≡ name x → Each (before row) (flat_map f xs)
    between row is = behind row is xs order.0 named.1
