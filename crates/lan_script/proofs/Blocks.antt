-- Rows that stand in blocks, one block a unit: what each block has, and what a filter leaves of all.
use Rattle.std.proofs.Common.{◌≡◌, ◌<◌, ◌==◌, ◌&&◌, ◌⊎◌, inl, inr, arith, Bool, true, false, cond, All, List, [], ◌∷◌, ◌++◌, append-nil, IsSome, filter, map, refl, sym, ◌∙◌, ap, subst}
use Rattle.std.specs.List.{flat_map}
use Rattle.std.proofs.lemmas.Bool.{cases_order, eq-eqb}
use Rattle.std.proofs.lemmas.List.Elements.{filter-append, All-cons, All-head, All-nil, All-tail}
use Rattle.vio_num.specs.declared.names.UnitId.{UnitId}
use Rattle.vio_trace.specs.Form.{UnitBefore}
use Rattle.lan_switch.specs.Switch.{AreAscending, order_of, same_unit}
use Rattle.lan_script.specs.declared.seat.PortSeat.{PortSeat}
use Rattle.lan_script.specs.Seats.{seat_at}
use Rattle.lan_script.proofs.Order.{Each, Ordered, each_append, each_weaker}
use Rattle.lan_script.proofs.Placing.{by_bool, one_unit}

pub all_from_each : {X : Type 0} (P : X → Type 0) (xs : List X) → Each P xs → All P xs
all_from_each P [] all = All-nil P
all_from_each P (x ∷ xs) all = All-cons P x xs all.0 (all_from_each P xs all.1)

pub each_from_all : {X : Type 0} (P : X → Type 0) (xs : List X) → All P xs → Each P xs
each_from_all P [] all = tt
each_from_all P (x ∷ xs) all = (All-head P x xs all, each_from_all P xs (All-tail P x xs all))

pub both_each : {X : Type 0} (P Q R : X → Type 0) (xs : List X) → ((x : X) → P x → Q x → R x) → Each P xs → Each Q xs → Each R xs
both_each P Q R [] step p q = tt
both_each P Q R (x ∷ xs) step p q = (step x p.0 q.0, both_each P Q R xs step p.1 q.1)

pub all_pass : {Row : Type 0} (test : Row → Bool) (rows : List Row) → Each (λ row. test row ≡ true) rows → filter test rows ≡ rows
all_pass test [] all = refl
all_pass test (row ∷ rows) all = at (test row) all.0 (all_pass test rows all.1)
  where
    at : (b : Bool) → b ≡ true → filter test rows ≡ rows → cond b (row ∷ filter test rows) (filter test rows) ≡ row ∷ rows
    at true e same = ap (λ more. row ∷ more) same
    at false e same = absurd (cc (e))

pub none_passes : {Row : Type 0} (test : Row → Bool) (rows : List Row) → Each (λ row. test row ≡ false) rows → filter test rows ≡ []
none_passes test [] all = refl
none_passes test (row ∷ rows) all = at (test row) all.0 (none_passes test rows all.1)
  where
    at : (b : Bool) → b ≡ false → filter test rows ≡ [] → cond b (row ∷ filter test rows) (filter test rows) ≡ []
    at true e none = absurd (cc (e))
    at false e none = none

pub self : (u : UnitId) → same_unit u u ≡ true
self u = ap (λ b. b && (u.unit == u.unit)) (eq-eqb u.partition u.partition refl) ∙ eq-eqb u.unit u.unit refl

-- a unit before another is not that one
pub before_other : (a b : UnitId) → UnitBefore a b → same_unit a b ≡ false
before_other a b before = by_bool (same_unit a b) (same_unit a b ≡ false) (λ e. absurd (no (one_unit a b e) before)) (λ e. e)
  where
    no : a ≡ b → UnitBefore a b → ⊥
    no e (inl less) = omega (arith, less, ap (λ (u : UnitId). u.partition) e)
    no e (inr (same, less)) = omega (arith, less, ap (λ (u : UnitId). u.unit) e)

pub turned : (a b : UnitId) → same_unit a b ≡ false → same_unit b a ≡ false
turned a b e = by_bool (same_unit b a) (same_unit b a ≡ false)
    (λ f. absurd (no (subst (λ (u : UnitId). same_unit a u ≡ true) (sym (one_unit b a f)) (self a)))) (λ f. f)
  where
    no : same_unit a b ≡ true → ⊥
    no g = cc (e, g)

-- the rows of other units pass no test for this one
pub alone : {X Row : Type 0} (name : X → UnitId) (unit : Row → UnitId) (f : X → List Row) (u : UnitId) (xs : List X)
    → Each (λ x. Each (λ row. unit row ≡ name x) (f x)) xs → Each (λ x. same_unit (name x) u ≡ false) xs
    → filter (λ row. same_unit (unit row) u) (flat_map f xs) ≡ []
alone name unit f u [] named apart = refl
alone name unit f u (x ∷ xs) named apart =
    filter-append (λ row. same_unit (unit row) u) (f x) (flat_map f xs)
    ∙ ap (λ l. l ++ filter (λ row. same_unit (unit row) u) (flat_map f xs))
    (none_passes (λ row. same_unit (unit row) u) (f x)
    (each_weaker (λ row. unit row ≡ name x) (λ row. same_unit (unit row) u ≡ false) (λ row e. ap (λ (v : UnitId). same_unit v u) e ∙ apart.0) (f x) named.0))
    ∙ alone name unit f u xs named.1 apart.1

-- what a filter by a unit leaves of blocks is the unit's own block
pub sole_block : {X Row : Type 0} (name : X → UnitId) (unit : Row → UnitId) (f : X → List Row) (xs : List X)
    → Each (λ x. Each (λ row. unit row ≡ name x) (f x)) xs → Ordered (λ a b. UnitBefore (name a) (name b)) xs
    → Each (λ x. filter (λ row. same_unit (unit row) (name x)) (flat_map f xs) ≡ f x) xs
sole_block name unit f [] named order = tt
sole_block {X} {Row} name unit f (x ∷ xs) named order = (here, both_each _ _ _ xs later order.0 (sole_block name unit f xs named.1 order.1))
  where
    test : X → Row → Bool
    test y row = same_unit (unit row) (name y)

    here : filter (test x) (f x ++ flat_map f xs) ≡ f x
    here =
        filter-append (test x) (f x) (flat_map f xs)
        ∙ ap (λ l. l ++ filter (test x) (flat_map f xs))
        (all_pass (test x) (f x) (each_weaker (λ row. unit row ≡ name x) (λ row. test x row ≡ true) (λ row e. ap (λ (v : UnitId). same_unit v (name x)) e ∙ self (name x)) (f x) named.0))
        ∙ ap (λ l. f x ++ l)
        (alone name unit f (name x) xs named.1
        (each_weaker (λ y. UnitBefore (name x) (name y)) (λ y. same_unit (name y) (name x) ≡ false) (λ y b. turned (name x) (name y) (before_other (name x) (name y) b)) xs order.0))
        ∙ append-nil (f x)

    later : (y : X) → UnitBefore (name x) (name y) → filter (test y) (flat_map f xs) ≡ f y → filter (test y) (f x ++ flat_map f xs) ≡ f y
    later y before same =
        filter-append (test y) (f x) (flat_map f xs)
        ∙ ap (λ l. l ++ filter (test y) (flat_map f xs))
        (none_passes (test y) (f x) (each_weaker (λ row. unit row ≡ name x) (λ row. test y row ≡ false) (λ row e. ap (λ (v : UnitId). same_unit v (name y)) e ∙ before_other (name x) (name y) before) (f x) named.0))
        ∙ same

-- the seats stand in the order of their units
seat_before : (a b : UnitId) → b.unit < 256 → order_of a < order_of b → UnitBefore a b
seat_before a b small less = by (cases_order a.partition b.partition)
  where
    by : (a.partition ≡ b.partition) ⊎ ((a.partition < b.partition) ⊎ (b.partition < a.partition)) → UnitBefore a b
    by (inl p) = inr (p, omega (arith, p, less))
    by (inr (inl p)) = inl p
    by (inr (inr p)) = absurd (omega (arith, p, less, small))

pub seats_ordered : (seats : List PortSeat) → AreAscending (map (λ seat. seat.unit) seats) → Each (λ seat. seat.unit.unit < 256) seats
    → Ordered (λ (a b : PortSeat). UnitBefore a.unit b.unit) seats
seats_ordered [] ascending small = tt
seats_ordered (s ∷ seats) ascending small = (
  both_each _ _ _ seats (λ (b : PortSeat) less own. seat_before s.unit b.unit own less) (units_behind seats ascending.0) small.1,
  seats_ordered seats ascending.1 small.1,
)
  where
    units_behind : (bs : List PortSeat) → All (λ other. order_of s.unit < order_of other) (map (λ seat. seat.unit) bs)
        → Each (λ (b : PortSeat). order_of s.unit < order_of b.unit) bs
    units_behind [] all = tt
    units_behind (b ∷ bs) all = (
      All-head (λ other. order_of s.unit < order_of other) b.unit (map (λ seat. seat.unit) bs) all,
      units_behind bs (All-tail (λ other. order_of s.unit < order_of other) b.unit (map (λ seat. seat.unit) bs) all),
    )

-- each row of blocks is of a seat
pub of_seats : {Row : Type 0} (unit : Row → UnitId) (f : PortSeat → List Row) (seats : List PortSeat)
    → Each (λ seat. Each (λ row. unit row ≡ seat.unit) (f seat)) seats
    → Each (λ row. IsSome (seat_at seats (unit row))) (flat_map f seats)
of_seats unit f [] named = tt
of_seats {Row} unit f (s ∷ seats) named =
    each_append (λ row. IsSome (seat_at (s ∷ seats) (unit row))) (f s) (flat_map f seats)
    (each_weaker (λ row. unit row ≡ s.unit) (λ row. IsSome (seat_at (s ∷ seats) (unit row))) (λ row e. here (unit row) e) (f s) named.0)
    (each_weaker (λ row. IsSome (seat_at seats (unit row))) (λ row. IsSome (seat_at (s ∷ seats) (unit row))) (λ row h. later (unit row) h)
    (flat_map f seats) (of_seats unit f seats named.1))
  where
    here : (u : UnitId) → u ≡ s.unit → IsSome (seat_at (s ∷ seats) u)
    here u e = subst (λ (v : UnitId). IsSome (seat_at (s ∷ seats) v)) (sym e) (head (self s.unit))
      where
        head : same_unit s.unit s.unit ≡ true → IsSome (seat_at (s ∷ seats) s.unit)
        head g = rw g refl

    later : (u : UnitId) → IsSome (seat_at seats u) → IsSome (seat_at (s ∷ seats) u)
    later u h = by_bool (same_unit s.unit u) (IsSome (seat_at (s ∷ seats) u)) (λ g. rw g refl) (λ g. rw g h)
