-- What a trace shows of one unit are that unit's own rows: no other has rows of its name.
use Rattle.std.proofs.Common.{◌≡◌, ◌∙◌, ℕ, ◌+◌, Bool, true, false, cond, List, [], ◌∷◌, ◌++◌, All, Some, filter, slice_get, refl, sym, ap, ap₂, subst, arith, append-nil, suc}
use Rattle.std.specs.List.{AllPairs, flat_map}
use Rattle.std.proofs.lemmas.Bool.Decides.{nat_tests}
use Rattle.std.proofs.lemmas.List.Elements.{filter-append, All-cons, All-nil}
use Rattle.std.proofs.lemmas.List.Kept.{AllPairs-cons}
use Rattle.vio_num.specs.declared.names.UnitId.{UnitId}
use Rattle.vio_trace.specs.Form.{UnitBefore}
use Rattle.vcpu_run.specs.declared.script.Script.{Script}
use Rattle.vcpu_run.specs.declared.unit_seat.Seat.{Seat}
use Rattle.vcpu_run.specs.declared.unit_seat.UnitSeat.{UnitSeat}
use Rattle.vcpu_run.specs.CopyRows.{same_unit}
use Rattle.vcpu_run.specs.Numbered.{numbered}
use Rattle.vcpu_run.specs.Units.{seats_by, seats_of, unit_seat}
use Rattle.lan_script.proofs.Order.{Each, Ordered, each_append, each_weaker}

-- back from the recursion on a list
pub all_from_each : {X : Type 0} (P : X → Type 0) (xs : List X) → Each P xs → All P xs
all_from_each P [] all = All-nil P
all_from_each P (x ∷ xs) all = All-cons P x xs all.0 (all_from_each P xs all.1)

pub pairs_from_ordered : {X : Type 0} (before : X → X → Type 0) (xs : List X) → Ordered before xs → AllPairs before xs
pairs_from_ordered before [] order = λ i j d less inside. absurd (omega (arith, inside))
pairs_from_ordered before (x ∷ xs) order = AllPairs-cons before x xs (all_from_each (before x) xs order.0) (pairs_from_ordered before xs order.1)

pub all_pass : {Row : Type 0} (test : Row → Bool) (rows : List Row) → Each (λ row. test row ≡ true) rows → filter test rows ≡ rows
all_pass test [] all = refl
all_pass test (row ∷ rows) all = at (test row) all.0 (all_pass test rows all.1)
  where
    at : (b : Bool) → b ≡ true → filter test rows ≡ rows → cond b (row ∷ filter test rows) (filter test rows) ≡ row ∷ rows
    at true e same = ap (λ more. row ∷ more) same
    at false e same = absurd (cc)

pub none_passes : {Row : Type 0} (test : Row → Bool) (rows : List Row) → Each (λ row. test row ≡ false) rows → filter test rows ≡ []
none_passes test [] all = refl
none_passes test (row ∷ rows) all = at (test row) all.0 (none_passes test rows all.1)
  where
    at : (b : Bool) → b ≡ false → filter test rows ≡ [] → cond b (row ∷ filter test rows) (filter test rows) ≡ []
    at true e none = absurd (cc)
    at false e none = none

-- of parts of which at most one passes a test, the rows that pass are those of that one, or none
pub sole : {X Row : Type 0} (test : Row → Bool) (hits : X → Bool) (P : List Row → Type 0) (f : X → List Row) → P []
    → (xs : List X) → Each (λ x. Each (λ row. test row ≡ hits x) (f x)) xs → Each (λ x. hits x ≡ true → P (f x)) xs
    → Ordered (λ a b. hits a ≡ true → hits b ≡ false) xs → P (filter test (flat_map f xs))
sole test hits P f none [] told own apart = none
sole {X} {Row} test hits P f none (x ∷ xs) told own apart =
    subst P (sym (filter-append test (f x) (flat_map f xs))) (at (hits x) refl (sole test hits P f none xs told.1 own.1 apart.1))
  where
    others : (ys : List X) → hits x ≡ true → Each (λ y. hits x ≡ true → hits y ≡ false) ys → Each (λ y. Each (λ row. test row ≡ hits y) (f y)) ys
        → Each (λ row. test row ≡ false) (flat_map f ys)
    others [] is none there = tt
    others (y ∷ ys) is none there =
        each_append (λ row. test row ≡ false) (f y) (flat_map f ys)
        (each_weaker (λ row. test row ≡ hits y) (λ row. test row ≡ false) (λ row e. e ∙ none.0 is) (f y) there.0)
        (others ys is none.1 there.1)

    at : (b : Bool) → hits x ≡ b → P (filter test (flat_map f xs)) → P (filter test (f x) ++ filter test (flat_map f xs))
    at true is rest =
        let own_rows = all_pass test (f x) (each_weaker (λ row. test row ≡ hits x) (λ row. test row ≡ true) (λ row e. e ∙ is) (f x) told.0) in
        let no_others = none_passes test (flat_map f xs) (others xs is apart.0 told.1) in
        subst P (sym (ap₂ (λ a b. a ++ b) own_rows no_others ∙ append-nil (f x))) (own.0 is)
    at false is rest =
        let not_own = none_passes test (f x) (each_weaker (λ row. test row ≡ hits x) (λ row. test row ≡ false) (λ row e. e ∙ is) (f x) told.0) in
        subst P (sym (ap (λ a. a ++ filter test (flat_map f xs)) not_own)) rest

-- two units of which one stands before the other are not both of one name
pub apart_names : (a b u : UnitId) → UnitBefore a b → same_unit a u ≡ true → same_unit b u ≡ false
apart_names a b u before is = grind (arith, nat_tests)

pub same_refl : (u : UnitId) → same_unit u u ≡ true
same_refl u = grind (arith, nat_tests)

pub ordered_weaker : {X : Type 0} (R S : X → X → Type 0) → ((a b : X) → R a b → S a b) → (xs : List X) → Ordered R xs → Ordered S xs
ordered_weaker R S step [] order = tt
ordered_weaker R S step (x ∷ xs) order = (each_weaker (R x) (S x) (λ y h. step x y h) xs order.0, ordered_weaker R S step xs order.1)

-- what is so of each unit of a script's partition, and of each partition's, is so of all units
each_unit : (P : UnitSeat → Type 0) (p : ℕ) (all : List Seat) → ((u : ℕ) (seat : Seat) → slice_get all u ≡ Some seat → P (unit_seat p u seat))
    → (n : ℕ) (seats : List Seat) → ((i : ℕ) → slice_get all (n + i) ≡ slice_get seats i) → Each P (numbered (unit_seat p) n seats)
each_unit P p all h n [] part = tt
each_unit P p all h n (seat ∷ seats) part =
    let first : n + 0 ≡ n = omega arith in (
      h n seat (subst (λ u. slice_get all u ≡ Some seat) first (part 0)),
      each_unit P p all h (n + 1) seats (λ i. let e : n + suc i ≡ (n + 1) + i = omega arith in subst (λ u. slice_get all u ≡ slice_get seats i) e (part (suc i))),
    )

pub each_seat : (P : UnitSeat → Type 0) (scripts : List Script)
    → ((i : ℕ) (script : Script) (u : ℕ) (seat : Seat) → slice_get scripts i ≡ Some script → slice_get script.seats.items u ≡ Some seat → P (unit_seat script.partition u seat))
    → Each P (seats_of scripts)
each_seat P [] h = tt
each_seat P (script ∷ scripts) h =
    each_append P (seats_by script) (flat_map seats_by scripts)
    (each_unit P script.partition script.seats.items (λ u seat e. h 0 script u seat refl e) 0 script.seats.items
    (λ i. let e : i ≡ 0 + i = omega arith in subst (λ u. slice_get script.seats.items u ≡ slice_get script.seats.items i) e refl))
    (each_seat P scripts (λ i other u seat e e'. h (suc i) other u seat e e'))
