-- Which of the things that are said of copies and of windows are decided: of lists, of pieces, and of what pieces moved.
use Rattle.std.proofs.Common.{◌≡◌, ◌⊎◌, inl, inr, ◌∙◌, ℕ, ◌+◌, ◌-◌, ◌/◌, ◌%◌, min, ◌<◌, ◌≤◌, Bool, true, false, IsTrue, All, Contains, List, [], ◌∷◌, Option, Some, None, length, slice_get, zero, suc, refl, sym, ap, subst, arith}
use Rattle.std.specs.List.{flat_map}
use Rattle.std.proofs.lemmas.List.Elements.{All-nil, All-cons, All-head, All-tail}
use native.Mathlib.Decide.{ℕ_discrete, dec_le, dec_lt, map_dec}
use Rattle.vio_num.specs.declared.names.UnitId.{UnitId}
use Rattle.page_slots.specs.Stroke.{StrokeValue}
use Rattle.page_slots.specs.declared.stroke.StrokeName.{StrokeName}
use Rattle.tce_window.specs.Grant.{grants}
use Rattle.tce_window.specs.Moved.{AreApart, IsNamed, IsReadFrom, IsWrittenTo, bytes_of, read_bytes, stroke_count, stroke_of}
use Rattle.tce_window.specs.Pieces.{IsGranted, IsPieceAt, Touches}
use Rattle.tce_window.specs.declared.answers.Right.{Right}
use Rattle.tce_window.specs.declared.answers.Right.TheVariants.{Read, Write}
use Rattle.tce_window.specs.declared.piece.Piece.{Piece}

-- both, and one that another gives
pub both : {A B : Type 0} → Dec A → Dec B → Dec (A × B)
both (yes a) (yes b) = yes (a, b)
both (yes a) (no b) = no (λ ab. b ab.1)
both (no a) B = no (λ ab. a ab.0)

pub all_three : {A B C : Type 0} → Dec A → Dec B → Dec C → Dec (A × B × C)
all_three (yes a) (yes b) (yes c) = yes (a, b, c)
all_three (yes a) (yes b) (no c) = no (λ abc. c abc.2)
all_three (yes a) (no b) C = no (λ abc. b abc.1)
all_three (no a) B C = no (λ abc. a abc.0)

pub given : {A B : Type 0} → Dec A → Dec B → Dec (A → B)
given A (yes b) = yes (λ a. b)
given (yes a) (no b) = no (λ f. b (f a))
given (no a) (no b) = yes (λ x. absurd (a x))

-- values
pub same_bool : (a b : Bool) → Dec (a ≡ b)
same_bool true true = yes refl
same_bool true false = no (λ e. cc (e))
same_bool false true = no (λ e. cc (e))
same_bool false false = yes refl

pub same_list : (a b : List ℕ) → Dec (a ≡ b)
same_list [] [] = yes refl
same_list [] (y ∷ ys) = no (λ e. cc (e))
same_list (x ∷ xs) [] = no (λ e. cc (e))
same_list (x ∷ xs) (y ∷ ys) = map_dec (λ e. cc (e.0, e.1)) (λ e. (cc (e), cc (e))) (both (ℕ_discrete x y) (same_list xs ys))

pub same_unit : (a b : UnitId) → Dec (a ≡ b)
same_unit a b =
    map_dec (λ e i. record { partition = e.0 i; unit = e.1 i })
    (λ e. (ap (λ (u : UnitId). u.partition) e, ap (λ (u : UnitId). u.unit) e)) (both (ℕ_discrete a.partition b.partition) (ℕ_discrete a.unit b.unit))

pub same_name : (a b : StrokeName) → Dec (a ≡ b)
same_name a b =
    map_dec (λ e i. record { who = e.0 i; mark = e.1 i })
    (λ e. (ap (λ (n : StrokeName). n.who) e, ap (λ (n : StrokeName). n.mark) e)) (both (same_unit a.who b.who) (ℕ_discrete a.mark b.mark))

-- all of a list, and one of it
pub all_of : {X : Type 0} (P : X → Type 0) → ((x : X) → Dec (P x)) → (xs : List X) → Dec (All P xs)
all_of P each [] = yes (All-nil P)
all_of P each (x ∷ xs) = map_dec (λ e. All-cons P x xs e.0 e.1) (λ all. (All-head P x xs all, All-tail P x xs all)) (both (each x) (all_of P each xs))

pub each_below : (P : ℕ → Type 0) → ((n : ℕ) → Dec (P n)) → (n : ℕ) → Dec ((k : ℕ) → k < n → P k)
each_below P each zero = yes (λ k less. absurd (omega (arith, less)))
each_below P each (suc n) =
    map_dec (λ e k less. at e k less (dec_lt k n)) (λ all. (λ k less. all k (omega (arith, less)), all n (omega arith))) (both (each_below P each n) (each n))
  where
    at : ((k : ℕ) → k < n → P k) × P n → (k : ℕ) → k < suc n → Dec (k < n) → P k
    at e k less (yes below) = e.0 k below
    at e k less (no past) = subst P (omega (arith, less, past)) e.1

-- one of a list, by its place, of which P is so
pub one_at : {X : Type 0} (P : X → Type 0) → ((x : X) → Dec (P x)) → (xs : List X) → Dec ((n : ℕ) × (x : X) × (slice_get xs n ≡ Some x) × P x)
one_at P each [] = no (λ found. cc (found.2))
one_at {X = X} P each (x ∷ xs) = at (each x) (one_at P each xs)
  where
    one : (a b : X) → Some a ≡ Some b → a ≡ b
    one a b e = cc (e)

    by : (P x → ⊥) → ((n : ℕ) × (y : X) × (slice_get xs n ≡ Some y) × P y → ⊥) → (n : ℕ) (y : X) → slice_get (x ∷ xs) n ≡ Some y → P y → ⊥
    by not_first none zero y there is = not_first (subst P (sym (one x y there)) is)
    by not_first none (suc n) y there is = none (n, y, there, is)

    at : Dec (P x) → Dec ((n : ℕ) × (y : X) × (slice_get xs n ≡ Some y) × P y) → Dec ((n : ℕ) × (y : X) × (slice_get (x ∷ xs) n ≡ Some y) × P y)
    at (yes is) rest = yes (zero, x, refl, is)
    at (no not_first) (yes rest) = yes (suc rest.0, rest.1, rest.2, rest.3)
    at (no not_first) (no none) = no (λ found. by not_first none found.0 found.1 found.2 found.3)

-- PIECES -----------------------------------------------------------------------------------------

pub piece_at : (unit : UnitId) (from to : ℕ) (piece : Piece) → Dec (IsPieceAt unit from to piece)
piece_at unit from to piece =
    map_dec (λ e. record { unit_is = e.0; entry = e.1.0; offset = e.1.1.0; len = e.1.1.1 }) (λ is. (is.unit_is, (is.entry, (is.offset, is.len))))
    (both (same_unit piece.unit unit) (both (ℕ_discrete piece.entry (from / 4096))
    (both (ℕ_discrete piece.offset (from % 4096)) (ℕ_discrete piece.len (min (to - from) (4096 - from % 4096))))))

pub touching : (unit : UnitId) (from to : ℕ) (pieces : List Piece) → Dec (Touches unit from to pieces)
touching unit from to [] = ℕ_discrete from to
touching unit from to (piece ∷ pieces) = all_three (dec_lt from to) (piece_at unit from to piece) (touching unit (from + piece.len) to pieces)

pub granted : (values : ℕ → List ℕ) (right : Right) (piece : Piece) → Dec (IsGranted values right piece)
granted values right piece = at (slice_get (values piece.entry) piece.version) refl
  where
    one : (a b : ℕ) → Some a ≡ Some b → a ≡ b
    one a b e = cc (e)

    at : (found : Option ℕ) → slice_get (values piece.entry) piece.version ≡ found → Dec (IsGranted values right piece)
    at None there = no (λ is. cc (there, is.shown))
    at (Some value) there =
        map_dec (λ e. record { value = value; shown = there; granted = e.0; page = e.1 })
        (λ is.
        let same : is.value ≡ value = one is.value value (sym is.shown ∙ there) in
        (subst (λ (v : ℕ). IsTrue (grants right v)) same is.granted, subst (λ (v : ℕ). piece.page ≡ v / 4096) same is.page))
        (both (same_bool (grants right value) true) (ℕ_discrete piece.page (value / 4096)))

pub named : (name : StrokeName) (piece : Piece) (found : Option StrokeValue) → Dec (IsNamed name piece found)
named name piece (Some stroke) = all_three (same_name stroke.name name) (ℕ_discrete stroke.offset piece.offset) (ℕ_discrete (length stroke.bytes) piece.len)
named name piece None = no (λ none. none)

pub apart : (pieces : List Piece) → Dec (AreApart pieces)
apart [] = yes tt
apart (piece ∷ pieces) =
    both (all_of (λ other. other.page ≡ piece.page → piece.at < other.at) (λ other. given (ℕ_discrete other.page piece.page) (dec_lt piece.at other.at)) pieces) (apart pieces)

pub reading : (unit : UnitId) (values : ℕ → List ℕ) (strokes : ℕ → Option (List StrokeValue)) (at : ℕ) (pieces : List Piece) (bytes : List ℕ) → Dec (IsReadFrom unit values strokes at pieces bytes)
reading unit values strokes at pieces bytes =
    map_dec (λ e. record { touched = e.0; granted = e.1.0; reached = e.1.1.0; join = e.1.1.1 }) (λ is. (is.touched, (is.granted, (is.reached, is.join))))
    (both (touching unit at (at + length bytes) pieces)
    (both (all_of (IsGranted values Read) (granted values Read) pieces)
    (both (all_of (λ piece. piece.at ≤ stroke_count (strokes piece.page)) (λ piece. dec_le piece.at (stroke_count (strokes piece.page))) pieces)
    (same_list (flat_map (read_bytes strokes) pieces) bytes))))

pub writing : (unit : UnitId) (values : ℕ → List ℕ) (strokes : ℕ → Option (List StrokeValue)) (at : ℕ) (name : StrokeName) (pieces : List Piece) (bytes : List ℕ)
    → Dec (IsWrittenTo unit values strokes at name pieces bytes)
writing unit values strokes at name pieces bytes =
    map_dec (λ e. record { touched = e.0; granted = e.1.0; named = e.1.1.0; apart = e.1.1.1.0; join = e.1.1.1.1 }) (λ is. (is.touched, (is.granted, (is.named, (is.apart, is.join)))))
    (both (touching unit at (at + length bytes) pieces)
    (both (all_of (IsGranted values Write) (granted values Write) pieces)
    (both (all_of (λ piece. IsNamed name piece (stroke_of strokes piece)) (λ piece. named name piece (stroke_of strokes piece)) pieces)
    (both (apart pieces) (same_list (flat_map (λ piece. bytes_of (stroke_of strokes piece)) pieces) bytes)))))

-- one that a list contains, of which P is so
pub one_of : {X : Type 0} (P : X → Type 0) → ((x : X) → Dec (P x)) → (xs : List X) → Dec ((x : X) × Contains xs x × P x)
one_of {X = X} P each [] = no (λ found. never found.0 found.1)
  where
    never : (x : X) → Contains {X = X} [] x → ⊥
    never x inside = absurd (omega (arith, inside.1))
one_of {X = X} P each (x ∷ xs) = at (each x) (one_of P each xs)
  where
    first : Contains (x ∷ xs) x
    first = (zero, omega arith, refl)

    by : (P x → ⊥) → ((y : X) × Contains xs y × P y → ⊥) → (y : X) → x ≡ y ⊎ Contains xs y → P y → ⊥
    by not_first none y (inl same) is = not_first (subst P (sym same) is)
    by not_first none y (inr inside) is = none (y, inside, is)

    cases : (y : X) → Contains (x ∷ xs) y → x ≡ y ⊎ Contains xs y
    cases y (zero, less, same) = inl same
    cases y (suc k, less, same) = inr (k, omega (arith, less), same)

    at : Dec (P x) → Dec ((y : X) × Contains xs y × P y) → Dec ((y : X) × Contains (x ∷ xs) y × P y)
    at (yes is) rest = yes (x, first, is)
    at (no not_first) (yes rest) = yes (rest.0, (suc rest.1.0, omega (arith, rest.1.1), rest.1.2), rest.2)
    at (no not_first) (no none) = no (λ found. by not_first none found.0 (cases found.0 found.1) found.2)
