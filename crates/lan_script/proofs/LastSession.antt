-- The rows that a trace has of one session of a port.
use Rattle.std.proofs.Common.{◌≡◌, ◌+◌, ◌≤◌, ◌<◌, ◌==◌, ℕ, zero, suc, arith, Bool, true, false, List, [], ◌∷◌, filter, length, length-append, map, refl, ◌∙◌, ap}
use Rattle.std.specs.List.{flat_map}
use Rattle.std.proofs.lemmas.Bool.{eqb-false, eqb-true}
use Rattle.std.proofs.lemmas.List.Elements.{filter-append}
use Rattle.lan_script.specs.Rows.{sessions_from}
use Rattle.lan_script.proofs.Placing.{by_bool}

-- the rows of session k among rows that are made of xs, of which those of session q count
abbrev made_in : {X Row : Type 0} → (X → ℕ) → (X → Row) → List X → ℕ → List Row
made_in session make xs k = map make (filter (λ x. session x == k) xs)

abbrev count_in : {X Row : Type 0} → (X → ℕ) → (X → Row) → (Row → ℕ) → List X → (q k : ℕ) → ℕ
count_in session make of xs q k = length (filter (λ r. of r == q) (made_in session make xs k))

-- those of the session itself
count_own : {X Row : Type 0} (session : X → ℕ) (make : X → Row) (of : Row → ℕ) (xs : List X) (q : ℕ) → ((x : X) → of (make x) ≡ session x)
    → count_in session make of xs q q ≡ length (filter (λ x. session x == q) xs)
count_own session make of [] q same = refl
count_own session make of (x ∷ xs) q same = by (session x == q) refl (count_own session make of xs q same)
  where
    by : (b : Bool) → (session x == q) ≡ b → count_in session make of xs q q ≡ length (filter (λ y. session y == q) xs)
        → count_in session make of (x ∷ xs) q q ≡ length (filter (λ y. session y == q) (x ∷ xs))
    by true e rest =
        let made : (of (make x) == q) ≡ true = ap (λ (n : ℕ). n == q) (same x) ∙ e in
        rw e (rw made (ap suc rest))
    by false e rest = rw e rest

-- and none of another
count_other : {X Row : Type 0} (session : X → ℕ) (make : X → Row) (of : Row → ℕ) (xs : List X) (q k : ℕ) → ((x : X) → of (make x) ≡ session x) → (k == q) ≡ false
    → count_in session make of xs q k ≡ 0
count_other session make of [] q k same apart = refl
count_other session make of (x ∷ xs) q k same apart = by (session x == k) refl (count_other session make of xs q k same apart)
  where
    by : (b : Bool) → (session x == k) ≡ b → count_in session make of xs q k ≡ 0 → count_in session make of (x ∷ xs) q k ≡ 0
    by true e rest =
        let made : (of (make x) == q) ≡ false = ap (λ (n : ℕ). n == q) (same x ∙ eqb-true (session x) k e) ∙ apart in
        rw e (rw made rest)
    by false e rest = rw e rest

-- the rows of session q among those of sessions
abbrev among : {X Row : Type 0} → (X → ℕ) → (X → Row) → (Row → ℕ) → List X → ℕ → List ℕ → ℕ
among session make of xs q qs = length (filter (λ r. of r == q) (flat_map (made_in session make xs) qs))

among_next : {X Row : Type 0} (session : X → ℕ) (make : X → Row) (of : Row → ℕ) (xs : List X) (q k : ℕ) (qs : List ℕ)
    → among session make of xs q (k ∷ qs) ≡ count_in session make of xs q k + among session make of xs q qs
among_next session make of xs q k qs =
    ap (λ l. length l) (filter-append (λ r. of r == q) (made_in session make xs k) (flat_map (made_in session make xs) qs))
    ∙ length-append (filter (λ r. of r == q) (made_in session make xs k)) (filter (λ r. of r == q) (flat_map (made_in session make xs) qs))

among_past : {X Row : Type 0} (session : X → ℕ) (make : X → Row) (of : Row → ℕ) (xs : List X) (q first count : ℕ) → ((x : X) → of (make x) ≡ session x) → q < first
    → among session make of xs q (sessions_from first count) ≡ 0
among_past session make of xs q first zero same past = refl
among_past session make of xs q first (suc count) same past =
    among_next session make of xs q first (sessions_from (first + 1) count)
    ∙ omega (
      arith,
      count_other session make of xs q first same (grind (arith, past)),
      among_past session make of xs q (first + 1) count same (omega (arith, past)),
    )

-- of the sessions from the first on, one is q
pub of_session : {X Row : Type 0} (session : X → ℕ) (make : X → Row) (of : Row → ℕ) (xs : List X) (q first count : ℕ) → ((x : X) → of (make x) ≡ session x)
    → first ≤ q → q < first + count → among session make of xs q (sessions_from first count) ≡ length (filter (λ x. session x == q) xs)
of_session session make of xs q first zero same least most = absurd (omega (arith, least, most))
of_session session make of xs q first (suc count) same least most =
    among_next session make of xs q first (sessions_from (first + 1) count)
    ∙ by_bool (first == q)
    (count_in session make of xs q first + among session make of xs q (sessions_from (first + 1) count) ≡ length (filter (λ x. session x == q) xs))
    (λ e.
    let is : first ≡ q = eqb-true first q e in
    omega (
      arith,
      ap (λ (k : ℕ). count_in session make of xs q k) is ∙ count_own session make of xs q same,
      among_past session make of xs q (first + 1) count same (omega (arith, is)),
    ))
    (λ e.
    omega (
      arith,
      count_other session make of xs q first same e,
      of_session session make of xs q (first + 1) count same (omega (arith, least, eqb-false first q e)) (omega (arith, most)),
    ))
