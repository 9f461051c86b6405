-- How the numbers of the entries over which logins are granted rise, as lines come and requests come and go.
use Rattle.std.proofs.Common.{◌≡◌, ◌+◌, ◌++◌, ◌==◌, ◌&&◌, ◌<◌, ◌≤◌, ℕ, Bool, true, false, All, List, [], ◌∷◌, Option, Some, None, if◌then◌else◌, filter, map, refl, sym, ◌∙◌, ap, subst, arith, append-nil, append_assoc}
use Rattle.std.specs.List.{filter_map}
use Rattle.std.proofs.lemmas.Bool.{eqb-true}
use Rattle.std.proofs.lemmas.List.{map-append}
use Rattle.std.proofs.lemmas.List.Elements.{All-head, All-tail, filter_map-append}
use Rattle.vio_num.specs.declared.history.Grant.{Grant}
use Rattle.vio_num.specs.declared.history.Grant.TheVariants.{Granted, Lapsed}
use Rattle.vio_num.specs.declared.history.Lapse.{Lapse}
use Rattle.vio_num.specs.declared.names.UnitId.{UnitId}
use Rattle.block_server.specs.Closings.{is_line}
use Rattle.block_server.specs.Makers.{same_unit}
use Rattle.block_server.specs.Numbers.{AreAbove, AreBelow, KeepsRising, Rise, granted_number, granted_numbers, numbers_of}
use Rattle.block_server.specs.Receipts.{unit_of}
use Rattle.block_server.specs.declared.request.Request.{Request}
use Rattle.block_server.proofs.Numbering.{own_line}

-- LISTS OF NUMBERS -------------------------------------------------------------------------------

above_without : (n : ℕ) (xs : List ℕ) (m : ℕ) (ys : List ℕ) → AreAbove n (xs ++ m ∷ ys) → AreAbove n (xs ++ ys)
above_without n [] m ys is = is.1
above_without n (x ∷ xs) m ys is = (is.0, above_without n xs m ys is.1)

pub rise_without : (xs : List ℕ) (m : ℕ) (ys : List ℕ) → Rise (xs ++ m ∷ ys) → Rise (xs ++ ys)
rise_without [] m ys is = is.1
rise_without (x ∷ xs) m ys is = (above_without x xs m ys is.0, rise_without xs m ys is.1)

pub below_without : (n : ℕ) (xs : List ℕ) (m : ℕ) (ys : List ℕ) → AreBelow n (xs ++ m ∷ ys) → AreBelow n (xs ++ ys)
below_without n [] m ys is = is.1
below_without n (x ∷ xs) m ys is = (is.0, below_without n xs m ys is.1)

above_front : (n : ℕ) (xs ys : List ℕ) → AreAbove n (xs ++ ys) → AreAbove n xs
above_front n [] ys is = tt
above_front n (x ∷ xs) ys is = (is.0, above_front n xs ys is.1)

pub rise_front : (xs ys : List ℕ) → Rise (xs ++ ys) → Rise xs
rise_front [] ys is = tt
rise_front (x ∷ xs) ys is = (above_front x xs ys is.0, rise_front xs ys is.1)

pub below_front : (n : ℕ) (xs ys : List ℕ) → AreBelow n (xs ++ ys) → AreBelow n xs
below_front n [] ys is = tt
below_front n (x ∷ xs) ys is = (is.0, below_front n xs ys is.1)

above_push : (n : ℕ) (xs : List ℕ) (m : ℕ) → n < m → AreAbove n xs → AreAbove n (xs ++ m ∷ [])
above_push n [] m low is = (low, tt)
above_push n (x ∷ xs) m low is = (is.0, above_push n xs m low is.1)

pub rise_push : (xs : List ℕ) (m : ℕ) → AreBelow m xs → Rise xs → Rise (xs ++ m ∷ [])
rise_push [] m low is = (tt, tt)
rise_push (x ∷ xs) m low is = (above_push x xs m low.0 is.0, rise_push xs m low.1 is.1)

pub below_push : (n : ℕ) (xs : List ℕ) (m : ℕ) → m < n → AreBelow n xs → AreBelow n (xs ++ m ∷ [])
below_push n [] m low is = (low, tt)
below_push n (x ∷ xs) m low is = (is.0, below_push n xs m low is.1)

pub below_more : (n n' : ℕ) (xs : List ℕ) → n ≤ n' → AreBelow n xs → AreBelow n' xs
below_more n n' [] most is = tt
below_more n n' (x ∷ xs) most is = (less x n n' is.0 most, below_more n n' xs most is.1)
  where
    less : (a b c : ℕ) → a < b → b ≤ c → a < c
    less a b c low high = omega (arith, low, high)

-- LINES ------------------------------------------------------------------------------------------

-- a line that grants none to the unit in the session adds no number
numbers_left : (unit : UnitId) (q : ℕ) (grants : List Grant) (line : Grant) → granted_number unit q line ≡ None → granted_numbers unit q (grants ++ line ∷ []) ≡ granted_numbers unit q grants
numbers_left unit q grants line none = filter_map-append (granted_number unit q) grants (line ∷ []) ∙ ap (λ list. granted_numbers unit q grants ++ list) (one none) ∙ append-nil (granted_numbers unit q grants)
  where
    one : granted_number unit q line ≡ None → granted_numbers unit q (line ∷ []) ≡ []
    one e = rw e refl

-- one that does adds its own
numbers_one : (unit : UnitId) (q : ℕ) (grants : List Grant) (line : Grant) (number : ℕ) → granted_number unit q line ≡ Some number
    → granted_numbers unit q (grants ++ line ∷ []) ≡ granted_numbers unit q grants ++ number ∷ []
numbers_one unit q grants line number some = filter_map-append (granted_number unit q) grants (line ∷ []) ∙ ap (λ list. granted_numbers unit q grants ++ list) (one some)
  where
    one : granted_number unit q line ≡ Some number → granted_numbers unit q (line ∷ []) ≡ number ∷ []
    one e = rw e refl

-- The same lines and requests as another list of them.
rising_to : (unit : UnitId) (session next : ℕ) (pending pending' : List Request) (grants grants' : List Grant) → pending' ≡ pending
    → ((q : ℕ) → granted_numbers unit q grants' ≡ granted_numbers unit q grants) → KeepsRising unit session next pending grants → KeepsRising unit session next pending' grants'
rising_to unit session next pending pending' grants grants' requests lines is = record {
  each = λ q. subst Rise (sym (lines q)) (is.each q);
  now = subst Rise both is.now;
  below = subst (AreBelow next) both is.below;
}
  where
    both : granted_numbers unit session grants ++ numbers_of pending ≡ granted_numbers unit session grants' ++ numbers_of pending'
    both = λ i. sym (lines session) i ++ numbers_of (sym requests i)

-- The oldest request is pending no more.
pub rising_popped : (unit : UnitId) (session next : ℕ) (pending rest : List Request) (front : Request) (grants : List Grant) → pending ≡ front ∷ rest
    → KeepsRising unit session next pending grants → KeepsRising unit session next rest grants
rising_popped unit session next pending rest front grants parts is =
    let at = subst (λ (list : List Request). KeepsRising unit session next list grants) parts is in
    let xs = granted_numbers unit session grants in
    record { each = at.each; now = rise_without xs front.number (numbers_of rest) at.now; below = below_without next xs front.number (numbers_of rest) at.below }

-- None is.
pub rising_none : (unit : UnitId) (session next : ℕ) (pending : List Request) (grants : List Grant) → KeepsRising unit session next pending grants → KeepsRising unit session next [] grants
rising_none unit session next pending grants is =
    let xs = granted_numbers unit session grants in
    record {
      each = is.each;
      now = subst Rise (sym (append-nil xs)) (rise_front xs (numbers_of pending) is.now);
      below = subst (AreBelow next) (sym (append-nil xs)) (below_front next xs (numbers_of pending) is.below);
    }

-- The next entry is a later one.
pub rising_later : (unit : UnitId) (session next next' : ℕ) (pending : List Request) (grants : List Grant) → next ≤ next' → KeepsRising unit session next pending grants
    → KeepsRising unit session next' pending grants
rising_later unit session next next' pending grants most is =
    record { each = is.each; now = is.now; below = below_more next next' (granted_numbers unit session grants ++ numbers_of pending) most is.below }

-- The one that was judged next is pending behind the others.
pub rising_pushed : (unit : UnitId) (session next next' : ℕ) (pending : List Request) (request : Request) (grants : List Grant) → request.number ≡ next → next < next'
    → KeepsRising unit session next pending grants → KeepsRising unit session next' (pending ++ request ∷ []) grants
rising_pushed unit session next next' pending request grants number later is =
    let xs = granted_numbers unit session grants ++ numbers_of pending in
    let same : xs ++ request.number ∷ [] ≡ granted_numbers unit session grants ++ numbers_of (pending ++ request ∷ []) =
    append_assoc (granted_numbers unit session grants) (numbers_of pending) (request.number ∷ [])
    ∙ ap (λ list. granted_numbers unit session grants ++ list) (sym (map-append (λ (r : Request). r.number) pending (request ∷ []))) in
    record {
      each = is.each;
      now = subst Rise same (rise_push xs request.number (subst (λ (n : ℕ). AreBelow n xs) (sym number) is.below) is.now);
      below = subst (AreBelow next') same (below_push next' xs request.number (subst (λ (n : ℕ). n < next') (sym number) later) (below_more next next' xs (less next next' later) is.below));
    }
  where
    less : (a b : ℕ) → a < b → a ≤ b
    less a b low = omega (arith, low)

-- A line came that ends a login.
pub rising_lapsed : (unit of : UnitId) (session next q login : ℕ) (cause : Lapse) (outstanding granted : ℕ) (pending : List Request) (grants : List Grant) → KeepsRising unit session next pending grants
    → KeepsRising unit session next pending (grants ++ Lapsed of q login cause outstanding granted ∷ [])
rising_lapsed unit of session next q login cause outstanding granted pending grants is =
    rising_to unit session next pending pending grants (grants ++ Lapsed of q login cause outstanding granted ∷ []) refl
    (λ p. numbers_left unit p grants (Lapsed of q login cause outstanding granted) refl) is

-- The oldest request was granted its login: its number goes over to the lines.
pub rising_granted : (unit : UnitId) (session next login number credits : ℕ) (pending rest : List Request) (front : Request) (grants : List Grant) → pending ≡ front ∷ rest → front.number ≡ number
    → KeepsRising unit session next pending grants → KeepsRising unit session next rest (grants ++ Granted unit session login number credits ∷ [])
rising_granted unit session next login number credits pending rest front grants parts number_is is = record {
  each = λ q. at q (session == q) refl;
  now = subst Rise same at_front.now;
  below = subst (AreBelow next) same at_front.below;
}
  where
    line : Grant
    line = Granted unit session login number credits

    at_front : KeepsRising unit session next (front ∷ rest) grants
    at_front = subst (λ (list : List Request). KeepsRising unit session next list grants) parts is

    own : granted_number unit session (Granted unit session login number credits) ≡ Some number
    own = rw (own_line unit session) refl

    grown : granted_numbers unit session (grants ++ Granted unit session login number credits ∷ []) ≡ granted_numbers unit session grants ++ number ∷ []
    grown = numbers_one unit session grants (Granted unit session login number credits) number own

    same : granted_numbers unit session grants ++ front.number ∷ numbers_of rest ≡ granted_numbers unit session (grants ++ Granted unit session login number credits ∷ []) ++ numbers_of rest
    same = ap (λ (n : ℕ). granted_numbers unit session grants ++ n ∷ numbers_of rest) number_is ∙ sym (append_assoc (granted_numbers unit session grants) (number ∷ []) (numbers_of rest))
        ∙ ap (λ list. list ++ numbers_of rest) (sym grown)

    now : Rise (granted_numbers unit session (grants ++ Granted unit session login number credits ∷ []))
    now = rise_front (granted_numbers unit session (grants ++ Granted unit session login number credits ∷ [])) (numbers_of rest) (subst Rise same at_front.now)

    none_and : (a b : Bool) → b ≡ false → a && b ≡ false
    none_and true b e = e
    none_and false b e = refl

    at : (q : ℕ) (b : Bool) → (session == q) ≡ b → Rise (granted_numbers unit q (grants ++ Granted unit session login number credits ∷ []))
    at q true e = subst (λ (n : ℕ). Rise (granted_numbers unit n (grants ++ Granted unit session login number credits ∷ []))) (eqb-true session q e) now
    at q false e = subst Rise (sym (numbers_left unit q grants (Granted unit session login number credits) (other q e))) (is.each q)
      where
        other : (q : ℕ) → (session == q) ≡ false → granted_number unit q (Granted unit session login number credits) ≡ None
        other q e = rw (none_and (same_unit unit unit) (session == q) e) refl

-- Another session begins, of which no line is yet, while nothing is pending.
no_numbers : (unit : UnitId) (q : ℕ) (grants : List Grant) → filter (is_line unit q) grants ≡ [] → granted_numbers unit q grants ≡ []
no_numbers unit q [] none = refl
no_numbers unit q (Lapsed of p login cause outstanding granted ∷ lines) none = no_numbers unit q lines (behind (same_unit of unit && (p == q)) none)
  where
    behind : (b : Bool) → (if b then Lapsed of p login cause outstanding granted ∷ filter (is_line unit q) lines else filter (is_line unit q) lines) ≡ [] → filter (is_line unit q) lines ≡ []
    behind true e = absurd (cc (e))
    behind false e = e
no_numbers unit q (Granted of p login number credits ∷ lines) none = at (same_unit of unit && (p == q)) refl (λ k. no_numbers unit q lines k)
  where
    some : (same_unit of unit && (p == q)) ≡ true → filter (is_line unit q) (Granted of p login number credits ∷ lines) ≡ Granted of p login number credits ∷ filter (is_line unit q) lines
    some e = rw e refl

    skip : (same_unit of unit && (p == q)) ≡ false → granted_numbers unit q (Granted of p login number credits ∷ lines) ≡ granted_numbers unit q lines
    skip e = rw e refl

    pass : (same_unit of unit && (p == q)) ≡ false → filter (is_line unit q) (Granted of p login number credits ∷ lines) ≡ filter (is_line unit q) lines
    pass e = rw e refl

    at : (b : Bool) → (same_unit of unit && (p == q)) ≡ b → (filter (is_line unit q) lines ≡ [] → granted_numbers unit q lines ≡ [])
        → granted_numbers unit q (Granted of p login number credits ∷ lines) ≡ []
    at true e rest = absurd (cc (some e, none))
    at false e rest = skip e ∙ rest (sym (pass e) ∙ none)

pub rising_begun : (unit : UnitId) (session session' next next' : ℕ) (pending : List Request) (grants : List Grant) → pending ≡ [] → filter (is_line unit session') grants ≡ []
    → KeepsRising unit session next pending grants → KeepsRising unit session' next' pending grants
rising_begun unit session session' next next' pending grants empty none is =
    record { each = is.each; now = subst Rise (sym nothing) tt; below = subst (AreBelow next') (sym nothing) tt }
  where
    nothing : granted_numbers unit session' grants ++ numbers_of pending ≡ []
    nothing = (λ i. no_numbers unit session' grants none i ++ numbers_of (empty i))

-- Lines of other units came.
other_number : (unit : UnitId) (q : ℕ) (line : Grant) → same_unit (unit_of line) unit ≡ false → granted_number unit q line ≡ None
other_number unit q (Granted of p login number credits) other = rw other refl
other_number unit q (Lapsed of p login cause outstanding granted) other = refl

pub rising_others : (unit : UnitId) (session next : ℕ) (pending : List Request) (grants lines : List Grant) → All (λ line. same_unit (unit_of line) unit ≡ false) lines
    → KeepsRising unit session next pending grants → KeepsRising unit session next pending (grants ++ lines)
rising_others unit session next pending grants [] apart is = subst (KeepsRising unit session next pending) (sym (append-nil grants)) is
rising_others unit session next pending grants (line ∷ lines) apart is =
    subst (KeepsRising unit session next pending) (append_assoc grants (line ∷ []) lines)
    (rising_others unit session next pending (grants ++ line ∷ []) lines (All-tail (λ line. same_unit (unit_of line) unit ≡ false) line lines apart)
    (rising_to unit session next pending pending grants (grants ++ line ∷ []) refl
    (λ q. numbers_left unit q grants line (other_number unit q line (All-head (λ line. same_unit (unit_of line) unit ≡ false) line lines apart))) is))

-- A unit was made, among no lines.
pub rising_new : (unit : UnitId) (session next : ℕ) → KeepsRising unit session next [] []
rising_new unit session next = record { each = λ q. tt; now = tt; below = tt }
