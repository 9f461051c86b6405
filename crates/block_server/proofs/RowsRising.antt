-- How the numbers of the entries of a unit's rows rise, as rows come and requests come and go.
use Rattle.std.proofs.Common.{◌≡◌, ◌+◌, ◌++◌, ◌==◌, ◌&&◌, ◌<◌, ◌≤◌, ℕ, Bool, true, false, List, [], ◌∷◌, Option, Some, None, slice_get, slice_set, suc, zero, map, refl, sym, ◌∙◌, ap, subst, arith, append-nil, append_assoc, if◌then◌else◌}
use Rattle.std.specs.List.{filter_map}
use Rattle.std.proofs.lemmas.Bool.{eqb-true, ne_eqb}
use Rattle.std.proofs.lemmas.List.{map-append}
use Rattle.std.proofs.lemmas.List.Elements.{filter_map-append}
use Rattle.vio_num.specs.declared.names.UnitId.{UnitId}
use Rattle.block_server.specs.Judged.{KeepsRowsRising, RowKey, due, row_number, row_numbers}
use Rattle.block_server.specs.Makers.{same_unit}
use Rattle.block_server.specs.Numbers.{AreBelow, Rise, numbers_of}
use Rattle.block_server.specs.declared.request.Request.{Request}
use Rattle.block_server.proofs.Counting.{marked}
use Rattle.block_server.proofs.Numbering.{own_line}
use Rattle.block_server.proofs.Rising.{below_front, below_more, below_push, below_without, rise_front, rise_push, rise_without}

-- ROWS -------------------------------------------------------------------------------------------

-- one row before others
pub rows_first : (unit : UnitId) (q : ℕ) (row : RowKey) (rows rows' : List RowKey) → row_numbers unit q rows' ≡ row_numbers unit q rows → row_numbers unit q (row ∷ rows') ≡ row_numbers unit q (row ∷ rows)
rows_first unit q row rows rows' same = at (row_number unit q row) refl
  where
    at : (o : Option ℕ) → row_number unit q row ≡ o → row_numbers unit q (row ∷ rows') ≡ row_numbers unit q (row ∷ rows)
    at (Some n) e = rw e (ap (λ ns. n ∷ ns) same)
    at None e = rw e same

-- a row of another unit or session adds no number
pub rows_passed : (unit : UnitId) (q : ℕ) (row : RowKey) (rows : List RowKey) → row_number unit q row ≡ None → row_numbers unit q (row ∷ rows) ≡ row_numbers unit q rows
rows_passed unit q row rows none = rw none refl

-- behind others, too
rows_left : (unit : UnitId) (q : ℕ) (rows : List RowKey) (row : RowKey) → row_number unit q row ≡ None → row_numbers unit q (rows ++ row ∷ []) ≡ row_numbers unit q rows
rows_left unit q rows row none =
    filter_map-append (row_number unit q) rows (row ∷ []) ∙ ap (λ list. row_numbers unit q rows ++ list) (rows_passed unit q row [] none) ∙ append-nil (row_numbers unit q rows)

-- one of the unit and the session adds its own
rows_one : (unit : UnitId) (q : ℕ) (rows : List RowKey) (row : RowKey) (n : ℕ) → row_number unit q row ≡ Some n → row_numbers unit q (rows ++ row ∷ []) ≡ row_numbers unit q rows ++ n ∷ []
rows_one unit q rows row n some = filter_map-append (row_number unit q) rows (row ∷ []) ∙ ap (λ list. row_numbers unit q rows ++ list) (one some)
  where
    one : row_number unit q row ≡ Some n → row_numbers unit q (row ∷ []) ≡ n ∷ []
    one e = rw e refl

-- A row that gets its answer keeps its number.
pub rows_marked : (unit : UnitId) (q : ℕ) (rows : List RowKey) (i : ℕ) (row : RowKey) → slice_get rows i ≡ Some row → row_numbers unit q (slice_set rows i (marked row)) ≡ row_numbers unit q rows
rows_marked unit q [] i row there = refl
rows_marked unit q (first ∷ rows) zero row there = subst (λ (r : RowKey). row_numbers unit q (marked r ∷ rows) ≡ row_numbers unit q (first ∷ rows)) (some_is first row there) refl
  where
    some_is : (a b : RowKey) → Some a ≡ Some b → a ≡ b
    some_is a b same = cc (same)
rows_marked unit q (first ∷ rows) (suc i) row there = rows_first unit q first rows (slice_set rows i (marked row)) (rows_marked unit q rows i row there)

-- WHAT IS KEPT -----------------------------------------------------------------------------------

-- The same requests and numbers of rows.
pub rows_to : (unit : UnitId) (session next : ℕ) (requests requests' : List Request) (rows rows' : List RowKey) → requests' ≡ requests → ((q : ℕ) → row_numbers unit q rows' ≡ row_numbers unit q rows)
    → KeepsRowsRising unit session next requests rows → KeepsRowsRising unit session next requests' rows'
rows_to unit session next requests requests' rows rows' same numbers is = record {
  each = λ q. subst Rise (sym (numbers q)) (is.each q);
  now = subst Rise both is.now;
  below = subst (AreBelow next) both is.below;
  later = λ q high. numbers q ∙ is.later q high;
}
  where
    both : row_numbers unit session rows ++ numbers_of requests ≡ row_numbers unit session rows' ++ numbers_of requests'
    both = λ i. (sym (numbers session)) i ++ numbers_of ((sym same) i)

-- The oldest request that is due is so no more.
rows_without : (unit : UnitId) (session next : ℕ) (front : Request) (rest : List Request) (rows : List RowKey) → KeepsRowsRising unit session next (front ∷ rest) rows
    → KeepsRowsRising unit session next rest rows
rows_without unit session next front rest rows is =
    let xs = row_numbers unit session rows in
    record { each = is.each; now = rise_without xs front.number (numbers_of rest) is.now; below = below_without next xs front.number (numbers_of rest) is.below; later = is.later }

-- The oldest request is pending no more, whether it had its row or not.
pub rows_popped : (unit : UnitId) (session next : ℕ) (has : Bool) (pending rest : List Request) (front : Request) (rows : List RowKey) → pending ≡ front ∷ rest
    → KeepsRowsRising unit session next (due has pending) rows → KeepsRowsRising unit session next rest rows
rows_popped unit session next true pending rest front rows parts is = subst (λ list. KeepsRowsRising unit session next (due true list) rows) parts is
rows_popped unit session next false pending rest front rows parts is =
    rows_without unit session next front rest rows (subst (λ (list : List Request). KeepsRowsRising unit session next list rows) parts is)

-- None is.
pub rows_none : (unit : UnitId) (session next : ℕ) (requests : List Request) (rows : List RowKey) → KeepsRowsRising unit session next requests rows → KeepsRowsRising unit session next [] rows
rows_none unit session next requests rows is =
    let xs = row_numbers unit session rows in
    record {
      each = is.each;
      now = subst Rise (sym (append-nil xs)) (rise_front xs (numbers_of requests) is.now);
      below = subst (AreBelow next) (sym (append-nil xs)) (below_front next xs (numbers_of requests) is.below);
      later = is.later;
    }

-- The next entry is a later one.
pub rows_later : (unit : UnitId) (session next next' : ℕ) (requests : List Request) (rows : List RowKey) → next ≤ next' → KeepsRowsRising unit session next requests rows
    → KeepsRowsRising unit session next' requests rows
rows_later unit session next next' requests rows most is =
    record { each = is.each; now = is.now; below = below_more next next' (row_numbers unit session rows ++ numbers_of requests) most is.below; later = is.later }

-- The one that was judged next is due behind the others.
rows_behind : (unit : UnitId) (session next next' : ℕ) (requests : List Request) (request : Request) (rows : List RowKey) → request.number ≡ next → next < next'
    → KeepsRowsRising unit session next requests rows → KeepsRowsRising unit session next' (requests ++ request ∷ []) rows
rows_behind unit session next next' requests request rows number later is =
    let xs = row_numbers unit session rows ++ numbers_of requests in
    let same : xs ++ request.number ∷ [] ≡ row_numbers unit session rows ++ numbers_of (requests ++ request ∷ []) =
    append_assoc (row_numbers unit session rows) (numbers_of requests) (request.number ∷ [])
    ∙ ap (λ list. row_numbers unit session rows ++ list) (sym (map-append (λ (r : Request). r.number) requests (request ∷ []))) in
    record {
      each = is.each;
      now = subst Rise same (rise_push xs request.number (subst (λ (n : ℕ). AreBelow n xs) (sym number) is.below) is.now);
      below = subst (AreBelow next') same (below_push next' xs request.number (subst (λ (n : ℕ). n < next') (sym number) later) (below_more next next' xs (less next next' later) is.below));
      later = is.later;
    }
  where
    less : (a b : ℕ) → a < b → a ≤ b
    less a b low = omega (arith, low)

-- It is pending behind the others.
pub rows_pushed : (unit : UnitId) (session next next' : ℕ) (has : Bool) (pending : List Request) (request : Request) (rows : List RowKey) → request.number ≡ next → next < next'
    → KeepsRowsRising unit session next (due has pending) rows → KeepsRowsRising unit session next' (due has (pending ++ request ∷ [])) rows
rows_pushed unit session next next' true [] request rows number later is = rows_later unit session next next' [] rows (less next next' later) is
  where
    less : (a b : ℕ) → a < b → a ≤ b
    less a b low = omega (arith, low)
rows_pushed unit session next next' true (front ∷ rest) request rows number later is = rows_behind unit session next next' rest request rows number later is
rows_pushed unit session next next' false pending request rows number later is = rows_behind unit session next next' pending request rows number later is

-- The oldest request that is due got its row.
pub rows_added : (unit : UnitId) (session next : ℕ) (front : Request) (rest : List Request) (rows : List RowKey) (row : RowKey) → row.unit ≡ unit → row.key.session ≡ session → row.key.number ≡ front.number
    → KeepsRowsRising unit session next (front ∷ rest) rows → KeepsRowsRising unit session next rest (rows ++ row ∷ [])
rows_added unit session next front rest rows row of in_session number_is is = record {
  each = λ q. at q (session == q) refl;
  now = subst Rise same is.now;
  below = subst (AreBelow next) same is.below;
  later = λ q high. rows_left unit q rows row (other q (ne_eqb session q (λ e. apart session q high e))) ∙ is.later q high;
}
  where
    own : row_number unit session row ≡ Some row.key.number
    own = subst (λ (u : UnitId). (if same_unit u unit && (row.key.session == session) then Some row.key.number else None) ≡ Some row.key.number) (sym of)
        (subst (λ (q : ℕ). (if same_unit unit unit && (q == session) then Some row.key.number else None) ≡ Some row.key.number) (sym in_session) (rw (own_line unit session) refl))

    grown : row_numbers unit session (rows ++ row ∷ []) ≡ row_numbers unit session rows ++ front.number ∷ []
    grown = rows_one unit session rows row row.key.number own ∙ ap (λ (n : ℕ). row_numbers unit session rows ++ n ∷ []) number_is

    same : row_numbers unit session rows ++ front.number ∷ numbers_of rest ≡ row_numbers unit session (rows ++ row ∷ []) ++ numbers_of rest
    same = sym (append_assoc (row_numbers unit session rows) (front.number ∷ []) (numbers_of rest)) ∙ ap (λ list. list ++ numbers_of rest) (sym grown)

    now : Rise (row_numbers unit session (rows ++ row ∷ []))
    now = rise_front (row_numbers unit session (rows ++ row ∷ [])) (numbers_of rest) (subst Rise same is.now)

    none_and : (a b : Bool) → b ≡ false → a && b ≡ false
    none_and true b e = e
    none_and false b e = refl

    apart : (a b : ℕ) → a < b → a ≡ b → ⊥
    apart a b high e = absurd (omega (arith, high, e))

    other : (q : ℕ) → (session == q) ≡ false → row_number unit q row ≡ None
    other q e = rw (none_and (same_unit row.unit unit) (row.key.session == q) (subst (λ (s : ℕ). (s == q) ≡ false) (sym in_session) e)) refl

    at : (q : ℕ) (b : Bool) → (session == q) ≡ b → Rise (row_numbers unit q (rows ++ row ∷ []))
    at q true e = subst (λ (n : ℕ). Rise (row_numbers unit n (rows ++ row ∷ []))) (eqb-true session q e) now
    at q false e = subst Rise (sym (rows_left unit q rows row (other q e))) (is.each q)

-- Another session begins while nothing is due.
pub rows_begun : (unit : UnitId) (session session' next next' : ℕ) (requests : List Request) (rows : List RowKey) → requests ≡ [] → session < session'
    → KeepsRowsRising unit session next requests rows → KeepsRowsRising unit session' next' requests rows
rows_begun unit session session' next next' requests rows none high is = record {
  each = is.each;
  now = subst Rise (sym empty) tt;
  below = subst (AreBelow next') (sym empty) tt;
  later = λ q above. is.later q (higher session session' q high above);
}
  where
    empty : row_numbers unit session' rows ++ numbers_of requests ≡ []
    empty = ap (λ list. list ++ numbers_of requests) (is.later session' high) ∙ ap numbers_of none

    higher : (a b c : ℕ) → a < b → b < c → a < c
    higher a b c low more = omega (arith, low, more)

-- A unit was made, among no rows.
pub rows_new : (unit : UnitId) (session next : ℕ) → KeepsRowsRising unit session next [] []
rows_new unit session next = record { each = λ q. tt; now = tt; below = tt; later = λ q high. refl }
