-- What the parts of a turn leave of what is counted as outstanding.
use Rattle.std.proofs.Common.{◌≡◌, ◌==◌, ◌&&◌, ◌+◌, ◌++◌, ◌≤◌, ℕ, zero, suc, Bool, true, false, All, List, [], ◌∷◌, Some, length, map, filter, slice_get, slice_set, refl, sym, ◌∙◌, ap, subst, arith, append_assoc}
use Rattle.std.proofs.lemmas.Bool.{eq-eqb, ne_eqb}
use Rattle.std.proofs.lemmas.List.{length-map}
use Rattle.std.proofs.lemmas.List.Elements.{All-cons, All-head, All-nil, All-tail, All-weaker}
use Rattle.vio_num.specs.declared.history.Grant.{Grant}
use Rattle.vio_num.specs.declared.history.Grant.TheVariants.{Granted, Lapsed}
use Rattle.vio_num.specs.declared.history.Lapse.TheVariants as lapses
use Rattle.vio_num.specs.declared.names.UnitId.{UnitId}
use Rattle.block_server.specs.Makers.{same_unit}
use Rattle.block_server.specs.Judged.{HasLimit, HasLogout, HasOpenRow, IsOn, IsOpenRow, Judged, RowKey, accepted, answered_under, ends, is_under, login_of, receipt_key, rows_under}
use Rattle.block_server.specs.declared.request.Order.TheVariants as orders
use Rattle.block_server.specs.declared.request.Request.{Request}
use Rattle.block_server.specs.declared.service.Stage.TheVariants as stages
use Rattle.block_server.proofs.Judging.{filter_first, filter_kept, filter_left, filter_pass}

pub same_self : (unit : UnitId) → same_unit unit unit ≡ true
same_self unit = both (unit.partition == unit.partition) (unit.unit == unit.unit) (eq-eqb unit.partition unit.partition refl) (eq-eqb unit.unit unit.unit refl)
  where
    both : (a b : Bool) → a ≡ true → b ≡ true → a && b ≡ true
    both a b x y = cc (x, y)

-- before it is served a request has no row
pub open_start : (unit : UnitId) (current : ℕ) (rows : List RowKey) → HasOpenRow unit current rows stages.Start
open_start unit current rows = λ place is. absurd (cc (is))

-- another entry that was judged
pub accepted_pass : (login : ℕ) (judged : List Judged) (j : Judged) → (login_of j.fate == login) ≡ false → accepted login (judged ++ j ∷ []) ≡ accepted login judged
accepted_pass login judged j other = ap (map (λ (x : Judged). receipt_key x.receipt)) (filter_left (λ (x : Judged). login_of x.fate == login) judged j other)

pub other_login : (a b : ℕ) → a ≡ 0 → 1 ≤ b → (a == b) ≡ false
other_login a b none some = ne_eqb a b (λ same. apart a b none some same)
  where
    apart : (a b : ℕ) → a ≡ 0 → 1 ≤ b → a ≡ b → ⊥
    apart a b none some same = absurd (omega (arith, none, some, same))

-- the lines on logins that ended as over limit, as rows come and entries are judged
limit_to : (unit : UnitId) (rows rows' : List RowKey) (judged judged' : List Judged) (line : Grant)
    → ((login : ℕ) → 1 ≤ login → ends unit login line ≡ true → (answered_under unit login rows' ≡ answered_under unit login rows) × (length (accepted login judged') ≡ length (accepted login judged)))
    → HasLimit unit rows judged line → HasLimit unit rows' judged' line
limit_to unit rows rows' judged judged' (Granted of session login number credits) same is = tt
limit_to unit rows rows' judged judged' (Lapsed of session login lapses.Logout outstanding granted) same is = tt
limit_to unit rows rows' judged judged' (Lapsed of session login lapses.Lost outstanding granted) same is = tt
limit_to unit rows rows' judged judged' (Lapsed of session login lapses.Early outstanding granted) same is = tt
limit_to unit rows rows' judged judged' (Lapsed of session login lapses.BadIu outstanding granted) same is = tt
limit_to unit rows rows' judged judged' (Lapsed of session login lapses.NotLogin outstanding granted) same is = tt
limit_to unit rows rows' judged judged' (Lapsed of session login lapses.Refused outstanding granted) same is = tt
limit_to unit rows rows' judged judged' (Lapsed of session login lapses.OverLimit outstanding granted) same is = λ own.
    let was = is own in
    let both = same login was.0 (ended (same_unit of unit) (login == login) own (eq-eqb login login refl)) in
    (was.0, ap (λ (n : ℕ). granted + n) both.0 ∙ was.1 ∙ sym both.1)
  where
    ended : (a b : Bool) → a ≡ true → b ≡ true → a && b ≡ true
    ended a b x y = cc (x, y)

pub limits_to : (unit : UnitId) (rows rows' : List RowKey) (judged judged' : List Judged) (grants : List Grant)
    → ((login : ℕ) → 1 ≤ login → (answered_under unit login rows' ≡ answered_under unit login rows) × (length (accepted login judged') ≡ length (accepted login judged)))
    → All (HasLimit unit rows judged) grants → All (HasLimit unit rows' judged') grants
limits_to unit rows rows' judged judged' grants same all =
    All-weaker (HasLimit unit rows judged) (HasLimit unit rows' judged') (λ line. limit_to unit rows rows' judged judged' line (λ login some ended. same login some)) grants all

-- and where only the login that is on is concerned
pub limits_on : (unit : UnitId) (current : ℕ) (rows rows' : List RowKey) (judged judged' : List Judged) (grants : List Grant) → IsOn unit current grants
    → ((login : ℕ) → 1 ≤ login → (current == login) ≡ false → (answered_under unit login rows' ≡ answered_under unit login rows) × (length (accepted login judged') ≡ length (accepted login judged)))
    → All (HasLimit unit rows judged) grants → All (HasLimit unit rows' judged') grants
limits_on unit current rows rows' judged judged' [] on same all = All-nil (HasLimit unit rows' judged')
limits_on unit current rows rows' judged judged' (line ∷ lines) on same all =
    at (λ none. limits_on unit current rows rows' judged judged' lines none same (All-tail (HasLimit unit rows judged) line lines all)) (ends unit current line) refl
  where
    at : (IsOn unit current lines → All (HasLimit unit rows' judged') lines) → (b : Bool) → ends unit current line ≡ b → All (HasLimit unit rows' judged') (line ∷ lines)
    at rest true ended = absurd (cc (sym (filter_first (ends unit current) line lines ended) ∙ on))
    at rest false lacks = All-cons (HasLimit unit rows' judged') line lines
        (limit_to unit rows rows' judged judged' line (λ login some ended. same login some (ne_eqb current login (λ e. apart login e ended))) (All-head (HasLimit unit rows judged) line lines all))
        (rest (sym (filter_pass (ends unit current) line lines lacks) ∙ on))
      where
        apart : (login : ℕ) → current ≡ login → ends unit login line ≡ true → ⊥
        apart login e ended = absurd (cc (lacks, ap (λ (n : ℕ). ends unit n line) e ∙ ended))

-- ROWS -------------------------------------------------------------------------------------------

-- a row without an answer came
pub answered_push : (unit : UnitId) (login : ℕ) (rows : List RowKey) (row : RowKey) → row.answered ≡ false → answered_under unit login (rows ++ row ∷ []) ≡ answered_under unit login rows
answered_push unit login rows row lacks = at (is_under unit login row) refl
  where
    at : (b : Bool) → is_under unit login row ≡ b → answered_under unit login (rows ++ row ∷ []) ≡ answered_under unit login rows
    at true is = ap (λ (xs : List RowKey). length (filter (λ (r : RowKey). r.answered) xs)) (filter_kept (is_under unit login) rows row is)
        ∙ ap length (filter_left (λ (r : RowKey). r.answered) (filter (is_under unit login) rows) row lacks)
    at false other = ap (λ (xs : List RowKey). length (filter (λ (r : RowKey). r.answered) xs)) (filter_left (is_under unit login) rows row other)

-- the row of the request that begins its service
pub open_last : (unit : UnitId) (current : ℕ) (rows : List RowKey) (row : RowKey) (place : ℕ) → place ≡ length rows → row.unit ≡ unit → row.login ≡ current → row.answered ≡ false
    → IsOpenRow unit current (rows ++ row ∷ []) place
open_last unit current rows row place at unit_is login_is lacks =
    record { row = row; there = subst (λ (n : ℕ). slice_get (rows ++ row ∷ []) n ≡ Some row) (sym at) (last rows row); unit_is = unit_is; login_is = login_is; open_is = lacks }
  where
    last : (rows : List RowKey) (row : RowKey) → slice_get (rows ++ row ∷ []) (length rows) ≡ Some row
    last [] row = refl
    last (first ∷ rows) row = last rows row

-- a row with its answer
abbrev pub marked : RowKey → RowKey
marked row = record row { answered = true }

some_is : (a b : RowKey) → Some a ≡ Some b → a ≡ b
some_is a b same = cc (same)

-- of a login the rows are the same as one of them gets its answer, and it is counted
pub mark_under : (unit : UnitId) (login : ℕ) (rows : List RowKey) (i : ℕ) (row : RowKey) → slice_get rows i ≡ Some row → rows_under unit login (slice_set rows i (marked row)) ≡ rows_under unit login rows
mark_under unit login [] i row there = refl
mark_under unit login (first ∷ rows) zero row there =
    subst (λ (r : RowKey). rows_under unit login (marked r ∷ rows) ≡ rows_under unit login (first ∷ rows)) (some_is first row there) (at (is_under unit login first) refl)
  where
    at : (b : Bool) → is_under unit login first ≡ b → rows_under unit login (marked first ∷ rows) ≡ rows_under unit login (first ∷ rows)
    at true is = ap (map (λ (r : RowKey). r.key)) (filter_first (is_under unit login) (marked first) rows is) ∙ sym (ap (map (λ (r : RowKey). r.key)) (filter_first (is_under unit login) first rows is))
    at false other = ap (map (λ (r : RowKey). r.key)) (filter_pass (is_under unit login) (marked first) rows other ∙ sym (filter_pass (is_under unit login) first rows other))
mark_under unit login (first ∷ rows) (suc i) row there = at (mark_under unit login rows i row there) (is_under unit login first) refl
  where
    at : rows_under unit login (slice_set rows i (marked row)) ≡ rows_under unit login rows → (b : Bool) → is_under unit login first ≡ b → rows_under unit login (first ∷ slice_set rows i (marked row)) ≡ rows_under unit login (first ∷ rows)
    at rest true is = ap (map (λ (r : RowKey). r.key)) (filter_first (is_under unit login) first (slice_set rows i (marked row)) is) ∙ ap (λ keys. first.key ∷ keys) rest
        ∙ sym (ap (map (λ (r : RowKey). r.key)) (filter_first (is_under unit login) first rows is))
    at rest false other = ap (map (λ (r : RowKey). r.key)) (filter_pass (is_under unit login) first (slice_set rows i (marked row)) other) ∙ rest
        ∙ sym (ap (map (λ (r : RowKey). r.key)) (filter_pass (is_under unit login) first rows other))

count_open : (unit : UnitId) (login : ℕ) (row : RowKey) (rows : List RowKey) → is_under unit login row ≡ true → row.answered ≡ false → answered_under unit login (row ∷ rows) ≡ answered_under unit login rows
count_open unit login row rows under lacks = ap (λ (xs : List RowKey). length (filter (λ (r : RowKey). r.answered) xs)) (filter_first (is_under unit login) row rows under)
    ∙ ap length (filter_pass (λ (r : RowKey). r.answered) row (filter (is_under unit login) rows) lacks)

count_done : (unit : UnitId) (login : ℕ) (row : RowKey) (rows : List RowKey) → is_under unit login row ≡ true → row.answered ≡ true → answered_under unit login (row ∷ rows) ≡ suc (answered_under unit login rows)
count_done unit login row rows under done = ap (λ (xs : List RowKey). length (filter (λ (r : RowKey). r.answered) xs)) (filter_first (is_under unit login) row rows under)
    ∙ ap length (filter_first (λ (r : RowKey). r.answered) row (filter (is_under unit login) rows) done)

count_apart : (unit : UnitId) (login : ℕ) (row : RowKey) (rows : List RowKey) → is_under unit login row ≡ false → answered_under unit login (row ∷ rows) ≡ answered_under unit login rows
count_apart unit login row rows other = ap (λ (xs : List RowKey). length (filter (λ (r : RowKey). r.answered) xs)) (filter_pass (is_under unit login) row rows other)

pub mark_here : (unit : UnitId) (login : ℕ) (rows : List RowKey) (i : ℕ) (row : RowKey) → slice_get rows i ≡ Some row → is_under unit login row ≡ true → row.answered ≡ false
    → answered_under unit login (slice_set rows i (marked row)) ≡ suc (answered_under unit login rows)
mark_here unit login [] i row there under lacks = absurd (cc (there))
mark_here unit login (first ∷ rows) zero row there under lacks =
    let same = some_is first row there in
    count_done unit login (marked row) rows under refl
    ∙ ap suc (sym (count_open unit login first rows (ap (is_under unit login) same ∙ under) (ap (λ (r : RowKey). r.answered) same ∙ lacks)))
mark_here unit login (first ∷ rows) (suc i) row there under lacks = at (mark_here unit login rows i row there under lacks) (is_under unit login first) refl first.answered refl
  where
    at : answered_under unit login (slice_set rows i (marked row)) ≡ suc (answered_under unit login rows) → (b : Bool) → is_under unit login first ≡ b → (a : Bool) → first.answered ≡ a → answered_under unit login (first ∷ slice_set rows i (marked row)) ≡ suc (answered_under unit login (first ∷ rows))
    at rest true is true done = count_done unit login first (slice_set rows i (marked row)) is done ∙ ap suc rest ∙ ap suc (sym (count_done unit login first rows is done))
    at rest true is false lacks = count_open unit login first (slice_set rows i (marked row)) is lacks ∙ rest ∙ ap suc (sym (count_open unit login first rows is lacks))
    at rest false other a answered = count_apart unit login first (slice_set rows i (marked row)) other ∙ rest ∙ ap suc (sym (count_apart unit login first rows other))

pub mark_other : (unit : UnitId) (login : ℕ) (rows : List RowKey) (i : ℕ) (row : RowKey) → slice_get rows i ≡ Some row → is_under unit login row ≡ false
    → answered_under unit login (slice_set rows i (marked row)) ≡ answered_under unit login rows
mark_other unit login [] i row there other = refl
mark_other unit login (first ∷ rows) zero row there other =
    count_apart unit login (marked row) rows other ∙ sym (count_apart unit login first rows (ap (is_under unit login) (some_is first row there) ∙ other))
mark_other unit login (first ∷ rows) (suc i) row there none = at (mark_other unit login rows i row there none) (is_under unit login first) refl first.answered refl
  where
    at : answered_under unit login (slice_set rows i (marked row)) ≡ answered_under unit login rows → (b : Bool) → is_under unit login first ≡ b → (a : Bool) → first.answered ≡ a → answered_under unit login (first ∷ slice_set rows i (marked row)) ≡ answered_under unit login (first ∷ rows)
    at rest true is true done = count_done unit login first (slice_set rows i (marked row)) is done ∙ ap suc rest ∙ sym (count_done unit login first rows is done)
    at rest true is false lacks = count_open unit login first (slice_set rows i (marked row)) is lacks ∙ rest ∙ sym (count_open unit login first rows is lacks)
    at rest false other a answered = count_apart unit login first (slice_set rows i (marked row)) other ∙ rest ∙ sym (count_apart unit login first rows other)

pub mark_all : (P : RowKey → Type 0) (rows : List RowKey) (i : ℕ) (row : RowKey) → slice_get rows i ≡ Some row → ((r : RowKey) → P r → P (marked r)) → All P rows → All P (slice_set rows i (marked row))
mark_all P [] i row there keeps all = All-nil P
mark_all P (first ∷ rows) zero row there keeps all =
    All-cons P (marked row) rows (keeps row (subst P (some_is first row there) (All-head P first rows all))) (All-tail P first rows all)
mark_all P (first ∷ rows) (suc i) row there keeps all = All-cons P first (slice_set rows i (marked row)) (All-head P first rows all) (mark_all P rows i row there keeps (All-tail P first rows all))

-- one that has none leaves fewer answers than rows
next_most : (a b : ℕ) → a ≤ b → suc a ≤ suc b
next_most a b low = omega (arith, low)

later_most : (a b : ℕ) → a ≤ b → a ≤ suc b
later_most a b low = omega (arith, low)

most_under : (unit : UnitId) (login : ℕ) (rows : List RowKey) → answered_under unit login rows ≤ length (filter (is_under unit login) rows)
most_under unit login [] = omega arith
most_under unit login (first ∷ rows) = at (most_under unit login rows) (is_under unit login first) refl first.answered refl
  where
    at : answered_under unit login rows ≤ length (filter (is_under unit login) rows) → (b : Bool) → is_under unit login first ≡ b → (a : Bool) → first.answered ≡ a → answered_under unit login (first ∷ rows) ≤ length (filter (is_under unit login) (first ∷ rows))
    at rest true is true done = subst (λ (z : ℕ × ℕ). z.0 ≤ z.1) (λ i. ((sym (count_done unit login first rows is done)) i, (sym (ap length (filter_first (is_under unit login) first rows is))) i))
        (next_most _ _ rest)
    at rest true is false lacks = subst (λ (z : ℕ × ℕ). z.0 ≤ z.1) (λ i. ((sym (count_open unit login first rows is lacks)) i, (sym (ap length (filter_first (is_under unit login) first rows is))) i))
        (later_most _ _ rest)
    at rest false other a answered = subst (λ (z : ℕ × ℕ). z.0 ≤ z.1) (λ i. ((sym (count_apart unit login first rows other)) i, (sym (ap length (filter_pass (is_under unit login) first rows other))) i))
        rest

pub open_room : (unit : UnitId) (login : ℕ) (rows : List RowKey) (i : ℕ) (row : RowKey) → slice_get rows i ≡ Some row → is_under unit login row ≡ true → row.answered ≡ false
    → suc (answered_under unit login rows) ≤ length (filter (is_under unit login) rows)
open_room unit login rows i row there under lacks =
    subst (λ (z : ℕ × ℕ). z.0 ≤ z.1) (λ k. ((mark_here unit login rows i row there under lacks) k, same k)) (most_under unit login (slice_set rows i (marked row)))
  where
    same : length (filter (is_under unit login) (slice_set rows i (marked row))) ≡ length (filter (is_under unit login) rows)
    same = sym (length-map (filter (is_under unit login) (slice_set rows i (marked row))) (λ (r : RowKey). r.key)) ∙ ap length (mark_under unit login rows i row there)
        ∙ length-map (filter (is_under unit login) rows) (λ (r : RowKey). r.key)

-- nothing is answered under a login without rows
pub none_answered : (unit : UnitId) (login : ℕ) (rows : List RowKey) → rows_under unit login rows ≡ [] → answered_under unit login rows ≡ 0
none_answered unit login rows none = ap (λ (xs : List RowKey). length (filter (λ (r : RowKey). r.answered) xs)) (empty (filter (is_under unit login) rows) none)
  where
    empty : (xs : List RowKey) → map (λ (r : RowKey). r.key) xs ≡ [] → xs ≡ []
    empty [] none = refl
    empty (x ∷ xs) none = absurd (cc (none))

-- LOGOUTS ----------------------------------------------------------------------------------------

-- behind another request the logout is pending still
pub logout_rest : (front : Request) (rest pending : List Request) → pending ≡ front ∷ rest → (front.order ≡ orders.Logout → ⊥) → HasLogout pending → HasLogout rest
logout_rest front rest pending parts other has = at has.before (sym parts ∙ has.parts)
  where
    at : (before : List Request) → front ∷ rest ≡ before ++ has.request ∷ has.after → HasLogout rest
    at [] same = absurd (other (ap (λ (r : Request). r.order) (head same) ∙ has.asks))
      where
        head : front ∷ rest ≡ has.request ∷ has.after → front ≡ has.request
        head same = cc (same)
    at (x ∷ before) same = record { before = before; request = has.request; after = has.after; parts = tail same; asks = has.asks }
      where
        tail : front ∷ rest ≡ x ∷ (before ++ has.request ∷ has.after) → rest ≡ before ++ has.request ∷ has.after
        tail same = cc (same)

pub logout_more : (pending : List Request) (request : Request) → HasLogout pending → HasLogout (pending ++ request ∷ [])
logout_more pending request has = record {
  before = has.before;
  request = has.request;
  after = has.after ++ request ∷ [];
  parts = ap (λ (rs : List Request). rs ++ request ∷ []) has.parts ∙ append_assoc has.before (has.request ∷ has.after) (request ∷ []);
  asks = has.asks;
}
