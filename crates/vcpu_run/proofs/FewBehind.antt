-- Of the rows of a login and of those behind it, how many have their answers: over a turn of the unit, and of another one.
use Rattle.std.specs.Prelude.{⊤}
use Rattle.std.proofs.Common.{◌≡◌, ◌≢◌, ◌⊎◌, inl, inr, ◌∙◌, ◌+◌, ◌<◌, ◌≤◌, ◌++◌, ℕ, zero, suc, Bool, true, false, cond, List, [], ◌∷◌, Some, filter, get_or, length, map, slice_get, refl, sym, ap, subst, arith, append-nil, append_assoc, eq-eqb, length-append}
use Rattle.std.proofs.lemmas.List.Elements.{All-cons, All-head, All-tail, filter-append}
use Rattle.std.proofs.lemmas.Option.{slice_get-get_or}
use Rattle.vio_num.specs.declared.entry.Entry.{Entry}
use Rattle.vio_num.specs.declared.history.Grant.{Grant}
use Rattle.vio_num.specs.declared.history.Grant.TheVariants.{Granted}
use Rattle.vio_num.specs.declared.history.Served.{Served}
use Rattle.vio_num.specs.declared.names.UnitId.{UnitId}
use Rattle.crq_session.specs.EndState.{EndState}
use Rattle.block_server.specs.Answering.{OnlyRowsOf, StaysRow, answers_of, is_answered_row}
use Rattle.block_server.specs.Books.{books_seen}
use Rattle.block_server.specs.Judged.{AreKept, Judged, RowKey, is_under, keys_of, row_key, rows_under}
use Rattle.block_server.specs.Makers.{same_unit}
use Rattle.block_server.specs.Numbers.{NameLogins, granted_to, grants_to}
use Rattle.block_server.specs.declared.unit.Unit.{Unit}
use Rattle.block_server.proofs.AnswerLaws.{answers_of_others}
use Rattle.block_server.proofs.Judging.{unit_self}
use Rattle.block_server.proofs.Rows.{answers_append, answers_skip, answers_take, blank_row}
use Rattle.vcpu_run.specs.LastGiven.{AreEarlier, HasFewBehind}
use Rattle.vcpu_run.proofs.CutLogins.{line_is, which}

-- ROWS -------------------------------------------------------------------------------------------

-- one row for each, as it was or changed
abbrev AreLike : UnitId → List Served → List Served → Type 0
AreLike unit [] [] = ⊤
AreLike unit [] (new ∷ news) = ⊥
AreLike unit (row ∷ rows) [] = ⊥
AreLike unit (row ∷ rows) (new ∷ news) = StaysRow unit row new × AreLike unit rows news

record SplitsRows (unit : UnitId) (before behind rows : List Served) : Type 0 where
  pub before' : List Served
  pub behind' : List Served
  pub parts : rows ≡ before' ++ behind'
  pub like : AreLike unit before before'
  pub rest : OnlyRowsOf unit behind behind'

split_rows : (unit : UnitId) (before behind rows : List Served) → OnlyRowsOf unit (before ++ behind) rows → SplitsRows unit before behind rows
split_rows unit [] behind rows only = record { before' = []; behind' = rows; parts = refl; like = tt; rest = only }
split_rows unit (row ∷ before) behind [] only = absurd only
split_rows unit (row ∷ before) behind (new ∷ rows) only =
    let is = split_rows unit before behind rows only.1 in
    record { before' = new ∷ is.before'; behind' = is.behind'; parts = ap (λ (l : List Served). new ∷ l) is.parts; like = (only.0, is.like); rest = is.rest }

-- an answer more at most
row_more : (unit : UnitId) (row : Served) (rows : List Served) → length (answers_of unit rows) ≤ length (answers_of unit (row ∷ rows))
row_more unit row rows = at (is_answered_row unit row) refl
  where
    at : (b : Bool) → is_answered_row unit row ≡ b → length (answers_of unit rows) ≤ length (answers_of unit (row ∷ rows))
    at true is = let long = ap length (answers_take unit row rows is) in omega (arith, long)
    at false is = let long = ap length (answers_skip unit row rows is) in omega (arith, long)

same_more : (unit : UnitId) (row : Served) (rows news : List Served) → length (answers_of unit rows) ≤ length (answers_of unit news)
    → length (answers_of unit (row ∷ rows)) ≤ length (answers_of unit (row ∷ news))
same_more unit row rows news less = at (is_answered_row unit row) refl
  where
    at : (b : Bool) → is_answered_row unit row ≡ b → length (answers_of unit (row ∷ rows)) ≤ length (answers_of unit (row ∷ news))
    at true is =
        let long = ap length (answers_take unit row rows is) in
        let whole = ap length (answers_take unit row news is) in
        omega (arith, less, long, whole)
    at false is =
        let long = ap length (answers_skip unit row rows is) in
        let whole = ap length (answers_skip unit row news is) in
        omega (arith, less, long, whole)

-- no answer is gone
like_more : (unit : UnitId) (rows news : List Served) → AreLike unit rows news → length (answers_of unit rows) ≤ length (answers_of unit news)
like_more unit [] [] like = omega arith
like_more unit [] (new ∷ news) like = absurd like
like_more unit (row ∷ rows) [] like = absurd like
like_more unit (row ∷ rows) (new ∷ news) like = at like.0 (like_more unit rows news like.1)
  where
    at : StaysRow unit row new → length (answers_of unit rows) ≤ length (answers_of unit news) → length (answers_of unit (row ∷ rows)) ≤ length (answers_of unit (new ∷ news))
    at (inl same) less = subst (λ (r : Served). length (answers_of unit (row ∷ rows)) ≤ length (answers_of unit (r ∷ news))) (sym same) (same_more unit row rows news less)
    at (inr changed) less =
        let long = ap length (answers_skip unit row rows (blank_row unit row changed.unanswered)) in
        let more = row_more unit new news in
        omega (arith, less, long, more)

-- nor is a row of a later login
earlier_like : (unit : UnitId) (login : ℕ) (rows news : List Served) → AreLike unit rows news → AreEarlier unit login rows → AreEarlier unit login news
earlier_like unit login [] [] like all = all
earlier_like unit login [] (new ∷ news) like all = absurd like
earlier_like unit login (row ∷ rows) [] like all = absurd like
earlier_like unit login (row ∷ rows) (new ∷ news) like all =
    All-cons (λ (r : Served). r.unit ≡ unit → r.login < login) new news (at like.0)
    (earlier_like unit login rows news like.1 (All-tail (λ (r : Served). r.unit ≡ unit → r.login < login) row rows all))
  where
    first : row.unit ≡ unit → row.login < login
    first = All-head (λ (r : Served). r.unit ≡ unit → r.login < login) row rows all

    at : StaysRow unit row new → new.unit ≡ unit → new.login < login
    at (inl same) own = subst (λ (r : Served). r.login < login) (sym same) (first (sym (ap (λ (r : Served). r.unit) same) ∙ own))
    at (inr changed) own = subst (λ n. n < login) (sym changed.login) (first changed.was)

earlier_others : (unit other : UnitId) (login : ℕ) (rows news : List Served) → other ≢ unit → AreLike other rows news → AreEarlier unit login rows → AreEarlier unit login news
earlier_others unit other login [] [] apart like all = all
earlier_others unit other login [] (new ∷ news) apart like all = absurd like
earlier_others unit other login (row ∷ rows) [] apart like all = absurd like
earlier_others unit other login (row ∷ rows) (new ∷ news) apart like all =
    All-cons (λ (r : Served). r.unit ≡ unit → r.login < login) new news (at like.0)
    (earlier_others unit other login rows news apart like.1 (All-tail (λ (r : Served). r.unit ≡ unit → r.login < login) row rows all))
  where
    first : row.unit ≡ unit → row.login < login
    first = All-head (λ (r : Served). r.unit ≡ unit → r.login < login) row rows all

    at : StaysRow other row new → new.unit ≡ unit → new.login < login
    at (inl same) own = subst (λ (r : Served). r.login < login) (sym same) (first (sym (ap (λ (r : Served). r.unit) same) ∙ own))
    at (inr changed) own = absurd (apart (sym changed.is ∙ own))

-- A turn of the unit, in which so many answers came.
pub few_served : (unit : UnitId) (login count : ℕ) (rows news : List Served) (more : List Entry) → OnlyRowsOf unit rows news → answers_of unit news ≡ answers_of unit rows ++ more
    → HasFewBehind unit login count rows → HasFewBehind unit login (count + length more) news
few_served unit login count rows news more only came is =
    let split = split_rows unit is.before is.behind news (subst (λ (l : List Served). OnlyRowsOf unit l news) is.parts only) in
    let first = like_more unit is.before split.before' split.like in
    let long = ap length came in
    let sum = length-append (answers_of unit rows) more in
    let old = ap length (ap (answers_of unit) is.parts ∙ answers_append unit is.before is.behind) in
    let old_sum = length-append (answers_of unit is.before) (answers_of unit is.behind) in
    let new = ap length (ap (answers_of unit) split.parts ∙ answers_append unit split.before' split.behind') in
    let new_sum = length-append (answers_of unit split.before') (answers_of unit split.behind') in
    let few = is.few in
    record {
      before = split.before';
      behind = split.behind';
      parts = split.parts;
      earlier = earlier_like unit login is.before split.before' split.like is.earlier;
      few = omega (arith, first, long, sum, old, old_sum, new, new_sum, few);
    }

-- A login of which there is no row before, nor of a later one.
pub few_none : (unit : UnitId) (login : ℕ) (rows : List Served) → AreEarlier unit login rows → HasFewBehind unit login 0 rows
few_none unit login rows earlier = record { before = rows; behind = []; parts = sym (append-nil rows); earlier = earlier; few = omega arith }

-- A turn of another unit.
pub few_elsewhere : (unit other : UnitId) (login count : ℕ) (rows news : List Served) → other ≢ unit → OnlyRowsOf other rows news → HasFewBehind unit login count rows → HasFewBehind unit login count news
few_elsewhere unit other login count rows news apart only is =
    let split = split_rows other is.before is.behind news (subst (λ (l : List Served). OnlyRowsOf other l news) is.parts only) in
    record {
      before = split.before';
      behind = split.behind';
      parts = split.parts;
      earlier = earlier_others unit other login is.before split.before' apart split.like is.earlier;
      few = subst (λ (es : List Entry). length es ≤ count) (sym (answers_of_others other unit is.behind split.behind' (λ e. apart (sym e)) split.rest)) is.few;
    }

pub few_more : (unit : UnitId) (login count most : ℕ) (rows : List Served) → count ≤ most → HasFewBehind unit login count rows → HasFewBehind unit login most rows
few_more unit login count most rows less is =
    let few = is.few in
    record { before = is.before; behind = is.behind; parts = is.parts; earlier = is.earlier; few = omega (arith, less, few) }

-- LOGINS -----------------------------------------------------------------------------------------

-- a row is one of those under its login
under_some : (unit : UnitId) (rows : List Served) (k : ℕ) (row : Served) → slice_get rows k ≡ Some row → row.unit ≡ unit → rows_under unit row.login (keys_of rows) ≡ [] → ⊥
under_some unit [] k row there own none = absurd (cc (there))
under_some unit (first ∷ rows) k row there own none = at (λ n found left. under_some unit rows n row found own left) k there (is_under unit row.login (row_key first)) refl
  where
    rest : List RowKey
    rest = filter (is_under unit row.login) (keys_of rows)

    under : (b : Bool) → is_under unit row.login (row_key first) ≡ b → map (λ r. r.key) (cond b (row_key first ∷ rest) rest) ≡ []
    under b is = subst (λ b. map (λ r. r.key) (cond b (row_key first ∷ rest) rest) ≡ []) is none

    row_is : (a b : Served) → Some a ≡ Some b → a ≡ b
    row_is a b e = cc (e)

    unit_is : (u : UnitId) → u ≡ unit → same_unit u unit ≡ true
    unit_is u e = ap (λ (v : UnitId). same_unit v unit) e ∙ unit_self unit

    mine : is_under unit row.login (row_key row) ≡ true
    mine = cc (unit_is row.unit own, eq-eqb row.login row.login refl)

    at : ((n : ℕ) → slice_get rows n ≡ Some row → rows_under unit row.login (keys_of rows) ≡ [] → ⊥) → (k : ℕ) → slice_get (first ∷ rows) k ≡ Some row
        → (b : Bool) → is_under unit row.login (row_key first) ≡ b → ⊥
    at more k found true is = absurd (cc (under true is))
    at more zero found false is = absurd (cc (sym is ∙ ap (λ (r : Served). is_under unit row.login (row_key r)) (row_is first row found), mine))
    at more (suc k) found false is = more k found (under false is)

no_front : {X : Type 0} (xs ys : List X) → [] ≡ xs ++ ys → xs ≡ []
no_front [] ys e = refl
no_front (x ∷ xs) ys e = absurd (cc (e))

-- Between turns each row is of a login that was granted, so of none that is to come.
pub rows_earlier : (unit : Unit) (id : UnitId) (queue : EndState) (history : List Served) (grants : List Grant) (judged : List Judged) → AreKept (books_seen unit id queue history grants) judged
    → (login : ℕ) → granted_to id grants < login → AreEarlier id login history
rows_earlier unit id queue history grants judged kept login less k d within own =
    let row : Served = get_or history k d in
    let there = slice_get-get_or history k d within in
    at row there own (below row.login)
  where
    at : (row : Served) → slice_get history k ≡ Some row → row.unit ≡ id → (row.login < login) ⊎ (login ≤ row.login) → row.login < login
    at row there own (inl is) = is
    at row there own (inr late) =
        let count = kept.numbers.count in
        let last : unit.logins.last < row.login = omega (arith, count, less, late) in
        let served = kept.served row.login (omega (arith, last)) in
        absurd (under_some id history k row there own (no_front (rows_under id row.login (keys_of history)) served.rest (sym (kept.counted.none_later row.login last) ∙ served.in_order)))

    below : (n : ℕ) → (n < login) ⊎ (login ≤ n)
    below n = by (which n login)
      where
        by : (n < login) ⊎ ((n ≡ login) ⊎ (login < n)) → (n < login) ⊎ (login ≤ n)
        by (inl is) = inl is
        by (inr (inl is)) = inr (omega (arith, is))
        by (inr (inr is)) = inr (omega (arith, is))

granted_more : (unit : UnitId) (before : List Grant) (line : Grant) → granted_to unit before ≤ granted_to unit (before ++ line ∷ [])
granted_more unit before line =
    let long = ap length (filter-append (grants_to unit) before (line ∷ [])) in
    let sum = length-append (filter (grants_to unit) before) (filter (grants_to unit) (line ∷ [])) in
    omega (arith, long, sum)

names_behind : (unit : UnitId) (before xs ys : List Grant) → NameLogins unit before (xs ++ ys) → NameLogins unit (before ++ xs) ys
names_behind unit before [] ys names = subst (λ (l : List Grant). NameLogins unit l ys) (sym (append-nil before)) names
names_behind unit before (x ∷ xs) ys names =
    subst (λ (l : List Grant). NameLogins unit l ys) (append_assoc before (x ∷ []) xs) (names_behind unit (before ++ x ∷ []) xs ys names.1)

named_above : (unit : UnitId) (before lines : List Grant) (p session login number credits : ℕ) → NameLogins unit before lines → slice_get lines p ≡ Some (Granted unit session login number credits)
    → granted_to unit before < login
named_above unit before [] p session login number credits names there = absurd (cc (there))
named_above unit before (line ∷ lines) zero session login number credits names there =
    let grant : Grant = Granted unit session login number credits in
    let named = subst (λ (l : Grant). NameLogins unit before (l ∷ [])) (line_is line grant there) (names.0, tt) in
    let next = (named.0 (unit_self unit)).0 in
    omega (arith, next)
named_above unit before (line ∷ lines) (suc p) session login number credits names there =
    let less = named_above unit (before ++ line ∷ []) lines p session login number credits names.1 there in
    let more = granted_more unit before line in
    omega (arith, less, more)

-- A line behind others grants a login that is above all that they grant.
pub granted_above : (unit : UnitId) (grants more : List Grant) (p session login number credits : ℕ) → NameLogins unit [] (grants ++ more)
    → slice_get more p ≡ Some (Granted unit session login number credits) → granted_to unit grants < login
granted_above unit grants more p session login number credits names there = named_above unit grants more p session login number credits (names_behind unit [] grants more names) there
