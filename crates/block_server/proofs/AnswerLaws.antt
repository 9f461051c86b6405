-- What becomes of the row in service, and of the answers of a unit's rows.
use Rattle.std.proofs.Common.{◌≡◌, ◌≢◌, inl, inr, ℕ, suc, ◌++◌, ◌==◌, ◌&&◌, Bool, true, false, All, List, [], ◌∷◌, length, refl, sym, ◌∙◌, ap, subst, append-nil, Some, slice_get, slice_set}
use Rattle.std.proofs.lemmas.List.Elements.{All-head, All-tail}
use Rattle.std.proofs.lemmas.Bool.{eqb-true}
use Rattle.vio_num.specs.declared.names.UnitId.{UnitId}
use Rattle.vio_num.specs.declared.history.Served.{Served}
use Rattle.vio_num.specs.Entry.{srp_entry}
use Rattle.srp_iu.specs.Layout.{field}
use Rattle.block_server.specs.Answering.{IsInService, OnlyRowsOf, StaysRow, answer_entry, answers_of, has_bytes, is_answered_row}
use Rattle.block_server.specs.Records.{AnswersRow, FillsRow}
use Rattle.block_server.proofs.Rows.{answered_row, answers_append, answers_skip, answers_take, blank_row, stays_set}

-- a row of another unit is no answered one of this
other_row : (unit other : UnitId) (row : Served) → other ≢ unit → row.unit ≡ unit → is_answered_row other row ≡ false
other_row unit other row apart is = by (row.unit.partition == other.partition) refl (row.unit.unit == other.unit) refl
  where
    by : (p : Bool) → (row.unit.partition == other.partition) ≡ p → (u : Bool) → (row.unit.unit == other.unit) ≡ u → ((p && u) && has_bytes row.answer) ≡ false
    by true p_is true u_is =
        absurd (apart (sym (λ i. record { partition = eqb-true row.unit.partition other.partition p_is i; unit = eqb-true row.unit.unit other.unit u_is i }) ∙ is))
    by true p_is false u_is = refl
    by false p_is u u_is = refl

none_of_others : (unit other : UnitId) (rows : List Served) → other ≢ unit → All (λ row. row.unit ≡ unit) rows → answers_of other rows ≡ []
none_of_others unit other [] apart all = refl
none_of_others unit other (row ∷ rows) apart all =
    answers_skip other row rows (other_row unit other row apart (All-head (λ row. row.unit ≡ unit) row rows all))
    ∙ none_of_others unit other rows apart (All-tail (λ row. row.unit ≡ unit) row rows all)

-- the same row before rows with the same answers
same_row : (unit : UnitId) (x y : Served) (xs ys : List Served) → y ≡ x → answers_of unit ys ≡ answers_of unit xs → answers_of unit (y ∷ ys) ≡ answers_of unit (x ∷ xs)
same_row unit x y xs ys same rest = ap (λ row. answers_of unit (row ∷ ys)) same ∙ by (is_answered_row unit x) refl
  where
    by : (b : Bool) → is_answered_row unit x ≡ b → answers_of unit (x ∷ ys) ≡ answers_of unit (x ∷ xs)
    by true e = answers_take unit x ys e ∙ ap (λ list. answer_entry x ∷ list) rest ∙ sym (answers_take unit x xs e)
    by false e = answers_skip unit x ys e ∙ rest ∙ sym (answers_skip unit x xs e)

pub answers_of_others : (unit other : UnitId) (rows news : List Served) → other ≢ unit → OnlyRowsOf unit rows news → answers_of other news ≡ answers_of other rows
answers_of_others unit other [] news apart only = none_of_others unit other news apart only
answers_of_others unit other (row ∷ rows) [] apart only = absurd only
answers_of_others unit other (row ∷ rows) (new ∷ news) apart only = by only.0 (answers_of_others unit other rows news apart only.1)
  where
    by : StaysRow unit row new → answers_of other news ≡ answers_of other rows → answers_of other (new ∷ news) ≡ answers_of other (row ∷ rows)
    by (inl same) rest = same_row other row new rows news same rest
    by (inr both) rest = answers_skip other new news (other_row unit other new apart both.is) ∙ rest ∙ sym (answers_skip other row rows (other_row unit other row apart both.was))

-- a row of another unit stays where it is
pub record Stays (other : UnitId) (before : List Served) (served : Served) (behind news : List Served) : Type 0 where
  pub before' : List Served
  pub behind' : List Served
  pub news_are : news ≡ before' ++ served ∷ behind'
  pub place : length before' ≡ length before
  pub last : answers_of other behind' ≡ answers_of other behind

pub stays : (unit other : UnitId) (before : List Served) (served : Served) (behind news : List Served) → other ≢ unit → served.unit ≡ other
    → OnlyRowsOf unit (before ++ served ∷ behind) news → Stays other before served behind news
stays unit other [] served behind [] apart is only = absurd only
stays unit other [] served behind (new ∷ news) apart is only = by only.0
  where
    by : StaysRow unit served new → Stays other [] served behind (new ∷ news)
    by (inl same) = record {
      before' = [];
      behind' = news;
      news_are = ap (λ row. row ∷ news) same;
      place = refl;
      last = answers_of_others unit other behind news apart only.1;
    }
    by (inr both) = absurd (apart (sym is ∙ both.was))
stays unit other (x ∷ xs) served behind [] apart is only = absurd only
stays unit other (x ∷ xs) served behind (new ∷ news) apart is only =
    let rest = stays unit other xs served behind news apart is only.1 in
    record {
      before' = new ∷ rest.before';
      behind' = rest.behind';
      news_are = ap (λ list. new ∷ list) rest.news_are;
      place = ap suc rest.place;
      last = rest.last;
    }

-- What another unit does leaves the row in service.
abbrev pub in_service_stays : (unit other : UnitId) (iu : List ℕ) (history history' : List Served) (row : ℕ) → other ≢ unit
    → OnlyRowsOf unit history history' → IsInService other iu history row → IsInService other iu history' row
in_service_stays unit other iu history history' row apart only is =
    let kept = stays unit other is.before is.served is.behind history' apart is.unit_is (subst (λ h. OnlyRowsOf unit h history') is.history_is only) in
    record {
      before = kept.before';
      served = is.served;
      behind = kept.behind';
      history_is = kept.news_are;
      row_is = is.row_is ∙ sym kept.place;
      unit_is = is.unit_is;
      iu_is = is.iu_is;
      unanswered = is.unanswered;
      last = kept.last ∙ is.last;
    }

-- A blank row that was added is in service.
abbrev pub in_service_new : (unit : UnitId) (iu : List ℕ) (history history' : List Served) (served : Served) → served.unit ≡ unit → served.iu ≡ iu → served.answer ≡ []
    → history' ≡ history ++ served ∷ [] → IsInService unit iu history' (length history)
in_service_new unit iu history history' served unit_is iu_is unanswered added = record {
  before = history;
  served = served;
  behind = [];
  history_is = added;
  row_is = refl;
  unit_is = unit_is;
  iu_is = iu_is;
  unanswered = unanswered;
  last = refl;
}

pub answers_blank : (unit : UnitId) (history history' : List Served) (served : Served) → served.answer ≡ [] → history' ≡ history ++ served ∷ []
    → answers_of unit history' ≡ answers_of unit history
answers_blank unit history history' served unanswered added =
    ap (answers_of unit) added ∙ answers_append unit history (served ∷ [])
    ∙ ap (λ list. answers_of unit history ++ list) (answers_skip unit served [] (blank_row unit served unanswered)) ∙ append-nil (answers_of unit history)

-- the answers of a history with another row at a place
at_place : (unit : UnitId) (before behind : List Served) (row : Served) → answers_of unit behind ≡ [] → is_answered_row unit row ≡ false
    → answers_of unit (before ++ row ∷ behind) ≡ answers_of unit before
at_place unit before behind row last e =
    answers_append unit before (row ∷ behind) ∙ ap (λ list. answers_of unit before ++ list) (answers_skip unit row behind e ∙ last) ∙ append-nil (answers_of unit before)

-- The row in service gets its data-in: it stays in service, and no answer is added.
abbrev pub in_service_filled : (unit : UnitId) (iu : List ℕ) (history history' : List Served) (row : ℕ) (inn : List ℕ) (is : IsInService unit iu history row)
    → history' ≡ is.before ++ record is.served { inn = inn } ∷ is.behind → IsInService unit iu history' row
in_service_filled unit iu history history' row inn is filled = record {
  before = is.before;
  served = record is.served { inn = inn };
  behind = is.behind;
  history_is = filled;
  row_is = is.row_is;
  unit_is = is.unit_is;
  iu_is = is.iu_is;
  unanswered = is.unanswered;
  last = is.last;
}

pub answers_filled : (unit : UnitId) (iu : List ℕ) (history history' : List Served) (row : ℕ) (inn : List ℕ) (is : IsInService unit iu history row)
    → history' ≡ is.before ++ record is.served { inn = inn } ∷ is.behind → answers_of unit history' ≡ answers_of unit history
answers_filled unit iu history history' row inn is filled =
    ap (answers_of unit) filled
    ∙ at_place unit is.before is.behind (record is.served { inn = inn }) is.last (blank_row unit (record is.served { inn = inn }) is.unanswered)
    ∙ sym (ap (answers_of unit) is.history_is ∙ at_place unit is.before is.behind is.served is.last (blank_row unit is.served is.unanswered))

-- The row in service gets its answer: one answer is added, that of the entry.
pub answers_one : (unit : UnitId) (iu : List ℕ) (history history' : List Served) (row : ℕ) (answer : List ℕ) (is : IsInService unit iu history row) → has_bytes answer ≡ true
    → history' ≡ is.before ++ record is.served { answer = answer } ∷ is.behind
    → answers_of unit history' ≡ answers_of unit history ++ srp_entry (length answer) (field 8 8 iu) ∷ []
answers_one unit iu history history' row answer is some answered =
    let new : Served = record is.served { answer = answer } in
    ap (answers_of unit) answered ∙ answers_append unit is.before (new ∷ is.behind)
    ∙ ap (λ list. answers_of unit is.before ++ list) (answers_take unit new is.behind (answered_row unit new is.unit_is some)
    ∙ (λ i. srp_entry (length answer) (field 8 8 (is.iu_is i)) ∷ is.last i))
    ∙ ap (λ list. list ++ srp_entry (length answer) (field 8 8 iu) ∷ [])
    (sym (ap (answers_of unit) is.history_is ∙ at_place unit is.before is.behind is.served is.last (blank_row unit is.served is.unanswered)))

pub get_at : (before behind : List Served) (served : Served) → slice_get (before ++ served ∷ behind) (length before) ≡ Some served
get_at [] behind served = refl
get_at (row ∷ before) behind served = get_at before behind served

set_at : (before behind : List Served) (served new : Served) → slice_set (before ++ served ∷ behind) (length before) new ≡ before ++ new ∷ behind
set_at [] behind served new = refl
set_at (row ∷ before) behind served new = ap (λ list. row ∷ list) (set_at before behind served new)

-- what is set in the place of the row in service
put_there : (unit : UnitId) (iu : List ℕ) (history history' : List Served) (row : ℕ) (is : IsInService unit iu history row) (new : Served)
    → (slice_get history row ≡ Some is.served → history' ≡ slice_set history row new) → history' ≡ is.before ++ new ∷ is.behind
put_there unit iu history history' row is new set =
    set ((λ i. slice_get (is.history_is i) (is.row_is i)) ∙ get_at is.before is.behind is.served)
    ∙ (λ i. slice_set (is.history_is i) (is.row_is i) new) ∙ set_at is.before is.behind is.served new

pub filled_there : (unit : UnitId) (iu : List ℕ) (history history' : List Served) (row : ℕ) (inn : List ℕ) (is : IsInService unit iu history row)
    → FillsRow history history' row inn → history' ≡ is.before ++ record is.served { inn = inn } ∷ is.behind
filled_there unit iu history history' row inn is fills = put_there unit iu history history' row is (record is.served { inn = inn }) (fills is.served)

pub answered_there : (unit : UnitId) (iu : List ℕ) (history history' : List Served) (row : ℕ) (answer : List ℕ) (is : IsInService unit iu history row)
    → AnswersRow history history' row answer → history' ≡ is.before ++ record is.served { answer = answer } ∷ is.behind
answered_there unit iu history history' row answer is answers = put_there unit iu history history' row is (record is.served { answer = answer }) (answers is.served)

-- another row of the unit in the place of the row in service
pub only_there : (unit : UnitId) (iu : List ℕ) (history history' : List Served) (row : ℕ) (is : IsInService unit iu history row) (new : Served) → new.unit ≡ unit
    → new.login ≡ is.served.login → history' ≡ is.before ++ new ∷ is.behind → OnlyRowsOf unit history history'
only_there unit iu history history' row is new unit_is login set =
    subst (λ (z : List Served × List Served). OnlyRowsOf unit z.0 z.1) (λ i. (sym is.history_is i, sym set i)) (stays_set unit is.before is.behind is.served new is.unit_is unit_is login is.unanswered)
