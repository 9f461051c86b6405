-- Rows of a history, as some of them change and others come.
use Rattle.std.proofs.Common.{◌≡◌, inl, inr, ◌++◌, ◌&&◌, Bool, true, false, All, List, [], ◌∷◌, map, filter, refl, sym, ◌∙◌, ap}
use Rattle.std.proofs.lemmas.List.Elements.{All-nil, All-cons, All-head, All-tail, filter-append}
use Rattle.std.proofs.lemmas.List.{map-append}
use Rattle.std.proofs.lemmas.Bool.{eq-eqb}
use Rattle.vio_num.specs.declared.names.UnitId.{UnitId}
use Rattle.vio_num.specs.declared.history.Served.{Served}
use Rattle.block_server.specs.Answering.{OnlyRowsOf, StaysRow, answer_entry, answers_of, has_bytes, is_answered_row}
use Rattle.block_server.specs.Makers.{same_unit}

pub stays_same : (unit : UnitId) (rows : List Served) → OnlyRowsOf unit rows rows
stays_same unit [] = All-nil (λ row. row.unit ≡ unit)
stays_same unit (row ∷ rows) = (inl refl, stays_same unit rows)

stays_row_on : (unit : UnitId) (a b c : Served) → StaysRow unit a b → StaysRow unit b c → StaysRow unit a c
stays_row_on unit a b c (inl same) (inl then) = inl (then ∙ same)
stays_row_on unit a b c (inl same) (inr then) =
    inr (record {
      was = ap (λ row. row.unit) (sym same) ∙ then.was;
      is = then.is;
      login = then.login ∙ ap (λ row. row.login) same;
      unanswered = ap (λ row. row.answer) (sym same) ∙ then.unanswered;
    })
stays_row_on unit a b c (inr first) (inl then) =
    inr (record { was = first.was; is = ap (λ row. row.unit) then ∙ first.is; login = ap (λ row. row.login) then ∙ first.login; unanswered = first.unanswered })
stays_row_on unit a b c (inr first) (inr then) = inr (record { was = first.was; is = then.is; login = then.login ∙ first.login; unanswered = first.unanswered })

-- rows that came stay the unit's
came_on : (unit : UnitId) (rows news : List Served) → All (λ row. row.unit ≡ unit) rows → OnlyRowsOf unit rows news → All (λ row. row.unit ≡ unit) news
came_on unit [] news all only = only
came_on unit (row ∷ rows) [] all only = absurd only
came_on unit (row ∷ rows) (new ∷ news) all only =
    All-cons (λ row. row.unit ≡ unit) new news (of only.0) (came_on unit rows news (All-tail (λ row. row.unit ≡ unit) row rows all) only.1)
  where
    of : StaysRow unit row new → new.unit ≡ unit
    of (inl same) = ap (λ row. row.unit) same ∙ All-head (λ row. row.unit ≡ unit) row rows all
    of (inr changed) = changed.is

pub stays_on : (unit : UnitId) (a b c : List Served) → OnlyRowsOf unit a b → OnlyRowsOf unit b c → OnlyRowsOf unit a c
stays_on unit [] b c first next = came_on unit b c first next
stays_on unit (x ∷ xs) [] c first next = absurd first
stays_on unit (x ∷ xs) (y ∷ ys) [] first next = absurd next
stays_on unit (x ∷ xs) (y ∷ ys) (z ∷ zs) first next = (stays_row_on unit x y z first.0 next.0, stays_on unit xs ys zs first.1 next.1)

-- one row more
pub stays_one : (unit : UnitId) (rows : List Served) (row : Served) → row.unit ≡ unit → OnlyRowsOf unit rows (rows ++ row ∷ [])
stays_one unit [] row is = All-cons (λ row. row.unit ≡ unit) row [] is (All-nil (λ row. row.unit ≡ unit))
stays_one unit (x ∷ xs) row is = (inl refl, stays_one unit xs row is)

-- another row in the place of one
pub stays_set : (unit : UnitId) (before behind : List Served) (row new : Served) → row.unit ≡ unit → new.unit ≡ unit → new.login ≡ row.login → row.answer ≡ []
    → OnlyRowsOf unit (before ++ row ∷ behind) (before ++ new ∷ behind)
stays_set unit [] behind row new was is login none = (inr (record { was = was; is = is; login = login; unanswered = none }), stays_same unit behind)
stays_set unit (x ∷ xs) behind row new was is login none = (inl refl, stays_set unit xs behind row new was is login none)

pub answers_append : (unit : UnitId) (xs ys : List Served) → answers_of unit (xs ++ ys) ≡ answers_of unit xs ++ answers_of unit ys
answers_append unit xs ys = ap (map answer_entry) (filter-append (is_answered_row unit) xs ys) ∙ map-append answer_entry (filter (is_answered_row unit) xs) (filter (is_answered_row unit) ys)

-- a row whose test fails adds nothing
pub answers_skip : (unit : UnitId) (row : Served) (rows : List Served) → is_answered_row unit row ≡ false → answers_of unit (row ∷ rows) ≡ answers_of unit rows
answers_skip unit row rows e = rw e refl

pub answers_take : (unit : UnitId) (row : Served) (rows : List Served) → is_answered_row unit row ≡ true → answers_of unit (row ∷ rows) ≡ answer_entry row ∷ answers_of unit rows
answers_take unit row rows e = rw e refl

unit_same : (one other : UnitId) → one ≡ other → same_unit one other ≡ true
unit_same one other e = rw (eq-eqb one.partition other.partition (ap (λ u. u.partition) e), eq-eqb one.unit other.unit (ap (λ u. u.unit) e)) refl

pub blank_row : (unit : UnitId) (row : Served) → row.answer ≡ [] → is_answered_row unit row ≡ false
blank_row unit row none = by (same_unit row.unit unit)
  where
    by : (b : Bool) → (b && has_bytes row.answer) ≡ false
    by true = ap has_bytes none
    by false = refl

pub answered_row : (unit : UnitId) (row : Served) → row.unit ≡ unit → has_bytes row.answer ≡ true → is_answered_row unit row ≡ true
answered_row unit row is some = rw (unit_same row.unit unit is, some) refl
