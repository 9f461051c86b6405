-- One answer for each row: which responses were put, and which rows of a unit have theirs (SRP, "SRP_RSP response").
use Rattle.std.specs.Prelude.{◌≡◌, ◌⊎◌, ◌&&◌, ◌++◌, ℕ, Bool, true, false, All, List, [], ◌∷◌, map, filter, length}
use Rattle.vio_num.specs.declared.entry.Entry.{Entry}
use Rattle.vio_num.specs.declared.names.UnitId.{UnitId}
use Rattle.vio_num.specs.declared.history.Served.{Served}
use Rattle.vio_num.specs.Entry.{srp_entry}
use Rattle.crq_ring.specs.declared.rows.PipeRow.{PipeRow}
use Rattle.srp_iu.specs.Layout.{field}
use Rattle.block_server.specs.Entries.{is_response}
use Rattle.block_server.specs.Makers.{same_unit}

-- the responses to commands and tasks among entries that were put, in their order
abbrev pub responses : List PipeRow → List Entry
responses rows = filter is_response (map (λ row. row.entry) rows)

abbrev pub has_bytes : List ℕ → Bool
has_bytes [] = false
has_bytes (byte ∷ bytes) = true

-- whether a row is of this unit and has its answer
abbrev pub is_answered_row : UnitId → Served → Bool
is_answered_row unit row = same_unit row.unit unit && has_bytes row.answer

-- the entry of a row's answer, in all its bytes: the length of the answer, and the tag of the request
abbrev pub answer_entry : Served → Entry
answer_entry row = srp_entry (length row.answer) (field 8 8 row.iu)

-- the entries of the answers of a unit's rows, in the order of the rows
abbrev pub answers_of : UnitId → List Served → List Entry
answers_of unit history = map answer_entry (filter (is_answered_row unit) history)

-- Responses were put behind those that were, and as many rows of the unit had their answers: each the entry of its row's,
-- in the order of the rows.
pub record AnswersMore (unit : UnitId) (sent sent' : List PipeRow) (history history' : List Served) : Type 0 where
  pub more : List Entry
  pub put : responses sent' ≡ responses sent ++ more
  pub rows : answers_of unit history' ≡ answers_of unit history ++ more

-- This row of the history is of the unit's request in service, with this information unit. It has no answer, and no row
-- behind it is an answered one of the unit.
pub record IsInService (unit : UnitId) (iu : List ℕ) (history : List Served) (row : ℕ) : Type 0 where
  pub before : List Served
  pub served : Served
  pub behind : List Served
  pub history_is : history ≡ before ++ served ∷ behind
  pub row_is : row ≡ length before
  pub unit_is : served.unit ≡ unit
  pub iu_is : served.iu ≡ iu
  pub unanswered : served.answer ≡ []
  pub last : answers_of unit behind ≡ []

-- A row of this unit changed: it had no answer, and is of the same login.
pub record ChangesRow (unit : UnitId) (old new : Served) : Type 0 where
  pub was : old.unit ≡ unit
  pub is : new.unit ≡ unit
  pub login : new.login ≡ old.login
  pub unanswered : old.answer ≡ []

-- a row of before, later: as it was, or one of this unit's that changed
abbrev pub StaysRow : UnitId → Served → Served → Type 0
StaysRow unit old new = (new ≡ old) ⊎ ChangesRow unit old new

-- Only rows of this unit changed or came.
abbrev pub OnlyRowsOf : UnitId → List Served → List Served → Type 0
OnlyRowsOf unit [] rows = All (λ row. row.unit ≡ unit) rows
OnlyRowsOf unit (row ∷ rows) [] = ⊥
OnlyRowsOf unit (row ∷ rows) (new ∷ news) = StaysRow unit row new × OnlyRowsOf unit rows news
