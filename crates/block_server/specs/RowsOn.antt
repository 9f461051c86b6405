-- What a turn adds to the rows of a server: that of the request which it serves, if that gets one.
use Rattle.std.specs.Prelude.{◌≡◌, ◌⊎◌, ◌++◌, ℕ, true, false, List, [], ◌∷◌, Option, Some, None, length}
use Rattle.vio_num.specs.declared.history.Served.{Served}
use Rattle.vio_num.specs.declared.names.UnitId.{UnitId}
use Rattle.crq_session.specs.Answered.{taken_now}
use Rattle.crq_session.specs.EndState.{EndState}
use Rattle.srp_iu.specs.Layout.{field}
use Rattle.block_server.specs.Judged.{gets_row}
use Rattle.block_server.specs.Talk.{HearsAll, Talk, Word, talk_of}
use Rattle.block_server.specs.declared.request.Request.{Request}
use Rattle.block_server.specs.declared.service.Stage.{Stage}
use Rattle.block_server.specs.declared.service.Stage.TheVariants.{Start}
use Rattle.block_server.specs.declared.unit.Unit.{Unit}

-- the tag of the request of a row
abbrev pub row_tag : Served → ℕ
row_tag row = field 8 8 row.iu

-- THE ROW IN SERVICE -----------------------------------------------------------------------------

-- This is the place of the last row, which is of this unit and of this request, and behind these.
pub record IsLastRow (unit : UnitId) (request : Request) (before : List Served) (place : ℕ) (rows : List Served) : Type 0 where
  pub place_is : place ≡ length before
  pub row : Served
  pub added : rows ≡ before ++ row ∷ []
  pub unit_is : row.unit ≡ unit
  pub iu_is : row.iu ≡ request.unit.items

-- The row in service, if there is one, is that one, and else there are none behind these.
abbrev pub HasLastRow : UnitId → Request → (before : List Served) → Option ℕ → (rows : List Served) → Type 0
HasLastRow unit request before None rows = rows ≡ before
HasLastRow unit request before (Some place) rows = IsLastRow unit request before place rows

-- So it is still, whatever the row in service is given.
abbrev pub KeepsLastRow : Option ℕ → (rows rows' : List Served) → Type 0
KeepsLastRow place rows rows' =
    (unit : UnitId) (request : Request) (before : List Served) → HasLastRow unit request before place rows → HasLastRow unit request before place rows'

-- While nothing is in service, nothing comes to be, and no row changes.
abbrev pub KeepsIdleRows : (old new : Stage) → (rows rows' : List Served) → Type 0
KeepsIdleRows old new rows rows' = old ≡ Start → (new ≡ Start) × (rows' ≡ rows)

-- THE TURN ---------------------------------------------------------------------------------------

-- A row of this unit was added for a command or a task, and bears the tag of this request.
pub record AddsRowOf (unit : UnitId) (request : Request) (rows rows' : List Served) : Type 0 where
  pub gets : gets_row request.order ≡ true
  pub row : Served
  pub added : rows' ≡ rows ++ row ∷ []
  pub unit_is : row.unit ≡ unit
  pub tag_is : row_tag row ≡ request.tag

-- So it was; for what else is asked no row was added.
abbrev pub AddsFor : UnitId → Request → (rows rows' : List Served) → Type 0
AddsFor unit request rows rows' = AddsRowOf unit request rows rows' ⊎ ((gets_row request.order ≡ false) × (rows' ≡ rows))

-- What a turn in which nothing is amiss adds to the rows: that of the first request that is pending once all was heard.
pub record RowsOn (unit : Unit) (queue : EndState) (words : List Word) (rows rows' : List Served) : Type 0 where
  pub adds : (talk : Talk) (request : Request) (rest : List Request) → HearsAll (talk_of unit) (length (taken_now queue)) words talk → talk.pending ≡ request ∷ rest
      → AddsFor unit.id request rows rows'
  pub none : (talk : Talk) → HearsAll (talk_of unit) (length (taken_now queue)) words talk → talk.pending ≡ [] → rows' ≡ rows
