-- What a server keeps for good, and the room in it.
use Rattle.std.specs.Prelude.{◌≡◌, ◌<◌, ◌++◌, ℕ, List, [], ◌∷◌, Some, None, slice_get, slice_set}
use Rattle.std.specs.Vec.{vec_len, vec_capacity}
use Rattle.vio_num.specs.declared.names.UnitId.{UnitId}
use Rattle.vio_num.specs.declared.history.Served.{Served}
use Rattle.block_server.specs.declared.records.Records.{Records}
use Rattle.block_server.specs.declared.request.Request.{Request}

-- There is room for a line on a login.
abbrev pub HasLineRoom : Records → Type 0
HasLineRoom records = vec_len records.grants < vec_capacity records.grants

-- Nothing was recorded.
pub record KeepsLists (old new : Records) : Type 0 where
  pub history : new.history.items ≡ old.history.items
  pub grants : new.grants.items ≡ old.grants.items

-- The row is of the request, without data, fault and answer.
pub record IsBlankRow (unit : UnitId) (session : ℕ) (request : Request) (row : Served) : Type 0 where
  pub unit_is : row.unit ≡ unit
  pub session_is : row.session ≡ session
  pub login : row.login ≡ request.login
  pub number : row.number ≡ request.number
  pub iu : row.iu ≡ request.unit.items
  pub out : row.out ≡ []
  pub fault : row.fault ≡ None
  pub answer : row.answer ≡ []
  pub inn : row.inn ≡ []

-- One blank row more, of this request, and no line on a login.
pub record AddsRow (unit : UnitId) (session : ℕ) (request : Request) (old new : Records) : Type 0 where
  pub row : Served
  pub blank : IsBlankRow unit session request row
  pub history : new.history.items ≡ old.history.items ++ row ∷ []
  pub grants : new.grants.items ≡ old.grants.items

-- A row of the history, if there is one at this place, has these data-in, or this answer, and no other row changed.
abbrev pub FillsRow : (old new : List Served) → (row : ℕ) → (inn : List ℕ) → Type 0
FillsRow old new row inn = (served : Served) → slice_get old row ≡ Some served → new ≡ slice_set old row (record served { inn = inn })

abbrev pub AnswersRow : (old new : List Served) → (row : ℕ) → (answer : List ℕ) → Type 0
AnswersRow old new row answer = (served : Served) → slice_get old row ≡ Some served → new ≡ slice_set old row (record served { answer = answer })
