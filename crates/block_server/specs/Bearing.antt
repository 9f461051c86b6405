-- What the strokes bear that a unit lays in its client's window as it serves a request: its answer, and the data-in of its row, each byte at its
-- place.
use Rattle.std.specs.Prelude.{◌≡◌, ◌⊎◌, ◌+◌, ◌-◌, ◌*◌, ◌<◌, ◌≤◌, ◌++◌, ℕ, ⊤, List, [], ◌∷◌, Option, Some, None, length, slice_get, slice_index}
use Rattle.page_slots.specs.Stroke.{StrokeValue}
use Rattle.page_slots.specs.declared.stroke.StrokeName.{StrokeName}
use Rattle.srp_iu.specs.declared.buffer.Desc.{Desc}
use Rattle.vio_num.specs.declared.history.Served.{Served}
use Rattle.vio_num.specs.declared.names.UnitId.{UnitId}
use Rattle.block_server.specs.Carried.{address_of}
use Rattle.block_server.specs.Causes.{Hearing, IsNamed}
use Rattle.block_server.specs.Ranges.{AddsEach, Known, StrokeLiesIn}
use Rattle.block_server.specs.declared.request.Order.{Order}
use Rattle.block_server.specs.declared.request.Order.TheVariants as orders
use Rattle.block_server.specs.declared.request.Request.{Request}
use Rattle.block_server.specs.declared.service.Stage.{Stage}
use Rattle.block_server.specs.declared.service.Stage.TheVariants as stages

-- what is written to a window: from an address on these bytes, under a name
abbrev pub Writing : Type 1
Writing = (address : ℕ) → List ℕ → StrokeName → Type 0

-- A stroke of a page is a part of what was written so, each byte at its place.
pub record StrokeBears (values : ℕ → List ℕ) (Writes : Writing) (page : ℕ) (stroke : StrokeValue) : Type 0 where
  pub address : ℕ
  pub bytes : List ℕ
  pub writes : Writes address bytes stroke.name
  pub lies : StrokeLiesIn values address (length bytes) page stroke
  pub bears : (k : ℕ) → k < length stroke.bytes → slice_index stroke.bytes k ≡ slice_index bytes (4096 * lies.entry + stroke.offset + k - address)

-- Each stroke that was laid is such a part, and no value was put.
pub record BearsWithin (Writes : Writing) (old new : Known) : Type 0 where
  pub values : new.values ≡ old.values
  pub strokes : (page : ℕ) → AddsEach (StrokeBears old.values Writes page) (old.strokes page) (new.strokes page)

abbrev pub BearsIn : Writing → (old new : Option Known) → Type 0
BearsIn Writes (Some old) (Some new) = BearsWithin Writes old new
BearsIn Writes None None = ⊤
BearsIn Writes _ _ = ⊥

-- WHAT IS WRITTEN --------------------------------------------------------------------------------

-- so many bytes from this address on, which these places show
pub record IsShownAs (name : StrokeName) (address len : ℕ) (shown : ℕ → ℕ) (address' : ℕ) (bytes : List ℕ) (name' : StrokeName) : Type 0 where
  pub name_is : name' ≡ name
  pub address_is : address' ≡ address
  pub long : length bytes ≡ len
  pub are : (k : ℕ) → k < len → slice_index bytes k ≡ shown k

-- this answer, over the request that came at this address
pub record IsAnswerPart (name : StrokeName) (to : ℕ) (answer : List ℕ) (address : ℕ) (bytes : List ℕ) (name' : StrokeName) : Type 0 where
  pub name_is : name' ≡ name
  pub address_is : address ≡ to
  pub are : bytes ≡ answer

-- a part of these data, at the addresses that the pieces name
pub record IsDataPart (name : StrokeName) (list : List Desc) (whole : List ℕ) (address : ℕ) (bytes : List ℕ) (name' : StrokeName) : Type 0 where
  pub name_is : name' ≡ name
  pub at : ℕ
  pub inside : at + length bytes ≤ length whole
  pub there : (k : ℕ) → k < length bytes → address_of list (at + k) ≡ Some (address + k)
  pub are : (k : ℕ) → k < length bytes → slice_index bytes k ≡ slice_index whole (at + k)

-- The pieces are those of the data-in of what is asked, if it is a command.
abbrev pub NamesData : Hearing → Order → List Desc → Type 0
NamesData Hears (orders.Command command) list = IsNamed Hears command.inn list
NamesData Hears order list = ⊥

-- a part of the data-in of what is asked, to a piece of its buffer, where the buffer's table holds bytes that were heard, if it was fetched
pub record IsNamedPart (Hears : Hearing) (name : StrokeName) (order : Order) (whole : List ℕ) (address : ℕ) (bytes : List ℕ) (name' : StrokeName) : Type 0 where
  pub list : List Desc
  pub named : NamesData Hears order list
  pub part : IsDataPart name list whole address bytes name'

-- THE ROW IN SERVICE -----------------------------------------------------------------------------

-- While its data-in are to be written, the row in service has those that are kept for it.
abbrev pub HasGiven : Stage → (given : List ℕ) → (rows : List Served) → Type 0
HasGiven (stages.Given place reply) given rows = (row : Served) × (slice_get rows place ≡ Some row) × (row.inn ≡ given)
HasGiven (stages.DataIn place reply cursor) given rows = ⊥
HasGiven stage given rows = ⊤

-- Of the row in service the strokes that were laid bear data-in; or none was laid.
abbrev pub BearsRow : Hearing → StrokeName → Order → (rows : List Served) → (place : Option ℕ) → (old new : Option Known) → Type 0
BearsRow Hears name order rows place old new =
    (new ≡ old) ⊎ ((at : ℕ) × (row : Served) × (place ≡ Some at) × (slice_get rows at ≡ Some row) × BearsIn (IsNamedPart Hears name order row.inn) old new)

-- WHAT IS LAID FOR A REQUEST ---------------------------------------------------------------------

-- what is asked of a unit: where, under which tag, what, and in which bytes
pub record Question : Type 0 where
  pub address : ℕ
  pub tag : ℕ
  pub order : Order
  pub iu : List ℕ

abbrev pub question_of : Request → Question
question_of request = record { address = request.address; tag = request.tag; order = request.order; iu = request.unit.items }

-- what a unit writes as it serves what is asked: this answer, and data-in of the row that was added for it
abbrev pub IsOfQuestion : Hearing → UnitId → Question → (answer : List ℕ) → (rows rows' : List Served) → Writing
IsOfQuestion Hears unit asked answer rows rows' address bytes name =
    IsAnswerPart (record { who = unit; mark = asked.tag }) asked.address answer address bytes name
    ⊎ ((row : Served) × (rows' ≡ rows ++ row ∷ []) × IsNamedPart Hears (record { who = unit; mark = asked.tag }) asked.order row.inn address bytes name)
