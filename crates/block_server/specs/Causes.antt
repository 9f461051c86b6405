-- Why a command is refused: its descriptors are, or its client's window told that it refuses a copy of its tables or of its
-- data (SRP, "SRP_RSP response").
use Rattle.std.specs.Prelude.{⊤, ◌≡◌, ◌⊎◌, ◌+◌, ◌^◌, ◌<◌, ◌≤◌, ℕ, Bool, true, List, [], ◌∷◌, Some, length, slice_get}
use Rattle.vio_num.specs.Words.{Begins}
use Rattle.vio_num.specs.declared.names.UnitId.{UnitId}
use Rattle.vio_num.specs.declared.TheConstants.{PAGE_BYTES}
use Rattle.srp_iu.specs.declared.buffer.Buffer.{Buffer}
use Rattle.srp_iu.specs.declared.buffer.Desc.{Desc}
use Rattle.srp_iu.specs.declared.command.Cmd.{Cmd}
use Rattle.srp_desc.specs.Pieces.{named, pieces, refusal, refused}
use Rattle.srp_desc.specs.Tables.{table_len, tables_of}
use Rattle.srp_desc.specs.declared.pieces.DescFault.{DescFault}
use Rattle.tce_window.specs.Pieces.{IsOfEntry, IsRefused}
use Rattle.tce_window.specs.Port.{Later}
use Rattle.tce_window.specs.PortState.{PortState}
use Rattle.tce_window.specs.declared.answers.HoldFault.{HoldFault}
use Rattle.tce_window.specs.declared.answers.Right.{Right}
use Rattle.tce_window.specs.declared.answers.Right.TheVariants.{Read, Write}

-- Between these two states of a window a range was refused for a right: for its first entry that is past the window, or
-- whose value lacks the right, as the values then were. Where nobody else has a hand in the window they are those before.
pub record Denies (is_shared : Bool) (old new : PortState) (right : Right) (address len : ℕ) (fault : HoldFault) : Type 0 where
  pub values : ℕ → List ℕ
  pub since : (e : ℕ) → Later is_shared (old.values e) (values e)
  pub until : (e : ℕ) → Begins (values e) (new.values e)
  pub of_entry : IsOfEntry fault
  pub refused : IsRefused values right old.place.size address len fault

-- A range was refused for a right between these two states.
pub record IsDenied (is_shared : Bool) (old new : PortState) (right : Right) (address len : ℕ) : Type 0 where
  pub fault : HoldFault
  pub denied_is : Denies is_shared old new right address len fault

-- what its windows tell a server unit: that the client's refuses a range of so many bytes for a right, and why; that a copy
-- under mark 0 brought bytes from this address of the client's to that one of the unit's own; or that one under a mark
-- carried bytes from this address of the own to that one of the client's; and the same of the copy of this number, from 0,
-- among those of the unit's tables and data
pub data News : Type 0 where
  denied : Right → ℕ → ℕ → HoldFault → News
  fetched : (address at : ℕ) → List ℕ → News
  delivered : (at address mark : ℕ) → List ℕ → News
  nth_fetched : (number address at : ℕ) → List ℕ → News
  nth_delivered : (number at address mark : ℕ) → List ℕ → News

-- what was told, and which unit was
pub record Told : Type 0 where
  pub unit : UnitId
  pub news : News

-- whatever is told
abbrev pub anything : Told → Bool
anything news = true

-- which news came
abbrev pub Hearing : Type 1
Hearing = News → Type 0

-- those that the unit was told
abbrev pub told_to : (Told → Bool) → UnitId → Hearing
told_to told unit news = told (record { unit = unit; news = news }) ≡ true

-- All that is heard here is heard there.
abbrev pub Includes : Hearing → Hearing → Type 0
Includes Hears HearsMore = (news : News) → Hears news → HearsMore news

-- the address of page 0 of a unit's own window, to which information units are fetched, and at which answers are written
abbrev pub units_at : ℕ
units_at = 0

-- the address of page 1, to which tables are fetched
abbrev pub tables_at : ℕ
tables_at = PAGE_BYTES

-- The table of a buffer, if it has to be fetched, is what a copy brought to page 1.
abbrev pub IsFetched : Hearing → (tables : List Desc) → (bytes : List ℕ) → Type 0
IsFetched Hears [] bytes = ⊤
IsFetched Hears (table ∷ tables) bytes = Hears (fetched table.address tables_at bytes)

-- The range lies in one of the pieces.
pub record IsPartOf (list : List Desc) (address len : ℕ) : Type 0 where
  pub at : ℕ
  pub piece : Desc
  pub one : slice_get list at ≡ Some piece
  pub some : 1 ≤ len
  pub from : piece.address ≤ address
  pub to : address + len ≤ piece.address + piece.len

-- One of the pieces reaches past every I/O address.
pub record ReachesPast (list : List Desc) : Type 0 where
  pub at : ℕ
  pub piece : Desc
  pub one : slice_get list at ≡ Some piece
  pub past : 2 ^ 64 < piece.address + piece.len

-- A part of the pieces was refused for the right.
pub record RefusesPart (Hears : Hearing) (right : Right) (list : List Desc) : Type 0 where
  pub address : ℕ
  pub len : ℕ
  pub fault : HoldFault
  pub part : IsPartOf list address len
  pub told : Hears (denied right address len fault)

-- The data that pieces name cannot be copied.
abbrev pub RefusesData : Hearing → Right → List Desc → Type 0
RefusesData Hears right list = RefusesPart Hears right list ⊎ ReachesPast list

-- The pieces are those that a buffer names, where its table holds these bytes, which a copy brought if it had to be fetched.
pub record IsNamed (Hears : Hearing) (buffer : Buffer) (list : List Desc) : Type 0 where
  pub table : List ℕ
  pub full : length table ≡ table_len buffer
  pub brought : IsFetched Hears (tables_of buffer) table
  pub named_is : pieces buffer table ≡ named list

-- A buffer is refused by itself, before its table is fetched.
pub record IsBad (buffer : Buffer) : Type 0 where
  pub fault : DescFault
  pub refused_is : refusal buffer ≡ Some fault

-- A buffer is refused for the bytes of its table, which had to be fetched and a copy brought.
pub record HasBadTable (Hears : Hearing) (buffer : Buffer) : Type 0 where
  pub table : Desc
  pub own : tables_of buffer ≡ table ∷ []
  pub bytes : List ℕ
  pub full : length bytes ≡ table.len
  pub brought : Hears (fetched table.address tables_at bytes)
  pub fault : DescFault
  pub refused_is : pieces buffer bytes ≡ refused fault

-- The table of a buffer had to be fetched, and the window refuses to have it read.
pub record RefusesTable (Hears : Hearing) (buffer : Buffer) : Type 0 where
  pub table : Desc
  pub own : tables_of buffer ≡ table ∷ []
  pub fault : HoldFault
  pub told : Hears (denied Read table.address table.len fault)

-- The pieces of a buffer are not to be had.
abbrev pub RefusesBuffer : Hearing → Buffer → Type 0
RefusesBuffer Hears buffer = IsBad buffer ⊎ (HasBadTable Hears buffer ⊎ RefusesTable Hears buffer)

-- The window refuses to have the command's data-out read.
pub record RefusesOut (Hears : Hearing) (command : Cmd) : Type 0 where
  pub outs : List Desc
  pub out_named : IsNamed Hears command.out outs
  pub refuses : RefusesData Hears Read outs

-- The window refuses to have the command's data-in written.
pub record RefusesIn (Hears : Hearing) (command : Cmd) : Type 0 where
  pub inns : List Desc
  pub in_named : IsNamed Hears command.inn inns
  pub refuses : RefusesData Hears Write inns

-- A command is refused before its disk step.
abbrev pub TurnsDown : Hearing → Cmd → Type 0
TurnsDown Hears command = RefusesBuffer Hears command.out ⊎ (RefusesBuffer Hears command.inn ⊎ RefusesOut Hears command)
