-- What a unit's service has in hand of a command's data, in its own window and in the rows, and what of it copies moved.
use Rattle.std.specs.Prelude.{◌≡◌, ◌⊎◌, ◌+◌, ◌<◌, ◌≤◌, ⊤, ℕ, Bool, true, false, List, [], ◌∷◌, ◌++◌, Option, Some, None, IfSome, length, map, min, slice_get, slice_index}
use Rattle.std.specs.List.{concat}
use Rattle.vio_num.specs.declared.history.Served.{Served as ServedRow}
use Rattle.vio_num.specs.declared.names.UnitId.{UnitId}
use Rattle.srp_iu.specs.Grammar.{Spells}
use Rattle.srp_iu.specs.Layout.{field}
use Rattle.srp_iu.specs.declared.buffer.Desc.{Desc}
use Rattle.srp_iu.specs.declared.command.Cmd.{Cmd}
use Rattle.srp_iu.specs.declared.unit.Iu.TheVariants as units
use Rattle.srp_desc.specs.Pieces.{sum_of}
use Rattle.tce_window.specs.PortState.{PortState}
use Rattle.rdma_copy.specs.declared.copy.CopyRecord.{CopyRecord}
use Rattle.tce_window.specs.Region.{region_byte}
use Rattle.block_server.specs.Carried.{AreDelivered, AreFetched, IsDelivered, IsOutFetched, data_at}
use Rattle.block_server.specs.Causes.{Hearing, IsNamed, Told, told_to}
use Rattle.block_server.specs.Delivers.{DeliversOne, FetchesTo}
use Rattle.block_disk.specs.declared.reply.ScsiReply.{ScsiReply}
use Rattle.block_server.specs.Moves.{data_count, is_data}
use Rattle.block_server.specs.Parts.{IsPlacedAt}
use Rattle.block_server.specs.Runs.{AreMoved, HasRun, HaveRuns, IsNamedBy, nth_fetch, own_rows, table_count}
use Rattle.block_server.specs.SiteState.{SiteState}
use Rattle.block_server.specs.declared.cursor.Cursor.{Cursor}
use Rattle.block_server.specs.declared.records.Records.{Records}
use Rattle.block_server.specs.declared.request.Order.{Order}
use Rattle.block_server.specs.declared.request.Order.TheVariants.{Command}
use Rattle.block_server.specs.declared.request.Request.{Request}
use Rattle.block_server.specs.declared.service.Service.{Service}
use Rattle.block_server.specs.declared.service.Stage.{Stage}
use Rattle.block_server.specs.declared.service.Stage.TheVariants.{DataIn, DataOut, Given, InTable}
use Rattle.block_server.specs.declared.unit.Unit.{Unit}

-- the byte at each place of the data's pages
unfoldable pub data_bytes : PortState → ℕ → ℕ
data_bytes own k = region_byte own.strokes (8192 + k)

-- what a unit's own window shows on the data's pages, and how many copies of tables and data were made
pub record Pages : Type 0 where
  pub bytes : ℕ → ℕ
  pub count : ℕ

unfoldable pub pages_in : PortState → List CopyRecord → Pages
pages_in own copies = record { bytes = data_bytes own; count = data_count own.place.unit copies }

abbrev pub pages_of : SiteState → Pages
pages_of site = pages_in site.own site.copies

-- the same, and the command that is in service
pub record Sight : Type 0 where
  pub command : Option Cmd
  pub pages : Pages

abbrev pub sight : Option Cmd → Pages → Sight
sight command pages = record { command = command; pages = pages }

-- how many copies of tables and data were made
abbrev pub data_total : SiteState → ℕ
data_total site = (pages_of site).count

abbrev pub seen : Option Cmd → SiteState → Sight
seen command site = sight command (pages_of site)

-- These bytes show from the first of the data's pages on.
abbrev pub AreShown : (shown : ℕ → ℕ) → List ℕ → Type 0
AreShown shown bytes = (k : ℕ) → k < length bytes → shown k ≡ slice_index bytes k

-- One copy was made, which delivered `len` bytes of the data's pages from this place on, as these show, to this address of the
-- client's window.
pub record SendsPart (old new : SiteState) (at address len mark : ℕ) : Type 0 where
  pub part : List ℕ
  pub long : length part ≡ len
  pub delivered : DeliversOne old new (data_at + at) address mark part
  pub shows : (k : ℕ) → k < len → slice_index part k ≡ data_bytes new.own (at + k)
  pub kind : is_data new.own.place.unit delivered.copy ≡ true

-- what is to be done with a request's data: nothing; the table of the data-in of this command is to be found, with these pieces of
-- data-out; data-out are copied from this place in the pieces on; the row's data-in are to be written to the data's pages; or they
-- lie there, and are copied from this place on
pub data Load : Type 0 where
  none : Load
  tabled : Option Cmd → (outs : List Desc) → Load
  fetching : Option Cmd → Cursor → (outs inns : List Desc) → Load
  given : (row : ℕ) → (inns : List Desc) → (bytes : List ℕ) → Load
  sending : (row : ℕ) → Cursor → (inns : List Desc) → (bytes : List ℕ) → Load

abbrev pub load_at : Option Cmd → Stage → (outs inns : List Desc) → (bytes : List ℕ) → Load
load_at command InTable outs inns bytes = tabled command outs
load_at command (DataOut cursor) outs inns bytes = fetching command cursor outs inns
load_at command (Given row reply) outs inns bytes = given row inns bytes
load_at command (DataIn row reply cursor) outs inns bytes = sending row cursor inns bytes
load_at command stage outs inns bytes = none

-- One copy was made, which fetched `len` bytes from this address of the client's window to this place of the data's pages: these
-- show them, and what they showed before that place.
pub record FetchesPart (old new : SiteState) (address at len : ℕ) : Type 0 where
  pub part : List ℕ
  pub long : length part ≡ len
  pub fetched : FetchesTo old new address (data_at + at) part
  pub shows : (k : ℕ) → k < len → data_bytes new.own (at + k) ≡ slice_index part k
  pub rest : (k : ℕ) → k < at → data_bytes new.own k ≡ data_bytes old.own k

-- whether data-in are to be written or copied
abbrev pub is_loaded : Stage → Bool
is_loaded (Given row reply) = true
is_loaded (DataIn row reply cursor) = true
is_loaded stage = false

-- whether they are, or the table of data-in is to be found, or data-out are copied
abbrev pub is_moving : Stage → Bool
is_moving InTable = true
is_moving (DataOut cursor) = true
is_moving (Given row reply) = true
is_moving (DataIn row reply cursor) = true
is_moving stage = false

-- a row but for its answer
abbrev pub unanswered : ServedRow → ServedRow
unanswered row = record row { answer = [] }

abbrev pub rows_of : List ServedRow → List ServedRow
rows_of history = map unanswered history

-- what is known of a unit's data: what the data's pages show, what is to be done with them, and the rows but for their answers
pub record Cargo : Type 0 where
  pub id : UnitId
  pub shown : Pages
  pub load : Load
  pub rows : List ServedRow

abbrev pub cargo : UnitId → (shown : Pages) → Load → (rows : List ServedRow) → Cargo
cargo id shown load rows = record { id = id; shown = shown; load = load; rows = rows }

unfoldable pub cargo_at : UnitId → Service → (shown : Sight) → List ServedRow → Cargo
cargo_at id service shown history =
    cargo id shown.pages (load_at shown.command service.stage service.out.list.items service.inn.list.items service.given.items) (rows_of history)

-- the command that a request asks for, and the oldest of these
abbrev pub command_of : Order → Option Cmd
command_of (Command command) = Some command
command_of order = None

abbrev pub first_command : List Request → Option Cmd
first_command [] = None
first_command (request ∷ requests) = command_of request.order

abbrev pub cargo_with : Unit → Pages → Records → Cargo
cargo_with unit pages records = cargo_at unit.id unit.service (sight (first_command unit.pending.items) pages) records.history.items

abbrev pub cargo_of : Unit → SiteState → Records → Cargo
cargo_of unit site records = cargo_with unit (pages_of site) records

-- The row has these data-in, of a command whose buffer names these pieces.
pub record HasToSend (Hears : Hearing) (cargo : Cargo) (place : ℕ) (inns : List Desc) (bytes : List ℕ) : Type 0 where
  pub row : ServedRow
  pub there : slice_get cargo.rows place ≡ Some row
  pub unit_is : row.unit ≡ cargo.id
  pub inn_is : row.inn ≡ bytes
  pub command : Cmd
  pub spells : Spells row.iu (units.Cmd command)
  pub in_named : IsNamed Hears command.inn inns
  pub fits : length bytes ≤ sum_of inns

-- Those before a place were delivered, and the data's pages show them all.
pub record IsSending (Hears : Hearing) (cargo : Cargo) (place : ℕ) (cursor : Cursor) (inns : List Desc) (bytes : List ℕ) : Type 0 where
  pub to_send : HasToSend Hears cargo place inns bytes
  pub placed : IsPlacedAt inns cursor
  pub sent : AreDelivered Hears (field 8 8 to_send.row.iu) inns (min cursor.done (length bytes)) bytes
  pub shows : AreShown cargo.shown.bytes bytes

-- The data-out before a place were fetched, and are what the data's pages show.
pub record IsFetching (Hears : Hearing) (cargo : Cargo) (cursor : Cursor) (outs : List Desc) : Type 0 where
  pub placed : IsPlacedAt outs cursor
  pub brought : AreFetched Hears outs cursor.done cargo.shown.bytes

-- what is so of the data that are to be copied
abbrev pub IsLoaded : Hearing → Cargo → Load → Type 0
IsLoaded Hears cargo none = ⊤
IsLoaded Hears cargo (tabled command outs) = ⊤
IsLoaded Hears cargo (fetching command cursor outs inns) = IsFetching Hears cargo cursor outs
IsLoaded Hears cargo (given row inns bytes) = HasToSend Hears cargo row inns bytes
IsLoaded Hears cargo (sending row cursor inns bytes) = IsSending Hears cargo row cursor inns bytes

-- whether the data-in of this row are still to be copied
abbrev pub IsToSend : Load → (place : ℕ) → Type 0
IsToSend none place = ⊥
IsToSend (tabled command outs) place = ⊥
IsToSend (fetching command cursor outs inns) place = ⊥
IsToSend (given row inns bytes) place = place ≡ row
IsToSend (sending row cursor inns bytes) place = place ≡ row

-- RUNS -------------------------------------------------------------------------------------------

-- The copy of the table of the command's data-out, if it leaves one to be fetched, is the last, behind the rows' runs.
pub record HasOutTable (Hears : Hearing) (outs : List Desc) (from to : ℕ) (command : Cmd) : Type 0 where
  pub first : ℕ
  pub after : from ≤ first
  pub out_named : IsNamedBy Hears command.out outs first
  pub next_is : to ≡ first + table_count command.out

-- The copies of both tables of the command and of so many bytes of its data-out are the last.
pub record HasOutParts (Hears : Hearing) (outs inns : List Desc) (shown : ℕ → ℕ) (done from to : ℕ) (command : Cmd) : Type 0 where
  pub first : ℕ
  pub after : from ≤ first
  pub out_named : IsNamedBy Hears command.out outs first
  pub in_named : IsNamedBy Hears command.inn inns (first + table_count command.out)
  pub parts : List (List ℕ)
  pub brought : AreMoved (nth_fetch Hears) outs (sum_of outs) (first + table_count command.out + table_count command.inn) 0 parts
  pub few : done ≤ sum_of outs
  pub long : length (concat parts) ≡ done
  pub shows : AreShown shown (concat parts)
  pub next_is : to ≡ first + table_count command.out + table_count command.inn + length parts

-- There is a command, of which P holds.
abbrev pub OfCommand : Option Cmd → (P : Cmd → Type 0) → Type 0
OfCommand None P = ⊥
OfCommand (Some command) P = P command

-- The rows have their runs, up to a number from which on P holds.
pub record HaveRunsTo (Hears : Hearing) (rows : List ServedRow) (P : ℕ → Type 0) : Type 0 where
  pub reached : ℕ
  pub runs : HaveRuns Hears rows 0 reached
  pub now : P reached

-- The row of this place is the unit's last, and its run is the last, as far as its data-in were copied: so many bytes of these.
pub record IsRunning (Hears : Hearing) (cargo : Cargo) (place : ℕ) (inns : List Desc) (bytes : List ℕ) (sent : ℕ) : Type 0 where
  pub front : List ServedRow
  pub row : ServedRow
  pub behind : List ServedRow
  pub rows_are : cargo.rows ≡ front ++ row ∷ behind
  pub place_is : place ≡ length front
  pub unit_is : row.unit ≡ cargo.id
  pub inn_is : row.inn ≡ bytes
  pub last : own_rows cargo.id behind ≡ []
  pub reached : ℕ
  pub runs : HaveRuns Hears (own_rows cargo.id front) 0 reached
  pub first : ℕ
  pub after : reached ≤ first
  pub run : HasRun Hears row inns (length bytes) sent first cargo.shown.count

-- The rows of the unit have their runs, and what was copied since is that of the request in service.
abbrev pub IsUnderWay : Hearing → Cargo → Load → Type 0
IsUnderWay Hears cargo none = HaveRuns Hears (own_rows cargo.id cargo.rows) 0 cargo.shown.count
IsUnderWay Hears cargo (tabled command outs) =
    HaveRunsTo Hears (own_rows cargo.id cargo.rows) (λ reached. OfCommand command (HasOutTable Hears outs reached cargo.shown.count))
IsUnderWay Hears cargo (fetching command cursor outs inns) = HaveRunsTo Hears (own_rows cargo.id cargo.rows)
    (λ reached. OfCommand command (HasOutParts Hears outs inns cargo.shown.bytes cursor.done reached cargo.shown.count))
IsUnderWay Hears cargo (given place inns bytes) = IsRunning Hears cargo place inns bytes 0
IsUnderWay Hears cargo (sending place cursor inns bytes) = IsRunning Hears cargo place inns bytes cursor.done

-- The data-out of each row of the unit were fetched, and its data-in were delivered, or are to be. And where it is asked the rows have
-- their runs.
pub record IsAccounted (told : Told → Bool) (asked : Bool) (cargo : Cargo) : Type 0 where
  pub rows : (place : ℕ) (row : ServedRow) → slice_get cargo.rows place ≡ Some row → row.unit ≡ cargo.id → IsToSend cargo.load place ⊎ IsDelivered told row
  pub outs : (place : ℕ) (row : ServedRow) → slice_get cargo.rows place ≡ Some row → row.unit ≡ cargo.id → IsOutFetched told row
  pub load : IsLoaded (told_to told cargo.id) cargo cargo.load
  pub runs : asked ≡ true → IsUnderWay (told_to told cargo.id) cargo cargo.load

-- Of the data-in that a service copies, none is left.
abbrev pub IsSentAll : Service → Type 0
IsSentAll service = (row : ℕ) (reply : ScsiReply) (cursor : Cursor) → service.stage ≡ DataIn row reply cursor → min (length service.given.items) (sum_of service.inn.list.items) ≤ cursor.done

-- Of the data-out that a service copies, none is left.
abbrev pub IsFetchedAll : Service → Type 0
IsFetchedAll service = (cursor : Cursor) → service.stage ≡ DataOut cursor → sum_of service.out.list.items ≤ cursor.done

-- The row of this place, if there is one, is of a request with this tag.
abbrev pub HasTag : List ServedRow → (place tag : ℕ) → Type 0
HasTag history place tag = (row : ServedRow) → slice_get history place ≡ Some row → field 8 8 row.iu ≡ tag

-- This stays so, whatever was told.
abbrev pub KeepsCargo : (old new : Cargo) → Type 0
KeepsCargo old new = (told : Told → Bool) (asked : Bool) → IsAccounted told asked old → IsAccounted told asked new

-- what is seen where nobody asks for runs
abbrev pub bytes_seen : PortState → Sight
bytes_seen own = sight None (pages_in own [])

-- The unit of this number has its data in hand.
abbrev pub HasCargo : (told : Told → Bool) → List Unit → (unit : ℕ) → (own : PortState) → Records → Type 0
HasCargo told units unit own records = IfSome (slice_get units unit) (λ u. IsAccounted told false (cargo_at u.id u.service (bytes_seen own) records.history.items))

-- And its rows have their runs, among these copies.
abbrev pub HasRuns : (told : Told → Bool) → List Unit → (unit : ℕ) → (own : PortState) → (copies : List CopyRecord) → Records → Type 0
HasRuns told units unit own copies records = IfSome (slice_get units unit)
    (λ u. IsAccounted told true (cargo_at u.id u.service (sight (first_command u.pending.items) (pages_in own copies)) records.history.items))

-- No unit has data to be written or copied.
abbrev pub AreIdle : List Unit → Type 0
AreIdle units = (number : ℕ) → IfSome (slice_get units number) (λ u. is_moving u.service.stage ≡ false)
