-- What is known of the pieces of a command's data while its tables and its data-out are fetched.
use Rattle.std.specs.Prelude.{◌≡◌, ⊤, ℕ, List, ◌∷◌, Result, Ok, Err, length}
use Rattle.vio_num.specs.declared.memory.NoMemory.{NoMemory}
use Rattle.srp_iu.specs.declared.buffer.Desc.{Desc}
use Rattle.srp_iu.specs.declared.command.Cmd.{Cmd}
use Rattle.srp_desc.specs.Pieces.{descs_in, named, refused, summing_to}
use Rattle.srp_desc.specs.declared.pieces.DescFault.{DescFault}
use Rattle.tce_window.specs.declared.answers.HoldFault.{HoldFault}
use Rattle.tce_window.specs.declared.answers.Right.TheVariants.{Read}
use Rattle.block_server.specs.Causes.{Hearing, IsNamed, tables_at}
use Rattle.block_server.specs.Causes.News.{denied, fetched}
use Rattle.block_server.specs.declared.fetching.Progress.{Progress}
use Rattle.block_server.specs.declared.fetching.Progress.TheVariants.{Busy, Done, Refused}
use Rattle.block_server.specs.declared.request.Order.TheVariants.{Command}
use Rattle.block_server.specs.declared.request.Request.{Request}
use Rattle.block_server.specs.declared.service.Service.{Service}
use Rattle.block_server.specs.declared.service.Stage.{Stage}
use Rattle.block_server.specs.declared.service.Stage.TheVariants.{InTable, DataOut, Given, DataIn}

-- the buffers of a service: the pieces of data-out and of data-in, and the data-in that the disk step gave
pub record Buffers : Type 0 where
  pub outs : List Desc
  pub inns : List Desc
  pub given : List ℕ

abbrev pub buffers_of : Service → Buffers
buffers_of service = record { outs = service.out.list.items; inns = service.inn.list.items; given = service.given.items }

-- The pieces are those of the bytes that a copy of a table brought, which sum up.
pub record IsRead (Hears : Hearing) (table : Desc) (total : ℕ) (list : List Desc) : Type 0 where
  pub bytes : List ℕ
  pub full : length bytes ≡ table.len
  pub brought : Hears (fetched table.address tables_at bytes)
  pub sums : summing_to total (descs_in bytes) ≡ named list

-- The pieces of the bytes that a copy of a table brought do not sum up.
pub record HasBadSum (Hears : Hearing) (table : Desc) (total : ℕ) : Type 0 where
  pub bytes : List ℕ
  pub full : length bytes ≡ table.len
  pub brought : Hears (fetched table.address tables_at bytes)
  pub fault : DescFault
  pub sums : summing_to total (descs_in bytes) ≡ refused fault

-- The window refuses to have a table read.
pub record DeniesTable (Hears : Hearing) (table : Desc) : Type 0 where
  pub fault : HoldFault
  pub told : Hears (denied Read table.address table.len fault)

-- Both lists of pieces are those that the command names.
pub record HasBoth (Hears : Hearing) (command : Cmd) (outs inns : List Desc) : Type 0 where
  pub out_named : IsNamed Hears command.out outs
  pub in_named : IsNamed Hears command.inn inns

-- what is known at a stage of the pieces of the command in service
abbrev pub Gathers : Hearing → Cmd → Stage → (outs inns : List Desc) → Type 0
Gathers Hears command InTable outs inns = IsNamed Hears command.out outs
Gathers Hears command (DataOut cursor) outs inns = HasBoth Hears command outs inns
Gathers Hears command (Given row reply) outs inns = IsNamed Hears command.inn inns
Gathers Hears command (DataIn row reply cursor) outs inns = IsNamed Hears command.inn inns
Gathers Hears command _ outs inns = ⊤

-- the same of a service
abbrev pub KnowsPieces : Hearing → Cmd → Service → Type 0
KnowsPieces Hears command service = Gathers Hears command service.stage service.out.list.items service.inn.list.items

-- There is an oldest request, and if it is a command, P holds of that.
pub record OfFirst (pending : List Request) (P : Cmd → Type 0) : Type 0 where
  pub request : Request
  pub rest : List Request
  pub front : pending ≡ request ∷ rest
  pub holds : (command : Cmd) → request.order ≡ Command command → P command

-- where the tables of the oldest request were fetched, its pieces are known
abbrev pub HasPieces : Hearing → Stage → (outs inns : List Desc) → List Request → Type 0
HasPieces Hears InTable outs inns pending = OfFirst pending (λ command. IsNamed Hears command.out outs)
HasPieces Hears (DataOut cursor) outs inns pending = OfFirst pending (λ command. HasBoth Hears command outs inns)
HasPieces Hears (Given row reply) outs inns pending = OfFirst pending (λ command. IsNamed Hears command.inn inns)
HasPieces Hears (DataIn row reply cursor) outs inns pending = OfFirst pending (λ command. IsNamed Hears command.inn inns)
HasPieces Hears _ outs inns pending = ⊤

-- where all copies were made, P
abbrev pub IfDone : Result Progress NoMemory → Type 0 → Type 0
IfDone (Ok Done) P = P
IfDone _ P = ⊤

-- where a copy or its descriptors were refused, P
abbrev pub IfRefused : Result Progress NoMemory → Type 0 → Type 0
IfRefused (Ok Refused) P = P
IfRefused _ P = ⊤

-- where a page is in use or memory is wanting, P
abbrev pub IfStill : Result Progress NoMemory → Type 0 → Type 0
IfStill (Ok Busy) P = P
IfStill (Err memory) P = P
IfStill _ P = ⊤
