-- What a unit has in service, and that each answer is put once.
use Rattle.std.specs.Prelude.{◌≡◌, ℕ, ⊤, Bool, List, [], ◌∷◌, Option, Some, None, IfSome, IsSome, Result, Ok, Err, length, take}
use Rattle.vio_num.specs.declared.entry.Entry.{Entry as QueueEntry}
use Rattle.vio_num.specs.declared.names.UnitId.{UnitId}
use Rattle.vio_num.specs.declared.history.Served.{Served as ServedRow}
use Rattle.vio_num.specs.Entry.{srp_entry}
use Rattle.crq_ring.specs.declared.rows.PipeRow.{PipeRow}
use Rattle.crq_session.specs.EndState.{EndState}
use Rattle.vio_num.specs.declared.memory.NoMemory.{NoMemory}
use Rattle.block_server.specs.declared.intake.Next.{Next}
use Rattle.block_server.specs.declared.intake.Next.TheVariants.{End}
use Rattle.block_server.specs.declared.line.Kept.{Kept}
use Rattle.block_server.specs.declared.line.Kept.TheVariants as keeps
use Rattle.block_server.specs.declared.records.Records.{Records}
use Rattle.block_server.specs.declared.request.Request.{Request}
use Rattle.block_server.specs.declared.service.Outcome.{Outcome}
use Rattle.block_server.specs.declared.service.Outcome.TheVariants.{Served}
use Rattle.block_server.specs.declared.service.Service.{Service}
use Rattle.block_server.specs.declared.service.Stage.{Stage}
use Rattle.block_server.specs.declared.service.Stage.TheVariants.{Given, DataIn, Answer, Entry}
use Rattle.block_server.specs.declared.unit.Unit.{Unit}
use Rattle.srp_iu.specs.declared.command.Cmd.{Cmd}
use Rattle.block_disk.specs.Disk.{reply_to}
use Rattle.block_disk.specs.declared.reply.ScsiReply.{ScsiReply}
use Rattle.block_server.specs.declared.request.Order.TheVariants.{Command}
use Rattle.block_server.specs.Causes.{Hearing, Told, told_to, units_at}
use Rattle.block_server.specs.Causes.News.{fetched}
use Rattle.block_server.specs.Heard.{TellsAll}
use Rattle.block_server.specs.SiteState.{SiteState}
use Rattle.block_server.specs.DiskLaw.{HasData, ServeBy, ServesRowBy, handed_over}
use Rattle.block_server.specs.Fetched.{HasPieces, Buffers, buffers_of}
use Rattle.block_server.specs.Answering.{AnswersMore, IsInService, OnlyRowsOf}
use Rattle.block_server.specs.Entries.{IsPlain}
use Rattle.block_server.specs.Formed.{IsFormed}
use Rattle.block_server.specs.Granting.{HasOffer, LoginState, login_state}
use Rattle.block_server.specs.Records.{AnswersRow, FillsRow}
use Rattle.block_server.specs.Written.{AreWritten, IsWrittenOver}

-- What a unit has in service: how far the oldest request's service has come, its answer and its data, the entry that found
-- the client's queue full, and the requests that are not answered, the oldest first; and what logins are offered by.
pub record Desk : Type 0 where
  pub id : UnitId
  -- how many requests a login grants, and the one that is on
  pub logins : LoginState
  pub stage : Stage
  pub answer : List ℕ
  pub buffers : Buffers
  pub kept : Option Kept
  pub pending : List Request

abbrev pub desk_of : Unit → Desk
desk_of unit = record {
  id = unit.id;
  logins = login_state unit.logins;
  stage = unit.service.stage;
  answer = unit.service.answer.items;
  buffers = buffers_of unit.service;
  kept = unit.line.kept;
  pending = unit.pending.items;
}

-- the same while a service is apart from its unit, which keeps no entry
abbrev pub desk_at : UnitId → LoginState → Service → Option Kept → List Request → Desk
desk_at id logins service kept pending = record {
  id = id;
  logins = logins;
  stage = service.stage;
  answer = service.answer.items;
  buffers = buffers_of service;
  kept = kept;
  pending = pending;
}

-- where the request of a stage has a row: P of its place
abbrev pub IfRow : Stage → (ℕ → Type 0) → Type 0
IfRow (Given row reply) P = P row
IfRow (DataIn row reply cursor) P = P row
IfRow (Answer (Served row)) P = P row
IfRow (Entry (Served row)) P = P row
IfRow _ P = ⊤

-- What rows are judged by: the number of the disk's blocks, and what client windows told the units.
pub record Terms : Type 0 where
  pub size : ℕ
  pub told : Told → Bool

abbrev pub terms_of : (Told → Bool) → ℕ → Terms
terms_of told size = record { size = size; told = told }

-- A disk as a turn knows it: the terms of its rows, and its blocks, where its image tells them.
pub record Held : Type 0 where
  pub terms : Terms
  pub now : Option (List (List ℕ))

abbrev pub held : (Told → Bool) → ℕ → Option (List (List ℕ)) → Held
held told size now = record { terms = terms_of told size; now = now }

-- The row of a command whose disk step answered this: it has all data-in that are to be handed over.
pub record HasReply (terms : Terms) (request : Request) (given : List ℕ) (reply : ScsiReply) (served : ServedRow) : Type 0 where
  pub command : Cmd
  pub order : request.order ≡ Command command
  pub brought : HasData (told_to terms.told served.unit) command served.out
  pub fault_is : reply.fault ≡ served.fault
  pub reply_is : reply ≡ reply_to terms.size command.lun command.cdb (length served.out) served.fault
  pub given_is : served.inn ≡ given
  pub all_in : length served.inn ≡ handed_over command reply

-- The row law stays as the row gets this answer, on these terms; and the row is then in form, whatever the image tells.
pub record MayAnswer (terms : Terms) (answer : List ℕ) (served : ServedRow) : Type 0 where
  pub law : (before after : List (List ℕ)) → length before ≡ terms.size → ServesRowBy terms.told before served after → ServesRowBy terms.told before (record served { answer = answer }) after
  pub form : IsFormed terms.size terms.told (record served { answer = answer })

-- The same, and a copy wrote the answer over the row's request.
pub record IsReady (terms : Terms) (answer : List ℕ) (served : ServedRow) : Type 0 where
  pub may : MayAnswer terms answer served
  pub over : IsWrittenOver (told_to terms.told served.unit) served.iu answer

-- what is so of the row in service at a stage
abbrev pub HoldsAtStage : (terms : Terms) → Stage → (answer given : List ℕ) → Request → ServedRow → Type 0
HoldsAtStage terms (Given row reply) answer given request served = HasReply terms request given reply served
HoldsAtStage terms (DataIn row reply cursor) answer given request served = HasReply terms request given reply served
HoldsAtStage terms (Answer outcome) answer given request served = MayAnswer terms answer served
HoldsAtStage terms (Entry outcome) answer given request served = IsReady terms answer served
HoldsAtStage terms _ answer given request served = ⊤

-- what of a desk says which row is in service
pub record Place : Type 0 where
  pub id : UnitId
  pub stage : Stage
  pub answer : List ℕ
  pub given : List ℕ
  pub pending : List Request

abbrev pub place_of : Desk → Place
place_of desk = record { id = desk.id; stage = desk.stage; answer = desk.answer; given = desk.buffers.given; pending = desk.pending }

-- The oldest request is in service, and this row is its.
pub record IsServed (terms : Terms) (place : Place) (history : List ServedRow) (row : ℕ) : Type 0 where
  pub request : Request
  pub rest : List Request
  pub front : place.pending ≡ request ∷ rest
  pub in_service : IsInService place.id request.unit.items history row
  pub holds : HoldsAtStage terms place.stage place.answer place.given request in_service.served

-- The entry is that of the oldest request's answer, which is to be put.
pub record IsAnswerKept (desk : Desk) (entry : QueueEntry) (outcome : Outcome) : Type 0 where
  pub request : Request
  pub rest : List Request
  pub front : desk.pending ≡ request ∷ rest
  pub stage : desk.stage ≡ Entry outcome
  pub entry_is : entry ≡ srp_entry (length desk.answer) request.tag

-- What is kept is an entry that answers no request, or that of the answer in service.
abbrev pub IsKept : Desk → Kept → Type 0
IsKept desk (keeps.Reply entry) = IsPlain entry
IsKept desk (keeps.Answer entry outcome) = IsAnswerKept desk entry outcome

-- A copy brought the information unit of each request from its address.
abbrev pub AreBrought : Hearing → List Request → Type 0
AreBrought Hears [] = ⊤
AreBrought Hears (request ∷ requests) = Hears (fetched request.address units_at request.unit.items) × AreBrought Hears requests

-- The desk is in order: its row is in service, what it keeps may be put, the pieces that were fetched are its request's, its
-- requests were brought, and a login that is to be granted was offered.
pub record IsServing (terms : Terms) (desk : Desk) (history : List ServedRow) : Type 0 where
  pub row : IfRow desk.stage (IsServed terms (place_of desk) history)
  pub kept : (kept : Kept) → desk.kept ≡ Some kept → IsKept desk kept
  pub fetched : HasPieces (told_to terms.told desk.id) desk.stage desk.buffers.outs desk.buffers.inns desk.pending
  pub brought : AreBrought (told_to terms.told desk.id) desk.pending
  pub offer : HasOffer (told_to terms.told desk.id) desk.stage desk.logins desk.answer desk.pending

-- The rows took these blocks, as many as the disk has, to others.
pub record ServeFrom (terms : Terms) (before : List (List ℕ)) (history : List ServedRow) (all : List (List ℕ)) : Type 0 where
  pub size : length before ≡ terms.size
  pub serve : ServeBy terms.told before history all

-- The disk law stays, over the rows and the blocks of later.
abbrev pub StaysServed : (disk disk' : Held) → (history history' : List ServedRow) → Type 0
StaysServed disk disk' history history' =
    (before : List (List ℕ)) → IfSome disk.now (ServeFrom disk.terms before history) → IfSome disk'.now (ServeFrom disk'.terms before history')

-- Each answer that was put is that of one row more: the desk stays in order, no row of another unit changed, the disk law
-- stays, and each row's answer is written over its request still.
pub record Once (disk disk' : Held) (desk desk' : Desk) (sent sent' : List PipeRow) (history history' : List ServedRow) : Type 0 where
  pub id : desk'.id ≡ desk.id
  pub terms : disk'.terms ≡ disk.terms
  pub serving : IsServing disk'.terms desk' history'
  pub answers : AnswersMore desk.id sent sent' history history'
  pub others : OnlyRowsOf desk.id history history'
  pub stays : StaysServed disk disk' history history'
  pub written : AreWritten disk.terms.size disk.terms.told history → AreWritten disk'.terms.size disk'.terms.told history'
  pub tells : IfSome disk.now (λ all. IsSome disk'.now)

-- the same of a part of a turn that makes no disk step, whatever the disk is
abbrev pub AnswersOnce : (desk desk' : Desk) (queue queue' : EndState) (records records' : Records) → Type 0
AnswersOnce desk desk' queue queue' records records' =
    (disk : Held) → IsServing disk.terms desk records.history.items
    → Once disk disk desk desk' queue.sent queue'.sent records.history.items records'.history.items

-- of one that makes copies, between these states of the windows
abbrev pub AnswersOnceBy : (old new : SiteState) → (desk desk' : Desk) → (records records' : Records) → Type 0
AnswersOnceBy old new desk desk' records records' =
    (disk : Held) → TellsAll disk.terms.told desk.id old new → IsServing disk.terms desk records.history.items
    → Once disk disk desk desk' old.queue.sent new.queue.sent records.history.items records'.history.items

-- of one that needs a cause, which holds of what the unit was told
abbrev pub AnswersOnceIf : (Hearing → Type 0) → (desk desk' : Desk) (queue queue' : EndState) (records records' : Records) → Type 0
AnswersOnceIf Cause desk desk' queue queue' records records' =
    (disk : Held) → Cause (told_to disk.terms.told desk.id) → IsServing disk.terms desk records.history.items
    → Once disk disk desk desk' queue.sent queue'.sent records.history.items records'.history.items

-- and of one that may make some
abbrev pub AnswersOnceOn : (disk disk' : Held) (desk desk' : Desk) (queue queue' : EndState) (records records' : Records) → Type 0
AnswersOnceOn disk disk' desk desk' queue queue' records records' =
    IsServing disk.terms desk records.history.items
    → Once disk disk' desk desk' queue.sent queue'.sent records.history.items records'.history.items

-- What becomes of the row in service where its service is broken off: of its data-in only those that were copied are left.
abbrev pub LeavesRow : Stage → (given : List ℕ) → (history history' : List ServedRow) → Type 0
LeavesRow (Given row reply) given history history' = (n : ℕ) × FillsRow history history' row (take n given)
LeavesRow (DataIn row reply cursor) given history history' = (n : ℕ) × FillsRow history history' row (take n given)
LeavesRow _ given history history' = history' ≡ history

-- What an answer does to the history once its entry is put: its row, if it has one, gets the answer.
abbrev pub SettlesRow : Outcome → (answer : List ℕ) → (history history' : List ServedRow) → Type 0
SettlesRow (Served row) answer history history' = AnswersRow history history' row answer
SettlesRow _ answer history history' = history' ≡ history

-- Nothing is kept, unless the turn is over.
abbrev pub AsNone : Result Next NoMemory → Option Kept → Type 0
AsNone (Ok End) kept = ⊤
AsNone (Ok next) kept = kept ≡ None
AsNone (Err memory) kept = ⊤
