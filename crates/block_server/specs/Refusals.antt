-- Why a session of a server unit ends as refused: its client's window denied a range (SRP, "Information unit classes"; LoPAR,
-- "Remote DMA").
use Rattle.std.specs.Prelude.{⊤, ◌≡◌, ◌⊎◌, ◌++◌, ℕ, Bool, true, All, List, [], ◌∷◌, Option, Some, None, IfSome, length, map}
use Rattle.std.specs.List.{slice_get}
use Rattle.crq_ring.specs.declared.rows.PipeRow.{PipeRow}
use Rattle.crq_session.specs.EndState.{EndState}
use Rattle.crq_session.specs.declared.handshake.Handshake.{Handshake}
use Rattle.tce_window.specs.declared.answers.HoldFault.{HoldFault}
use Rattle.tce_window.specs.declared.answers.Right.TheVariants.{Read, Write}
use Rattle.vio_num.specs.Entry.{iu_address, iu_length}
use Rattle.vio_num.specs.Words.{Begins}
use Rattle.vio_num.specs.declared.entry.Entry.{Entry}
use Rattle.vio_num.specs.declared.history.Grant.{Grant}
use Rattle.vio_num.specs.declared.history.Grant.TheVariants.{Granted, Lapsed}
use Rattle.vio_num.specs.declared.history.Lapse.TheVariants as lapses
use Rattle.vio_num.specs.declared.history.Served.{Served}
use Rattle.vio_num.specs.declared.names.UnitId.{UnitId}
use Rattle.block_server.specs.Asked.{AreAskedInOrder, AskInOrder, AskedAt, still_to_answer}
use Rattle.block_server.specs.Causes.{Hearing, Told, told_to}
use Rattle.block_server.specs.Causes.News.{denied}
use Rattle.block_server.specs.Dealt.{AreDealt, HasDealt, KnowsSends}
use Rattle.block_server.specs.Entries.{is_answer_len}
use Rattle.block_server.specs.Granting.{IsGrantedOver, IsSrpAt}
use Rattle.block_server.specs.Heard.{TellsAll}
use Rattle.block_server.specs.LoginAnswers.{LoginsMore, asked_at, grants_in, login_answers}
use Rattle.block_server.specs.Makers.{same_unit}
use Rattle.block_server.specs.Ready.{Agrees}
use Rattle.block_server.specs.Receipts.{is_ended}
use Rattle.block_server.specs.Rejecting.{IsOnByLines, LinesTellLogin, RejectInTime}
use Rattle.block_server.specs.Serving.{Desk, IsServing, Terms}
use Rattle.block_server.specs.SiteState.{IsDeniedBetween, SiteState}
use Rattle.block_server.specs.declared.records.Records.{Records}
use Rattle.block_server.specs.declared.request.Arrival.{Arrival}
use Rattle.block_server.specs.declared.request.Request.{Request}
use Rattle.block_server.specs.declared.unit.Unit.{Unit}

-- The window denied to have the information unit of an entry that was taken in the session read.
pub record IsNotRead (Hears : Hearing) (taken : List PipeRow) (session : ℕ) : Type 0 where
  pub number : ℕ
  pub entry : Entry
  pub at : IsSrpAt taken session number entry
  pub fault : HoldFault
  pub told : Hears (denied Read (iu_address entry) (iu_length entry) fault)

-- It denied to have an answer written over the information unit of one.
pub record IsNotWritten (Hears : Hearing) (taken : List PipeRow) (session : ℕ) : Type 0 where
  pub number : ℕ
  pub entry : Entry
  pub at : IsSrpAt taken session number entry
  pub len : ℕ
  pub answers : is_answer_len len ≡ true
  pub fault : HoldFault
  pub told : Hears (denied Write (iu_address entry) len fault)

-- A line of the unit that says that its session ended as refused has such a cause, and one that grants a login was granted
-- over its request.
abbrev pub IsExplained : Hearing → UnitId → List PipeRow → Grant → Type 0
IsExplained Hears unit taken (Granted of session login number credits) = same_unit of unit ≡ true → IsGrantedOver Hears taken session number credits
IsExplained Hears unit taken (Lapsed of session login lapses.Refused outstanding granted) =
    same_unit of unit ≡ true → IsNotRead Hears taken session ⊎ IsNotWritten Hears taken session
IsExplained Hears unit taken (Lapsed of session login cause outstanding granted) = ⊤

-- KEPT BETWEEN TURNS -----------------------------------------------------------------------------

-- what a unit's lines are explained by: its queue's session and what was taken, the entry that waits to be fetched, the requests that are
-- pending, whether nothing more is taken in the session, and the lines
pub record Basis : Type 0 where
  pub session : ℕ
  pub taken : List PipeRow
  pub waiting : Option Arrival
  pub pending : List Request
  pub ended : Bool
  pub lines : List Grant

-- The request came by an SRP entry that was taken in the session: its information unit has the length that this names, and
-- is to be answered at the address.
pub record HasEntry (taken : List PipeRow) (session : ℕ) (request : Request) : Type 0 where
  pub entry : Entry
  pub at : IsSrpAt taken session request.number entry
  pub address : request.address ≡ iu_address entry
  pub long : length request.unit.items ≡ iu_length entry

-- What waits and what is pending came by entries of the session, and each line behind these has its cause.
pub record AreExplained (told : Told → Bool) (unit : UnitId) (since : List Grant) (basis : Basis) : Type 0 where
  pub waits : IfSome basis.waiting (λ arrival. IsSrpAt basis.taken basis.session arrival.number arrival.entry)
  pub pending : All (HasEntry basis.taken basis.session) basis.pending
  pub idle : basis.ended ≡ true → (basis.waiting ≡ None) × (basis.pending ≡ [])
  pub more : List Grant
  pub lines : basis.lines ≡ since ++ more
  pub each : All (IsExplained (told_to told unit) unit basis.taken) more

-- IN A TURN --------------------------------------------------------------------------------------

-- the same between the steps of a turn, and the answers to requests to log in that were put
pub record Ledger : Type 0 where
  pub id : UnitId
  -- the login that is on, or 0
  pub current : ℕ
  pub session : ℕ
  pub taken : List PipeRow
  pub waiting : Option Arrival
  pub pending : List Request
  pub ended : Bool
  pub lines : List Grant
  pub answers : List Entry

abbrev pub basis_in : Ledger → Basis
basis_in ledger = record {
  session = ledger.session;
  taken = ledger.taken;
  waiting = ledger.waiting;
  pending = ledger.pending;
  ended = ledger.ended;
  lines = ledger.lines;
}

abbrev pub ledger_at : Unit → (session : ℕ) → List PipeRow → (answers : List Entry) → Records → Ledger
ledger_at unit session taken answers records = record {
  id = unit.id;
  current = unit.logins.current;
  session = session;
  taken = taken;
  waiting = unit.waiting;
  pending = unit.pending.items;
  ended = is_ended unit.line;
  lines = records.grants.items;
  answers = answers;
}

abbrev pub ledger_of : Unit → SiteState → Records → Ledger
ledger_of unit site records = ledger_at unit site.queue.last_session site.queue.taken (login_answers site.queue.sent) records

-- where the requests were asked that are still to be answered, and behind them where the entry stands that is judged next
abbrev pub to_answer : Ledger → List AskedAt
to_answer ledger = still_to_answer ledger.session ledger.taken ledger.waiting ledger.pending

-- the same while this entry waits
abbrev pub waiting_in : Arrival → Ledger → Ledger
waiting_in arrival ledger = record ledger { waiting = Some arrival }

-- what stood as the turn began: the lines, and the answers that were put; and the lines behind which causes are asked
pub record Front : Type 0 where
  pub since : List Grant
  pub lines : List Grant
  pub answers : List Entry
  -- where the requests were asked to log in that were answered before, where that is known
  pub asked : Option (List AskedAt)
  -- whether a send of a session may have found the client's queue closed, the turn's among them
  pub closed : (session : ℕ) → Bool

-- Each line behind these has its cause, and each answer to a request to log in that was put in the turn is its line's, or a
-- rejection.
pub record AreAccounted (told : Told → Bool) (unit : UnitId) (front : Front) (ledger : Ledger) : Type 0 where
  pub known : AreExplained told unit front.since (basis_in ledger)
  pub logins : LoginsMore (told_to told unit) ledger.taken front.answers ledger.answers front.lines ledger.lines
  pub dealt : (earlier : List AskedAt) → front.asked ≡ Some earlier → AreDealt (told_to told unit) ledger.session ledger.taken ledger.waiting ledger.pending ledger.ended
      (record { put = earlier ++ map asked_at logins.more; closed = front.closed })
  -- the requests were answered in their order, and those that are still to be answered were asked behind them
  pub order : (earlier : List AskedAt) → front.asked ≡ Some earlier → AreAskedInOrder (earlier ++ (map asked_at logins.more ++ to_answer ledger))
  -- and the lines, which came behind those of before, say which login is on, and was as each of them was rejected
  pub grown : Begins front.lines ledger.lines
  pub on : (earlier : List AskedAt) → front.asked ≡ Some earlier → IsOnByLines ledger.id ledger.session ledger.current ledger.ended ledger.lines
  pub rejects : (earlier : List AskedAt) → front.asked ≡ Some earlier → RejectInTime ledger.id (grants_in front.lines) ledger.lines logins.more

-- This stays so, whatever was told.
abbrev pub Explains : (old new : Ledger) → Type 0
Explains old new = (told : Told → Bool) (unit : UnitId) (front : Front) → AreAccounted told unit front old → AreAccounted told unit front new

-- It stays so for a cause, which holds of what the unit was told.
abbrev pub ExplainsIf : (Hearing → Type 0) → (old new : Ledger) → Type 0
ExplainsIf Cause old new = (told : Told → Bool) (unit : UnitId) (front : Front) → Cause (told_to told unit) → AreAccounted told unit front old → AreAccounted told unit front new

-- It stays so where all that came between was told.
abbrev pub ExplainsBy : (old new : SiteState) → (ledger ledger' : Ledger) → Type 0
ExplainsBy old new ledger ledger' =
    (told : Told → Bool) (unit : UnitId) (front : Front) → TellsAll told unit old new → AreAccounted told unit front ledger → AreAccounted told unit front ledger'

-- It stays so of a unit whose desk is in order, on these terms; and of one where all that came between was told to it.
abbrev pub ExplainsOf : Terms → Desk → List Served → (old new : Ledger) → Type 0
ExplainsOf terms desk history old new =
    IsServing terms desk history → (front : Front) → AreAccounted terms.told desk.id front old → AreAccounted terms.told desk.id front new

-- It stays so where it is known which sends may have found the client's queue closed; and where all that came between was told, too.
abbrev pub ExplainsSends : (shared : Bool) → Handshake → (queue queue' : EndState) → Terms → Desk → List Served → (old new : Ledger) → Type 0
ExplainsSends shared handshake queue queue' terms desk history old new =
    IsServing terms desk history → (front : Front) → KnowsSends (Agrees handshake queue) shared queue queue' front.closed → AreAccounted terms.told desk.id front old → AreAccounted terms.told desk.id front new

abbrev pub ExplainsOn : (shared : Bool) → Handshake → Terms → (old new : SiteState) → Desk → List Served → (ledger ledger' : Ledger) → Type 0
ExplainsOn shared handshake terms old new desk history ledger ledger' =
    TellsAll terms.told desk.id old new → ExplainsSends shared handshake old.queue new.queue terms desk history ledger ledger'

-- The window denied to have an answer written over the oldest request.
pub record DeniesAnswer (old new : SiteState) (pending : List Request) : Type 0 where
  pub front : Request
  pub rest : List Request
  pub parts : pending ≡ front ∷ rest
  pub len : ℕ
  pub answers : is_answer_len len ≡ true
  pub denied_is : IsDeniedBetween old new Write front.address len

-- BETWEEN TURNS -----------------------------------------------------------------------------------

abbrev pub basis_seen : Unit → EndState → List Grant → Basis
basis_seen unit queue grants = record {
  session = queue.last_session;
  taken = queue.taken;
  waiting = unit.waiting;
  pending = unit.pending.items;
  ended = is_ended unit.line;
  lines = grants;
}

-- The unit of this number has its refusals explained, behind these lines.
abbrev pub HasExplained : (told : Told → Bool) → List Unit → (number : ℕ) → (unit : UnitId) → EndState → (since grants : List Grant) → Type 0
HasExplained told units number unit queue since grants = IfSome (slice_get units number) (λ u. AreExplained told unit since (basis_seen u queue grants))

-- Units of which nothing waits and nothing is pending, whatever their names are, over any queue and behind any lines.
abbrev pub ExplainNone : List Unit → Type 0
ExplainNone units = (told : Told → Bool) (number : ℕ) (unit : UnitId) (queue : EndState) (grants : List Grant) → HasExplained told units number unit queue grants grants

-- What a turn of this unit of a server puts of answers to requests to log in.
abbrev pub AnswersLogins : (told : Told → Bool) → UnitId → (queue queue' : EndState) → (records records' : Records) → Type 0
AnswersLogins told unit queue queue' records records' =
    LoginsMore (told_to told unit) queue'.taken (login_answers queue.sent) (login_answers queue'.sent) records.grants.items records'.grants.items

-- These answers are to requests that were asked in order, each at most once: behind those asked at the earlier places, and before
-- what the unit of this number has still to answer.
pub record AnswersInOrder (told : Told → Bool) (earlier : List AskedAt) (closed : ℕ → Bool) (units' : List Unit) (number : ℕ) (unit : UnitId) (queue queue' : EndState) (records records' : Records) : Type 0 where
  pub logins : AnswersLogins told unit queue queue' records records'
  pub order : AskInOrder (earlier ++ map asked_at logins.more) units' number queue'
  -- and by the lines one was on as each of them was rejected for that, and none as each was rejected for another cause
  pub lines : Begins records.grants.items records'.grants.items
  pub rejects : RejectInTime unit (grants_in records.grants.items) records'.grants.items logins.more
  pub on : LinesTellLogin units' number unit queue' records'.grants.items
  -- and each SRP entry of a session that goes on was dealt with: an answer that was copied was put, unless the client's queue was closed
  pub deals : HasDealt told (earlier ++ map asked_at logins.more) closed units' number unit queue'
