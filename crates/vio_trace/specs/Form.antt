-- A trace in form: each byte, number and length is within its range, and the rows of each section stand in
-- their order. A text is said to be that of a trace for a trace in form alone: of others a byte of 258 and
-- one that is no digit would be written alike.
use Rattle.std.specs.Prelude.{ℕ, ◌≡◌, ◌<◌, ◌≤◌, ◌^◌, ◌⊎◌, List, [], ◌∷◌, All, IfSome, length}
use Rattle.hex.specs.Hex.{IsBytes}
use Rattle.vio_num.specs.declared.entry.Entry.{Entry}
use Rattle.vio_num.specs.declared.names.UnitId.{UnitId}
use Rattle.vio_num.specs.declared.history.Grant.{Grant}
use Rattle.vio_num.specs.declared.history.Grant.TheVariants as grants
use Rattle.vio_num.specs.declared.history.Served.{Served}
use Rattle.vio_trace.specs.declared.outcome.Outcome.{Outcome}
use Rattle.vio_trace.specs.declared.outcome.Outcome.TheVariants as outcomes
use Rattle.vio_trace.specs.declared.rows.Trace.{Trace}
use Rattle.vio_trace.specs.declared.rows.LogRow.{LogRow}
use Rattle.vio_trace.specs.declared.rows.QueueRow.{QueueRow}
use Rattle.vio_trace.specs.declared.rows.DropRow.{DropRow}
use Rattle.vio_trace.specs.declared.rows.AnswerRow.{AnswerRow}
use Rattle.vio_trace.specs.declared.lan_rows.FrameRow.{FrameRow}
use Rattle.vio_trace.specs.declared.lan_rows.OfferRow.{OfferRow}
use Rattle.vio_trace.specs.declared.lan_rows.PortRow.{PortRow}
use Rattle.vio_trace.specs.declared.lan_rows.PostRow.{PostRow}
use Rattle.vio_trace.specs.declared.lan_rows.DeliverRow.{DeliverRow}
use Rattle.vio_trace.specs.declared.lan_rows.HarvestRow.{HarvestRow}
use Rattle.vio_trace.specs.declared.window_rows.TceValueRow.{TceValueRow}
use Rattle.vio_trace.specs.declared.window_rows.PieceRow.{PieceRow}
use Rattle.vio_trace.specs.declared.window_rows.CopyRow.{CopyRow}
use Rattle.vio_trace.specs.declared.window_rows.StrokeRow.{StrokeRow}
use Rattle.vio_trace.specs.Text.{trace_text}

-- a number of 64 bits
abbrev pub IsWord : ℕ → Type 0
IsWord n = n < 2 ^ 64

-- a number of 32 bits
abbrev pub IsHalf : ℕ → Type 0
IsHalf n = n < 2 ^ 32

-- a number of 16 bits
abbrev pub IsShort : ℕ → Type 0
IsShort n = n < 2 ^ 16

-- bytes that a line shows: 1 to 256
pub record AreShown (bytes : List ℕ) : Type 0 where
  pub digits : IsBytes bytes
  pub some : 1 ≤ length bytes
  pub few : length bytes ≤ 256

-- the two numbers of a unit's name are bytes
pub record IsName (unit : UnitId) : Type 0 where
  pub partition : unit.partition < 256
  pub own : unit.unit < 256

-- how a script line ended
abbrev pub IsOutcome : Outcome → Type 0
IsOutcome (outcomes.Granted credits) = IsHalf credits
IsOutcome (outcomes.Rejected reason) = IsHalf reason
IsOutcome outcomes.Lost = Unit {0}
IsOutcome outcomes.Unanswered = Unit {0}
IsOutcome (outcomes.Sent tag) = IsWord tag
IsOutcome outcomes.Range = Unit {0}
IsOutcome outcomes.NotLoggedIn = Unit {0}
IsOutcome (outcomes.NoCredit limit) = IsHalf limit
IsOutcome (outcomes.Overlap tag) = IsWord tag
IsOutcome outcomes.Closed = Unit {0}
IsOutcome (outcomes.Dropped number held) = IsWord number × IsWord held
IsOutcome (outcomes.Took count) = IsWord count
IsOutcome (outcomes.TookThenLost count) = IsWord count
IsOutcome (outcomes.Data len sum) = IsWord len × IsWord sum
IsOutcome (outcomes.Stale page) = IsShort page
IsOutcome outcomes.Unknown = Unit {0}
IsOutcome (outcomes.Code code) = Unit {0}
IsOutcome (outcomes.Value value) = IsWord value
IsOutcome (outcomes.Posted buffers code) = IsHalf buffers
IsOutcome (outcomes.Frame code number) = IsWord number
IsOutcome outcomes.Done = Unit {0}
IsOutcome (outcomes.Bytes shown) = AreShown shown

-- the row of a script line
pub record IsLogRow (row : LogRow) : Type 0 where
  pub partition : row.partition < 256
  pub line : IsHalf row.line
  pub outcome : IsOutcome row.outcome

-- both halves of an entry
pub record IsEntry (entry : Entry) : Type 0 where
  pub high : IsWord entry.high
  pub low : IsWord entry.low

-- the row of an entry that was dropped
pub record IsDropRow (row : DropRow) : Type 0 where
  pub number : IsWord row.number
  pub held : IsWord row.held

-- the first line of a session
pub record IsQueueLine (row : QueueRow) : Type 0 where
  pub unit : IsName row.unit
  pub session : IsWord row.session
  pub slots : IsHalf row.slots
  pub sent : IsWord (length row.sent)
  pub taken : IsWord (length row.taken)
  pub drops : IsWord (length row.drops)

-- a session, with its entries and drops
pub record IsQueueRow (row : QueueRow) : Type 0 where
  pub line : IsQueueLine row
  pub sent : All IsEntry row.sent
  pub taken : All IsEntry row.taken
  pub drops : All IsDropRow row.drops

-- a login that was granted
pub record IsGranted (unit : UnitId) (session login number credits : ℕ) : Type 0 where
  pub name_of : IsName unit
  pub in_session : IsWord session
  pub at_login : IsWord login
  pub at_number : IsWord number
  pub limit : IsHalf credits

-- a login that ended
pub record IsLapsed (unit : UnitId) (session login outstanding granted : ℕ) : Type 0 where
  pub name_of : IsName unit
  pub in_session : IsWord session
  pub of_login : IsWord login
  pub then_outstanding : IsHalf outstanding
  pub then_granted : IsHalf granted

-- the beginning or the end of a login
abbrev pub IsGrantRow : Grant → Type 0
IsGrantRow (grants.Granted unit session login number credits) = IsGranted unit session login number credits
IsGrantRow (grants.Lapsed unit session login why outstanding granted) = IsLapsed unit session login outstanding granted

-- a request that was served
pub record IsServeRow (row : Served) : Type 0 where
  pub unit : IsName row.unit
  pub session : IsWord row.session
  pub login : IsWord row.login
  pub number : IsWord row.number
  pub iu : IsBytes row.iu
  pub out : IsBytes row.out
  pub fault : IfSome row.fault IsHalf
  pub answer : IsBytes row.answer
  pub inn : IsBytes row.inn

-- an answer that a client took
pub record IsAnswerRow (row : AnswerRow) : Type 0 where
  pub unit : IsName row.unit
  pub session : IsWord row.session
  pub tag : IsWord row.tag
  pub answer : IsBytes row.answer

-- a value that was put
pub record IsTceValueRow (row : TceValueRow) : Type 0 where
  pub unit : IsName row.unit
  pub entry : IsShort row.entry
  pub version : IsHalf row.version
  pub value : IsWord row.value

-- a piece of a copy
pub record IsPieceRow (row : PieceRow) : Type 0 where
  pub unit : IsName row.unit
  pub entry : IsShort row.entry
  pub version : IsHalf row.version
  pub page : IsShort row.page
  pub offset : IsShort row.offset
  pub len : IsShort row.len
  pub at : IsHalf row.at

-- the first line of a frame
pub record IsFrameLine (row : FrameRow) : Type 0 where
  pub unit : IsName row.unit
  pub number : IsWord row.number
  pub from : IsWord (length row.from)
  pub bytes : IsBytes row.bytes

-- a port that a frame was offered to
pub record IsOfferRow (row : OfferRow) : Type 0 where
  pub unit : IsName row.unit
  pub number : IsWord row.number
  pub port : IsName row.port

-- a frame, with its pieces and offers
pub record IsFrameRow (row : FrameRow) : Type 0 where
  pub line : IsFrameLine row
  pub from : All IsPieceRow row.from
  pub offers : All IsOfferRow row.offers

-- a session of a port
pub record IsPortRow (row : PortRow) : Type 0 where
  pub unit : IsName row.unit
  pub session : IsWord row.session
  pub slots : IsHalf row.slots
  pub drops : IsWord row.drops

-- a buffer that was posted
pub record IsPostRow (row : PostRow) : Type 0 where
  pub unit : IsName row.unit
  pub session : IsWord row.session
  pub number : IsWord row.number
  pub descriptor : IsWord row.descriptor
  pub correlator : IsWord row.correlator

-- the first line of a delivery
pub record IsDeliverLine (row : DeliverRow) : Type 0 where
  pub unit : IsName row.unit
  pub session : IsWord row.session
  pub post : IsWord row.post
  pub sender : IsName row.sender
  pub frame : IsWord row.frame
  pub to : IsWord (length row.to)

-- a delivery, with its pieces
pub record IsDeliverRow (row : DeliverRow) : Type 0 where
  pub line : IsDeliverLine row
  pub to : All IsPieceRow row.to

-- a receive entry that was taken
pub record IsHarvestRow (row : HarvestRow) : Type 0 where
  pub unit : IsName row.unit
  pub session : IsWord row.session
  pub high : IsWord row.high
  pub low : IsWord row.low

-- the first line of a copy
pub record IsCopyLine (row : CopyRow) : Type 0 where
  pub unit : IsName row.unit
  pub mark : IsWord row.mark
  pub len : IsHalf row.len
  pub from : IsWord (length row.from)
  pub to : IsWord (length row.to)

-- a copy, with its pieces
pub record IsCopyRow (row : CopyRow) : Type 0 where
  pub line : IsCopyLine row
  pub from : All IsPieceRow row.from
  pub to : All IsPieceRow row.to

-- a stroke
pub record IsStrokeRow (row : StrokeRow) : Type 0 where
  pub unit : IsName row.unit
  pub page : IsShort row.page
  pub place : IsHalf row.place
  pub writer : IsName row.writer
  pub mark : IsWord row.mark
  pub offset : IsShort row.offset
  pub bytes : IsBytes row.bytes

-- Every row is within its ranges. Each trace that a program holds is: its types say so.
pub record IsInRange (trace : Trace) : Type 0 where
  pub logs : All IsLogRow trace.logs
  pub queues : All IsQueueRow trace.queues
  pub grants : All IsGrantRow trace.grants
  pub serves : All IsServeRow trace.serves
  pub answers : All IsAnswerRow trace.answers
  pub frames : All IsFrameRow trace.frames
  pub ports : All IsPortRow trace.ports
  pub posts : All IsPostRow trace.posts
  pub delivers : All IsDeliverRow trace.delivers
  pub harvests : All IsHarvestRow trace.harvests
  pub tces : All IsTceValueRow trace.tces
  pub copies : All IsCopyRow trace.copies
  pub strokes : All IsStrokeRow trace.strokes

-- each row stands before the next
abbrev pub Ascend : {Row : Type 0} → (Row → Row → Type 0) → List Row → Type 0
Ascend before [] = Unit {0}
Ascend before (row ∷ []) = Unit {0}
Ascend before (row ∷ next ∷ rows) = before row next × Ascend before (next ∷ rows)

-- by partition, then by line
abbrev pub LogBefore : LogRow → LogRow → Type 0
LogBefore a b = (a.partition < b.partition) ⊎ ((a.partition ≡ b.partition) × (a.line < b.line))

-- by partition, then by the unit's own number
abbrev pub UnitBefore : UnitId → UnitId → Type 0
UnitBefore a b = (a.partition < b.partition) ⊎ ((a.partition ≡ b.partition) × (a.unit < b.unit))

-- by unit, then by session
abbrev pub QueueBefore : QueueRow → QueueRow → Type 0
QueueBefore a b = UnitBefore a.unit b.unit ⊎ ((a.unit ≡ b.unit) × (a.session < b.session))

-- by unit; those of one unit stand in order of time, which no word of their lines tells
abbrev pub AnswerBefore : AnswerRow → AnswerRow → Type 0
AnswerBefore a b = UnitBefore a.unit b.unit ⊎ (a.unit ≡ b.unit)

-- by sender, then by number
abbrev pub FrameBefore : FrameRow → FrameRow → Type 0
FrameBefore a b = UnitBefore a.unit b.unit ⊎ ((a.unit ≡ b.unit) × (a.number < b.number))

-- an offer names its frame
pub record IsOfferOf (frame : FrameRow) (offer : OfferRow) : Type 0 where
  pub unit : offer.unit ≡ frame.unit
  pub number : offer.number ≡ frame.number

-- by unit, then by session
abbrev pub PortBefore : PortRow → PortRow → Type 0
PortBefore a b = UnitBefore a.unit b.unit ⊎ ((a.unit ≡ b.unit) × (a.session < b.session))

-- by unit, then by session, then by number
abbrev pub PostBefore : PostRow → PostRow → Type 0
PostBefore a b = UnitBefore a.unit b.unit
    ⊎ ((a.unit ≡ b.unit) × ((a.session < b.session) ⊎ ((a.session ≡ b.session) × (a.number < b.number))))

-- by unit, then by session; those of one session stand in order of time, which no word of their lines tells
abbrev pub DeliverBefore : DeliverRow → DeliverRow → Type 0
DeliverBefore a b = UnitBefore a.unit b.unit ⊎ ((a.unit ≡ b.unit) × (a.session ≤ b.session))

-- by unit, then by session; those of one session stand in order of time, which no word of their lines tells
abbrev pub HarvestBefore : HarvestRow → HarvestRow → Type 0
HarvestBefore a b = UnitBefore a.unit b.unit ⊎ ((a.unit ≡ b.unit) × (a.session ≤ b.session))

-- by unit, then by entry, then by version
abbrev pub TceValueBefore : TceValueRow → TceValueRow → Type 0
TceValueBefore a b = UnitBefore a.unit b.unit
    ⊎ ((a.unit ≡ b.unit) × ((a.entry < b.entry) ⊎ ((a.entry ≡ b.entry) × (a.version < b.version))))

-- by copier; those of one copier stand in order of time, which no word of their lines tells
abbrev pub CopyBefore : CopyRow → CopyRow → Type 0
CopyBefore a b = UnitBefore a.unit b.unit ⊎ (a.unit ≡ b.unit)

-- by unit, then by page, then by place
abbrev pub StrokeBefore : StrokeRow → StrokeRow → Type 0
StrokeBefore a b = UnitBefore a.unit b.unit
    ⊎ ((a.unit ≡ b.unit) × ((a.page < b.page) ⊎ ((a.page ≡ b.page) × (a.place < b.place))))

-- The rows stand in order: the keys of script lines, sessions, frames, posts, values and strokes rise strictly, and
-- each offer names the frame below which it stands. Grants and served requests stand in order of time, which no word of
-- their lines tells.
pub record IsInOrder (trace : Trace) : Type 0 where
  pub logs : Ascend LogBefore trace.logs
  pub queues : Ascend QueueBefore trace.queues
  pub answers : Ascend AnswerBefore trace.answers
  pub frames : Ascend FrameBefore trace.frames
  pub offers : All (λ frame. All (IsOfferOf frame) frame.offers) trace.frames
  pub ports : Ascend PortBefore trace.ports
  pub posts : Ascend PostBefore trace.posts
  pub delivers : Ascend DeliverBefore trace.delivers
  pub harvests : Ascend HarvestBefore trace.harvests
  pub tces : Ascend TceValueBefore trace.tces
  pub copies : Ascend CopyBefore trace.copies
  pub strokes : Ascend StrokeBefore trace.strokes

-- the trace is in form
pub record IsInForm (trace : Trace) : Type 0 where
  pub range : IsInRange trace
  pub order : IsInOrder trace

-- the text of a trace in form
pub record IsTextOf (trace : Trace) (text : List ℕ) : Type 0 where
  pub form : IsInForm trace
  pub spelled : text ≡ trace_text trace

-- the text is that of no trace
abbrev pub IsNoText : List ℕ → Type 0
IsNoText text = (trace : Trace) → ¬ (IsTextOf trace text)
