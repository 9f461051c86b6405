-- What lies between a plain client and its server unit between turns: what the client asked and is not done with, where each of that is,
-- and how far both have come.
use Rattle.std.specs.Prelude.{get_or, ◌≡◌, ◌≢◌, ◌⊎◌, ℕ, ◌+◌, ◌*◌, ◌/◌, ◌<◌, ◌≤◌, ◌++◌, ◌%◌, ◌&&◌, drop, nat_le, not, take, All, Bool, true, false, List, [], ◌∷◌, Option, Some, None, IsSome, is_some, length, map, min, slice_get, ⊤, if◌then◌else◌}
use Rattle.vio_num.specs.Entry.{initialization_complete, initialize, is_srp_entry, iu_address, iu_length, srp_entry}
use Rattle.vio_num.specs.declared.TheConstants.{PAGE_BYTES}
use Rattle.vio_num.specs.declared.entry.Entry.{Entry}
use Rattle.crq_session.specs.Answered.{received_now, taken_now}
use Rattle.crq_session.specs.EndState.{EndState}
use Rattle.crq_session.specs.declared.handshake.Handshake.TheVariants.{Down, Up, Waiting}
use Rattle.srp_iu.specs.Grammar.{Canon, Spells}
use Rattle.srp_desc.specs.Pieces.{named, pieces, sum_of, total_of}
use Rattle.srp_desc.specs.Tables.{table_len, tables_of}
use Rattle.srp_iu.specs.declared.buffer.Buffer.{Buffer}
use Rattle.srp_iu.specs.declared.buffer.Buffer.TheVariants.{Absent}
use Rattle.srp_iu.specs.declared.buffer.Desc.{Desc}
use Rattle.srp_iu.specs.declared.command.Cmd.{Cmd}
use Rattle.srp_iu.specs.declared.login.TheConstants.{UNABLE_TO_ESTABLISH_CHANNEL}
use Rattle.srp_iu.specs.declared.unit.Iu.{Iu}
use Rattle.srp_iu.specs.declared.unit.Iu.TheVariants as units
use Rattle.page_slots.specs.Page.{left_by}
use Rattle.page_slots.specs.Stroke.{StrokeValue}
use Rattle.tce_window.specs.PortState.{PortState}
use Rattle.tce_window.specs.Region.{region_byte}
use Rattle.unit_region.specs.RegionLines.{IsOn}
use Rattle.vio_num.specs.declared.names.UnitId.{UnitId}
use Rattle.block_server.specs.Carried.{address_of}
use Rattle.block_server.specs.Closings.{is_event}
use Rattle.block_server.specs.Ends.{IsGrantable}
use Rattle.block_server.specs.Ranges.{IsDataIn}
use Rattle.block_server.specs.Standing.{stood}
use Rattle.block_server.specs.Talk.{MayAsk, Word, order_asked, tag_asked, talk_of, to_come}
use Rattle.block_server.specs.Talk.Word.{asks, begins, gone}
use Rattle.block_server.specs.declared.request.Order.{Order}
use Rattle.block_server.specs.declared.request.Request.{Request}
use Rattle.block_server.specs.declared.service.Outcome.{Outcome}
use Rattle.block_server.specs.declared.service.Outcome.TheVariants as outcomes
use Rattle.block_server.specs.declared.service.Stage.TheVariants as stages
use Rattle.block_server.specs.declared.unit.Unit.{Unit}
use Rattle.vscsi_client.specs.Ports.{Ports, ports}
use Rattle.vscsi_client.specs.Sending.{task_of}
use Rattle.vscsi_client.specs.Spans.{meets}
use Rattle.vscsi_client.specs.State.{ClientState}
use Rattle.vscsi_client.specs.Units.{slot_address}
use Rattle.vscsi_client.specs.declared.TheConstants.{DATA_START, SLOTS}
use Rattle.vscsi_client.specs.declared.outgoing.Outgoing.{Outgoing}
use Rattle.vscsi_client.specs.declared.outgoing.Span.{Span}
use Rattle.vscsi_client.specs.declared.row.Row.{Row}
use Rattle.vscsi_client.specs.declared.stage.Stage.{Stage}
use Rattle.vscsi_client.specs.declared.stage.Stage.TheVariants.{Idle, Sent}
use Rattle.vcpu_run.specs.DataKept.{IsInwardAt}
use Rattle.vcpu_run.specs.PlainNoted.{HasResponse}
use Rattle.vcpu_run.specs.PlainRejected.{HasRejection}

-- WHAT IS ASKED -----------------------------------------------------------------------------------

-- something that a client asked: its tag, the slot of its unit, the unit and its bytes, the pages of its data and of its table, and the
-- address of its data
pub record Ask : Type 0 where
  pub tag : ℕ
  pub slot : ℕ
  pub iu : Iu
  pub bytes : List ℕ
  pub pages : Span
  pub table : Span
  pub start : ℕ

-- whether it is a login, a logout, or one of those that a login grants
abbrev pub is_login : Iu → Bool
is_login (units.LoginReq request) = true
is_login iu = false

abbrev pub is_logout : Iu → Bool
is_logout (units.ILogout tag) = true
is_logout iu = false

abbrev pub is_counted : Iu → Bool
is_counted (units.TskMgmt task) = true
is_counted (units.Cmd command) = true
is_counted iu = false

-- what is so of a login's request
abbrev pub IsFair : Iu → Type 0
IsFair (units.LoginReq request) = IsGrantable 0 request
IsFair iu = ⊤

-- A client asks for nothing else; each unit is canonical, bears its tag, and has one of the slots, or, if it is a login, the place behind them;
-- a login is granted where none is on.
pub record IsAsk (ask : Ask) : Type 0 where
  pub kind : (is_login ask.iu ≡ true) ⊎ ((is_logout ask.iu ≡ true) ⊎ (is_counted ask.iu ≡ true))
  pub tag_is : tag_asked ask.iu ≡ ask.tag
  pub slot_is : ask.slot ≤ SLOTS
  pub below : is_login ask.iu ≡ false → ask.slot < SLOTS
  pub canonical : Canon ask.bytes ask.iu
  pub fair : IsFair ask.iu

-- how many of these a login grants
abbrev pub counted : List Ask → ℕ
counted [] = 0
counted (ask ∷ more) = (if is_counted ask.iu then 1 else 0) + counted more

-- whether one of them is a logout, or a login
abbrev pub has_logout : List Ask → Bool
has_logout [] = false
has_logout (ask ∷ more) = if is_logout ask.iu then true else has_logout more

abbrev pub has_login : List Ask → Bool
has_login [] = false
has_login (ask ∷ more) = if is_login ask.iu then true else has_login more

-- whether a login is on once these are served, up to the first login
abbrev pub on_behind : Bool → List Ask → Bool
on_behind on [] = on
on_behind on (ask ∷ more) = if is_login ask.iu then on else on_behind (if is_logout ask.iu then false else on) more

-- how a client knows it, and those of these that have an answer
abbrev pub name_of : Ask → Outgoing
name_of ask = record { tag = ask.tag; slot = ask.slot; pages = ask.pages; table = ask.table }

abbrev pub names_of : List Ask → List Outgoing
names_of [] = []
names_of (ask ∷ more) = if is_logout ask.iu then names_of more else name_of ask ∷ names_of more

-- those of which a client awaits the answer, the oldest first
abbrev pub login_name : Stage → List Outgoing
login_name (Sent tag slot) = task_of tag slot ∷ []
login_name stage = []

-- whether the entry of a login was put, whose answer is awaited
abbrev pub is_sent : Stage → Bool
is_sent (Sent tag slot) = true
is_sent stage = false

abbrev pub awaited : ClientState → List Outgoing
awaited s = s.outgoing ++ login_name s.login

-- WHAT SHOWS IN THE REGION ------------------------------------------------------------------------

-- what the strokes on a page leave of it, from a place on, so many bytes long
abbrev pub shown_on : Option (List StrokeValue) → (start count : ℕ) → List ℕ
shown_on (Some strokes) start count = take count (drop start (left_by strokes))
shown_on None start count = []

-- the same of the region, on the page of the address
abbrev pub shown : PortState → (address len : ℕ) → List ℕ
shown window address len = shown_on (window.strokes (address / PAGE_BYTES)) (address % PAGE_BYTES) len

-- These bytes show there, whatever the entries let be read.
abbrev pub ShowsAt : PortState → (address : ℕ) → List ℕ → Type 0
ShowsAt window address bytes = shown window address (length bytes) ≡ bytes

-- WHERE IT IS -------------------------------------------------------------------------------------

-- what a client asked and is not done with: what has its answer, what is pending, and what is to come; the oldest stand first, and what has
-- its answer before all else
pub record AskedParts : Type 0 where
  pub answered : List Ask
  pub pending : List Ask
  pub coming : List Ask

abbrev pub all_asked : AskedParts → List Ask
all_asked asked = asked.answered ++ (asked.pending ++ asked.coming)

-- A request of a server unit is that of this.
pub record IsPendingAs (request : Request) (ask : Ask) : Type 0 where
  pub address : request.address ≡ slot_address ask.slot
  pub tag : request.tag ≡ ask.tag
  pub order : request.order ≡ order_asked ask.iu
  pub bytes : request.unit.items ≡ ask.bytes

abbrev pub ArePending : List Request → List Ask → Type 0
ArePending [] [] = ⊤
ArePending (request ∷ requests) (ask ∷ more) = IsPendingAs request ask × ArePending requests more
ArePending _ _ = ⊥

-- what an entry says that asks it
abbrev pub word_of : Ask → Word
word_of ask = asks (slot_address ask.slot) ask.bytes ask.iu

-- An entry tells of its answer, and that lies in its slot: what is granted to a login or why it is rejected, or a response.
abbrev pub IsAnswerTo : Iu → Iu → Type 0
IsAnswerTo (units.LoginReq request) (units.LoginRsp response) = response.tag ≡ request.tag
IsAnswerTo (units.LoginReq request) (units.LoginRej rejection) = rejection.tag ≡ request.tag
IsAnswerTo (units.TskMgmt task) (units.Rsp response) = response.tag ≡ task.tag
IsAnswerTo (units.Cmd command) (units.Rsp response) = response.tag ≡ command.tag
IsAnswerTo asked answer = ⊥

pub record HasAnswer (window : PortState) (entry : Entry) (ask : Ask) (answer : Iu) : Type 0 where
  pub long : ℕ
  pub few : long ≤ 256
  pub entry_is : entry ≡ srp_entry long ask.tag
  pub bytes : List ℕ
  pub stand : ShowsAt window (slot_address ask.slot) bytes
  pub whole : length bytes ≡ 256
  pub spelled : Spells bytes answer
  pub suits : IsAnswerTo ask.iu answer

-- These entries tell of the answers to these, one by one.
abbrev pub HaveAnswers : PortState → List Entry → List Ask → List Iu → Type 0
HaveAnswers window [] [] [] = ⊤
HaveAnswers window (entry ∷ entries) (ask ∷ more) (answer ∷ answers) = HasAnswer window entry ask answer × HaveAnswers window entries more answers
HaveAnswers window _ _ _ = ⊥

-- An answer that grants a login grants it so many requests; one that rejects it says that one is on, and was laid by the unit of this name; a
-- response was laid by another unit than the region's.
abbrev pub IsAnswerBy : (granted : ℕ) → (who : UnitId) → PortState → Iu → Type 0
IsAnswerBy granted who window (units.LoginRsp response) = response.delta ≡ granted
IsAnswerBy granted who window (units.LoginRej rejection) = (rejection.reason ≡ UNABLE_TO_ESTABLISH_CHANNEL) × HasRejection who rejection.reason window.strokes
IsAnswerBy granted who window (units.Rsp response) = HasResponse window.place.unit response window.strokes
IsAnswerBy granted who window answer = ⊤

-- whether a login was granted by one of these answers, or rejected
abbrev pub is_granted : Iu → Bool
is_granted (units.LoginRsp response) = true
is_granted answer = false

abbrev pub grants_one : List Iu → Bool
grants_one [] = false
grants_one (answer ∷ answers) = if is_granted answer then true else grants_one answers

-- WHERE ITS DATA LIE -----------------------------------------------------------------------------

-- the buffer of the data-in of what is asked
abbrev pub inn_of : Iu → Buffer
inn_of (units.Cmd command) = command.inn
inn_of iu = Absent

-- A range lies behind the driver's pages, in these.
pub record LiesOn (span : Span) (desc : Desc) : Type 0 where
  pub behind : DATA_START ≤ desc.address
  pub from : 4096 * span.first ≤ desc.address
  pub to : desc.address + desc.len ≤ 4096 * span.end

-- A table lies there, and these bytes stand in it.
pub record TableStands (window : PortState) (span : Span) (bytes : List ℕ) (table : Desc) : Type 0 where
  pub lies : LiesOn span table
  pub stands : (k : ℕ) → k < table.len → region_byte window.strokes (table.address + k) ≡ get_or bytes k 0

-- The table of the data-in of what is asked, if it has one, stands on the table's pages, and names pieces on the pages of the data: one range,
-- from the address of the data on.
pub record DataLies (window : PortState) (ask : Ask) : Type 0 where
  pub bytes : List ℕ
  pub whole : length bytes ≡ table_len (inn_of ask.iu)
  pub table : All (TableStands window ask.table bytes) (tables_of (inn_of ask.iu))
  pub goes : (list : List Desc) → pieces (inn_of ask.iu) bytes ≡ named list → All (LiesOn ask.pages) list
  pub places : (list : List Desc) → pieces (inn_of ask.iu) bytes ≡ named list → (j : ℕ) → j < sum_of list → address_of list j ≡ Some (ask.start + j)

-- the data of none of these lie on a page of the table of a later one
abbrev pub AreSpared : List Ask → Type 0
AreSpared [] = ⊤
AreSpared (ask ∷ more) = All (λ other. meets ask.pages other.table ≡ false) more × AreSpared more

-- Where a client's rows have data-in of what is asked, they lie where they lie there, and it is a command whose buffer takes as many.
abbrev pub StartsAt : List Row → Ask → Type 0
StartsAt rs ask = (at len : ℕ) → IsInwardAt rs ask.tag at len → (at ≡ ask.start) × ((command : Cmd) × (ask.iu ≡ units.Cmd command) × (total_of command.inn ≡ len))

-- HOW FAR BOTH HAVE COME --------------------------------------------------------------------------

-- the server unit, its queue's end, the client, its queue's end and its window, between turns
pub record Between : Type 0 where
  pub unit : Unit
  pub server : EndState
  pub client : ClientState
  pub own : EndState
  pub window : PortState

-- An end of a link sees how the other stands: what it put is what the other received.
pub record SeesEnd (end other : EndState) : Type 0 where
  pub partner : end.place.partner_registered ≡ other.registered
  pub session : end.counts.partner_session ≡ other.last_session
  pub received : other.place.received ≡ end.sent
  pub taken : end.place.partner_taken ≡ other.taken
  pub slots : end.place.partner_slots ≡ other.place.own_slots

-- Of what was received in the session no more was taken.
abbrev pub TookNoMore : EndState → Type 0
TookNoMore end = length (taken_now end) ≤ length (received_now end)

-- These are the two ends of one link, and neither took more than it received.
pub record AreEnds (server own : EndState) : Type 0 where
  pub server_sees : SeesEnd server own
  pub own_sees : SeesEnd own server
  pub server_took : TookNoMore server
  pub own_took : TookNoMore own

-- Each value of an entry names the entry's own page.
pub record IsOwnEntry (e : ℕ) (values : List ℕ) : Type 0 where
  pub names : (version value : ℕ) → slice_get values version ≡ Some value → value / PAGE_BYTES ≡ e

-- The entries of the window are its own; the region has the pages of the slots and of the place behind them, and 256 at most; and each of
-- its pages is there.
pub record IsOwnWindow (window : PortState) : Type 0 where
  pub values : (e : ℕ) → IsOwnEntry e (window.values e)
  pub size : DATA_START ≤ 4096 * window.place.size
  pub most : window.place.size ≤ 256
  pub there : (p : ℕ) → p < window.place.size → IsSome (window.strokes p)

-- The last value of each entry of the driver's pages is its own page with all rights: the server unit may read there and write.
pub record HasRights (window : PortState) : Type 0 where
  pub last : (e : ℕ) → PAGE_BYTES * e < DATA_START → (before : List ℕ) × (window.values e ≡ before ++ (PAGE_BYTES * e + 3) ∷ [])

-- An SRP entry names a slot, or the place behind them, and the length of these bytes, which show there and spell the information unit;
-- whether the window lets them be read is not said.
pub record IsAskedThere (window : PortState) (entry : Entry) (address : ℕ) (bytes : List ℕ) (iu : Iu) : Type 0 where
  pub srp : is_srp_entry entry ≡ true
  pub address_is : iu_address entry ≡ address
  pub slot : ℕ
  pub within : slot ≤ SLOTS
  pub slot_is : address ≡ slot_address slot
  pub long : iu_length entry ≡ length bytes
  pub some : 1 ≤ length bytes
  pub few : length bytes ≤ 256
  pub shows : ShowsAt window address bytes
  pub spelled : Spells bytes iu

abbrev pub IsSaidThere : PortState → Entry → Word → Type 0
IsSaidThere window entry begins = entry ≡ initialize
IsSaidThere window entry gone = is_event entry ≡ true
IsSaidThere window entry (asks address bytes iu) = IsAskedThere window entry address bytes iu

-- Each entry says its word.
abbrev pub AreSaidThere : PortState → List Entry → List Word → Type 0
AreSaidThere window [] [] = ⊤
AreSaidThere window (entry ∷ entries) (word ∷ words) = IsSaidThere window entry word × AreSaidThere window entries words
AreSaidThere window _ _ = ⊥

-- Nothing is amiss: the server unit's queue is registered and its session goes on, nothing waits, is kept or is in service, it grants
-- this many requests; the queues have room; and these words are to come.
pub record IsCalm (granted : ℕ) (at : Between) (words : List Word) : Type 0 where
  pub registered : at.server.registered ≡ true
  pub closing : at.unit.line.closing ≡ false
  pub up : at.unit.line.handshake ≢ Down
  pub waiting : at.unit.waiting ≡ None
  pub kept : at.unit.line.kept ≡ None
  pub event : at.server.kept ≡ None
  pub stage : at.unit.service.stage ≡ stages.Start
  pub grants : at.unit.logins.granted ≡ granted
  pub most : granted ≤ 200
  pub ends : AreEnds at.server at.own
  pub server_slots : 256 ≤ at.server.place.own_slots
  pub own_slots : 256 ≤ at.own.place.own_slots
  pub usable : IsOwnWindow at.window
  pub said : AreSaidThere at.window (to_come at.server) words

-- no login is on there, and nothing is pending
pub record IsVacant (unit : Unit) : Type 0 where
  pub current : unit.logins.current ≡ 0
  pub taking : unit.logins.taking ≡ false
  pub pending : unit.pending.items ≡ []

-- Each of these requests was asked in a slot, and there are not too many.
pub record AreStale (requests : List Request) : Type 0 where
  pub slots : All (λ request. (slot : ℕ) × (slot ≤ SLOTS) × (request.address ≡ slot_address slot)) requests
  pub few : length requests ≤ 202

-- either the server unit is to hear that the client is gone, or it has and is vacant
abbrev pub HearsOfGone : Between → List Word → Type 0
HearsOfGone at words = (words ≡ gone ∷ []) ⊎ ((words ≡ []) × IsVacant at.unit)

-- The client's queue is not registered: either the server unit is to hear of that, or it has and is vacant.
pub record IsAway (at : Between) (words : List Word) : Type 0 where
  pub registered : at.own.registered ≡ false
  pub handshake : at.client.handshake ≡ Down
  pub kept : at.own.kept ≡ None
  pub due : at.client.due ≡ []
  pub stale : AreStale at.unit.pending.items
  pub heard : HearsOfGone at words

-- either it is to hear that the client is there, or it has and told so
abbrev pub HearsOfClient : Between → List Word → Type 0
HearsOfClient at words = ((words ≡ begins ∷ []) × (to_come at.own ≡ []))
    ⊎ ((words ≡ []) × (at.unit.line.handshake ≡ Up) × (to_come at.own ≡ initialization_complete ∷ []))

-- The client has registered its queue: it awaits what tells that the server unit has heard of that, and has forgotten all else.
pub record IsBeginning (at : Between) (words : List Word) : Type 0 where
  pub registered : at.own.registered ≡ true
  pub handshake : at.client.handshake ≡ Waiting
  pub due : at.client.due ≡ []
  pub granted : at.client.granted ≡ None
  pub outgoing : at.client.outgoing ≡ []
  pub login : at.client.login ≡ Idle
  pub logout : at.client.logout ≡ None
  pub kept : at.client.kept ≡ []
  pub held : at.client.held ≡ None
  pub vacant : IsVacant at.unit
  pub heard : HearsOfClient at words

-- The login that the client knows is that of the server unit behind what is not answered; but for one whose answer is on its way.
pub record AgreeOnLogin (granted : ℕ) (at : Between) (asked : AskedParts) (answers : List Iu) : Type 0 where
  pub credits : (at.client.granted ≡ None) ⊎ (at.client.granted ≡ Some (min granted 200))
  pub before : has_login asked.answered ≡ false
      → is_some at.client.granted ≡ on_behind (nat_le 1 at.unit.logins.current) (asked.pending ++ asked.coming)
  pub on : has_login asked.answered ≡ true → 1 ≤ at.unit.logins.current
  pub answer : has_login asked.answered ≡ true → is_some at.client.granted ≡ not (grants_one answers)
  pub grant : All (IsAnswerBy granted at.unit.id at.window) answers

-- What the server unit's login takes is what was asked under it.
pub record CountsAsked (unit : Unit) (pending : List Ask) : Type 0 where
  pub taking : unit.logins.taking ≡ (nat_le 1 unit.logins.current && not (has_logout pending))
  pub outstanding : 1 ≤ unit.logins.current → unit.logins.target.outstanding ≡ counted pending

-- Only the last of these is a login, and only the first a logout, behind which nothing but a login stands.
abbrev pub AreInOrder : List Ask → Type 0
AreInOrder [] = ⊤
AreInOrder (ask ∷ []) = ⊤
AreInOrder (ask ∷ next ∷ more) =
    (is_login ask.iu ≡ false) × (is_logout next.iu ≡ false) × (is_logout ask.iu ≡ true → is_login next.iu ≡ true) × AreInOrder (next ∷ more)

-- no two of these have one slot
abbrev pub AreApart : List Ask → Type 0
AreApart [] = ⊤
AreApart (ask ∷ more) = All (λ other. ask.slot ≢ other.slot) more × AreApart more

-- Their tags rise, and none is above this one.
abbrev pub TagsRise : (last : ℕ) → List Ask → Type 0
TagsRise last [] = ⊤
TagsRise last (ask ∷ more) = (ask.tag ≤ last) × All (λ other. ask.tag < other.tag) more × TagsRise last more

-- Both have heard of one another: each thing that the client asked, and is not done with, has its place, and the client awaits just these
-- answers.
pub record IsTalking (granted : ℕ) (at : Between) (words : List Word) (asked : AskedParts) (answers : List Iu) : Type 0 where
  pub registered : at.own.registered ≡ true
  pub handshake : at.client.handshake ≡ Up
  pub up : at.unit.line.handshake ≡ Up
  pub due : at.client.due ≡ []
  pub held : at.client.held ≡ None
  pub each : All IsAsk (all_asked asked)
  pub slots : AreApart (all_asked asked)
  pub tags : TagsRise (length at.client.rows) (all_asked asked)
  pub order : AreInOrder (all_asked asked)
  pub pending : ArePending at.unit.pending.items asked.pending
  pub coming : words ≡ map word_of asked.coming
  pub few : length asked.coming ≤ 1
  pub may : All (λ ask. MayAsk (talk_of at.unit) ask.iu) asked.coming
  pub answered : HaveAnswers at.window (at.client.kept ++ to_come at.own) asked.answered answers
  pub awaited : names_of (all_asked asked) ≡ awaited at.client
  pub logouts : All (λ ask. is_logout ask.iu ≡ true → at.client.logout ≡ Some ask.slot) (all_asked asked)
  pub sent : has_login (all_asked asked) ≡ is_sent at.client.login
  pub stage : (at.client.login ≡ Idle) ⊎ (is_sent at.client.login ≡ true)
  pub none : at.client.granted ≡ None → at.client.outgoing ≡ []
  pub within : length at.client.outgoing ≤ 200
  pub counts : CountsAsked at.unit asked.pending
  pub tables : All (DataLies at.window) (asked.pending ++ asked.coming)
  pub starts : All (StartsAt at.client.rows) (asked.pending ++ asked.coming)
  pub spared : AreSpared (asked.pending ++ asked.coming)
  pub login : AgreeOnLogin granted at asked answers

-- What is so of a plain client and its server unit between turns, where these words are to come. (No table lies there of a command that
-- was not sent.)
abbrev pub InPhase : (granted : ℕ) → Between → List Word → Type 0
InPhase granted at words = IsAway at words ⊎ (IsBeginning at words ⊎ ((asked : AskedParts) × (answers : List Iu) × IsTalking granted at words asked answers))

pub record TalksPlainly (granted : ℕ) (at : Between) (words : List Word) : Type 0 where
  pub calm : IsCalm granted at words
  pub phase : InPhase granted at words
  pub tabled : at.client.tabled ≡ None

-- whether an answer grants a login
abbrev pub is_grant : Outcome → Bool
is_grant (outcomes.Granted number) = true
is_grant outcome = false

-- WHAT THE CLIENT IS OWED -------------------------------------------------------------------------

-- whether one of these words asks for a logout
abbrev pub logs_out : List Word → Bool
logs_out [] = false
logs_out (asks address bytes iu ∷ words) = if is_logout iu then true else logs_out words
logs_out (word ∷ words) = logs_out words

-- how many logins the server unit granted that take requests behind these words, and of which the client does not know: one, or none
abbrev pub owes : Between → List Word → ℕ
owes at words = if at.own.registered && (not (is_some at.client.granted) && (at.unit.logins.taking && not (logs_out words))) then 1 else 0

-- WHAT A TURN OF THE SERVER UNIT LEAVES -----------------------------------------------------------

-- The client is as it was; its queue's end, too, but for what it received. The ends are those of one link, and a registered queue keeps no event.
pub record ClientStays (old new : Between) : Type 0 where
  pub client : new.client ≡ old.client
  pub session : new.own.last_session ≡ old.own.last_session
  pub registered : new.own.registered ≡ old.own.registered
  pub taken : new.own.taken ≡ old.own.taken
  pub slots : new.own.place.own_slots ≡ old.own.place.own_slots
  pub kept : new.own.kept ≡ old.own.kept
  pub ends : AreEnds new.server new.own
  pub idle : new.server.registered ≡ true → new.server.kept ≡ None
  pub usable : IsOwnWindow new.window

-- The data-in of what is asked lie behind the slots, as its table stands.
abbrev pub GoesBehind : PortState → Order → Type 0
GoesBehind window order = (a n : ℕ) → IsDataIn (stood window) order a n → DATA_START ≤ a

-- WHAT A CALL OF THE CLIENT LEAVES ----------------------------------------------------------------

-- the client's ports, in which nobody else has a hand
abbrev pub client_ports : Between → Ports
client_ports at = ports false at.own false at.window

-- The server unit is as it was; its queue's end, too, but for what it received. The ends are those of one link.
pub record ServerStays (old new : Between) : Type 0 where
  pub unit : new.unit ≡ old.unit
  pub session : new.server.last_session ≡ old.server.last_session
  pub registered : new.server.registered ≡ old.server.registered
  pub kept : new.server.kept ≡ old.server.kept
  pub taken : new.server.taken ≡ old.server.taken
  pub slots : new.server.place.own_slots ≡ old.server.place.own_slots
  pub ends : AreEnds new.server new.own

-- WHAT STANDS IN THE SLOTS ------------------------------------------------------------------------

-- What showed in the slots shows there, and no stroke is gone; the region is the same unit's.
pub record KeepsSlots (spared : ℕ → Type 0) (old new : PortState) : Type 0 where
  pub slots : (slot : ℕ) (bytes : List ℕ) → slot ≤ SLOTS → spared slot → length bytes ≡ 256
      → ShowsAt old (slot_address slot) bytes → ShowsAt new (slot_address slot) bytes
  pub strokes : (page : ℕ) (stroke : StrokeValue) → IsOn stroke (old.strokes page) → IsOn stroke (new.strokes page)
  pub unit : new.place.unit ≡ old.place.unit

-- What is so of the data of these is so.
abbrev pub KeepsTables : (spared : Ask → Type 0) → (old new : PortState) → Type 0
KeepsTables spared old new = (ask : Ask) → spared ask → DataLies old ask → DataLies new ask

-- The answer to what was asked, of so many bytes, stands in its slot, and says what came of it.
pub record AnswerStands (granted : ℕ) (who : UnitId) (window : PortState) (ask : Ask) (long : ℕ) (outcome : Outcome) (answer : Iu) : Type 0 where
  pub few : long ≤ 256
  pub bytes : List ℕ
  pub stand : ShowsAt window (slot_address ask.slot) bytes
  pub whole : length bytes ≡ 256
  pub spelled : Spells bytes answer
  pub suits : IsAnswerTo ask.iu answer
  pub grants : is_granted answer ≡ is_grant outcome
  pub credits : IsAnswerBy granted who window answer
