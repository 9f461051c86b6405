-- What a turn of a unit does, whatever comes, where nobody else has a hand in the link or in the client's window: small steps, one behind the
-- other.
use Rattle.std.specs.Prelude.{◌≡◌, ◌≢◌, ◌⊎◌, ◌++◌, ◌&&◌, ◌≤◌, ℕ, Bool, true, false, ⊤, List, [], ◌∷◌, Option, Some, None, MatchOption, length, map, slice_get, if◌then◌else◌}
use Rattle.vio_num.specs.Entry.{first_byte, initialize, kind_of, partner_freed}
use Rattle.vio_num.specs.declared.entry.Kind.TheVariants.{Command, Event, Init}
use Rattle.crq_session.specs.Handshake.{state_after, step_after, step_entry}
use Rattle.crq_session.specs.declared.handshake.Handshake.{Handshake}
use Rattle.crq_session.specs.declared.handshake.Handshake.TheVariants.{Down, Up, Waiting}
use Rattle.block_server.specs.Entries.{datagram_answer}
use Rattle.vio_num.specs.Entry.{is_srp_entry, iu_address, iu_length, srp_entry}
use Rattle.vio_num.specs.declared.entry.Entry.{Entry}
use Rattle.vio_num.specs.declared.history.Grant.{Grant}
use Rattle.vio_num.specs.declared.history.Grant.TheVariants.{Granted, Lapsed}
use Rattle.vio_num.specs.declared.history.Lapse.{Lapse}
use Rattle.vio_num.specs.declared.history.Lapse.TheVariants as lapses
use Rattle.vio_num.specs.declared.history.Served.{Served}
use Rattle.vio_num.specs.declared.names.UnitId.{UnitId}
use Rattle.page_slots.specs.declared.stroke.StrokeName.{StrokeName}
use Rattle.crq_ring.specs.declared.rows.PipeRow.{PipeRow}
use Rattle.crq_session.specs.EndState.{EndState}
use Rattle.srp_iu.specs.Grammar.{Spells}
use Rattle.srp_iu.specs.declared.unit.Iu.{Iu}
use Rattle.tce_window.specs.PortState.{PortState}
use Rattle.tce_window.specs.declared.answers.Right.TheVariants.{Write}
use Rattle.rdma_copy.specs.Copies.{MayHold}
use Rattle.block_server.specs.Bearing.{BearsRow, BearsWithin, IsAnswerPart}
use Rattle.block_server.specs.Fates.{IsIgnored}
use Rattle.block_server.specs.Granting.{LoginState, login_state}
use Rattle.block_server.specs.Judged.{row_in}
use Rattle.block_server.specs.Ranges.{known_in}
use Rattle.block_server.specs.Receipts.{is_ended}
use Rattle.block_server.specs.RowsOn.{HasLastRow}
use Rattle.block_server.specs.Serving.{SettlesRow}
use Rattle.block_server.specs.SiteState.{SiteState}
use Rattle.block_server.specs.Stage.{fits}
use Rattle.block_server.specs.Standing.{IsAnswerTo, Stands, stood}
use Rattle.block_server.specs.Talk.{IsReadWhole, StaysKnown, Suits, order_asked, tag_asked, to_come}
use Rattle.block_server.specs.declared.line.Kept.{Kept}
use Rattle.block_server.specs.declared.line.Kept.TheVariants as keeps
use Rattle.block_server.specs.declared.records.Records.{Records}
use Rattle.block_server.specs.declared.request.Arrival.{Arrival}
use Rattle.block_server.specs.declared.request.Order.{Order}
use Rattle.block_server.specs.declared.request.Order.TheVariants as orders
use Rattle.block_server.specs.declared.request.Request.{Request}
use Rattle.block_server.specs.declared.service.Outcome.{Outcome}
use Rattle.block_server.specs.declared.service.Outcome.TheVariants as outcomes
use Rattle.block_server.specs.declared.service.Stage.{Stage}
use Rattle.block_server.specs.declared.service.Stage.TheVariants as stages
use Rattle.block_server.specs.declared.unit.Unit.{Unit}

-- WHERE A UNIT STANDS -----------------------------------------------------------------------------

-- What the steps of a unit change.
pub record Doing : Type 0 where
  -- whose strokes it lays
  pub name : UnitId
  pub id : UnitId
  -- how many requests a login grants, and the one that is on
  pub logins : LoginState
  -- the entry whose information unit is to be fetched, and the one that is to be put before all else
  pub waiting : Option Arrival
  pub kept : Option Kept
  -- how far the service of the oldest request has come, and its answer
  pub stage : Stage
  pub answer : List ℕ
  pub pending : List Request
  -- the entries that are still to be heard, and what was put into the client's queue
  pub coming : List Entry
  pub sent : List PipeRow
  pub client : PortState
  pub rows : List Served
  pub lines : List Grant
  -- whether nothing more is taken in the session, how far the initialisation has come, and the event that is kept until the client's queue has room
  pub ended : Bool
  pub handshake : Handshake
  pub event : Option Entry
  -- whether an entry can reach the client's queue: both are registered; whether the client's is; and in which session of it
  pub reaches : Bool
  pub partner : Bool
  pub to : ℕ
  -- whether the login that is on takes requests, and how many of them are accepted and not answered
  pub taking : Bool
  pub outstanding : ℕ

abbrev pub doing_at : Unit → (name : UnitId) → EndState → PortState → (rows : List Served) → (lines : List Grant) → Doing
doing_at unit name queue client rows lines = record {
  name = name;
  id = unit.id;
  logins = login_state unit.logins;
  waiting = unit.waiting;
  kept = unit.line.kept;
  stage = unit.service.stage;
  answer = unit.service.answer.items;
  pending = unit.pending.items;
  coming = to_come queue;
  sent = queue.sent;
  client = client;
  rows = rows;
  lines = lines;
  ended = is_ended unit.line;
  handshake = unit.line.handshake;
  event = queue.kept;
  reaches = queue.registered && queue.place.partner_registered;
  partner = queue.place.partner_registered;
  to = queue.counts.partner_session;
  taking = unit.logins.taking;
  outstanding = unit.logins.target.outstanding;
}

abbrev pub doing : Unit → SiteState → Records → Doing
doing unit site records = doing_at unit site.own.place.unit site.queue site.client records.history.items records.grants.items

-- WHAT ONE STEP LEAVES ----------------------------------------------------------------------------

-- the name of the strokes that are laid for a request
abbrev pub name_for : UnitId → Request → StrokeName
name_for name request = record { who = name; mark = request.tag }

-- Nothing is kept that answers a request, and no SRP entry.
abbrev pub KeepsNoAnswer : Option Kept → Type 0
KeepsNoAnswer (Some (keeps.Answer entry outcome)) = ⊥
KeepsNoAnswer (Some (keeps.Reply entry)) = is_srp_entry entry ≡ false
KeepsNoAnswer None = ⊤

-- rows of a session of the client's queue
abbrev pub rows_to : (session : ℕ) → List Entry → List PipeRow
rows_to session entries = map (λ entry. record { session = session; entry = entry }) entries

-- These were put, if they can reach the client's queue; else they are lost.
abbrev pub Sends : (old new : Doing) → List Entry → Type 0
Sends old new entries = new.sent ≡ old.sent ++ (if old.reaches then rows_to old.to entries else [])

-- An entry that answers no request was put, or lost; or it found the client's queue full, and is kept.
abbrev pub SendsOrKeeps : (old new : Doing) → Entry → Type 0
SendsOrKeeps old new entry = (Sends old new (entry ∷ []) × (new.kept ≡ old.kept)) ⊎ ((old.reaches ≡ true) × (new.sent ≡ old.sent) × (new.kept ≡ Some (keeps.Reply entry)))

-- what is put of the event that was kept, if one was: it, where the client's queue is registered
abbrev pub event_put : (partner : Bool) → Option Entry → List Entry
event_put partner None = []
event_put partner (Some entry) = if partner then entry ∷ [] else []

-- A request is taken where this login is on (0: none): one that asks for a login in any case, each other where one is.
abbrev pub IsOnLogin : Order → (current : ℕ) → Type 0
IsOnLogin (orders.Login request) current = ⊤
IsOnLogin order current = current ≢ 0

-- What stays in each step: who it is, how many requests a login grants, the session of the client's queue, and whether that is registered.
pub record StaysUnit (old new : Doing) : Type 0 where
  pub name : new.name ≡ old.name
  pub id : new.id ≡ old.id
  pub granted : new.logins.granted ≡ old.logins.granted
  pub partner : new.partner ≡ old.partner
  pub to : new.to ≡ old.to

-- The unit's side of the link is as it was.
pub record StaysLine (old new : Doing) : Type 0 where
  pub ended : new.ended ≡ old.ended
  pub handshake : new.handshake ≡ old.handshake
  pub event : new.event ≡ old.event
  pub reaches : new.reaches ≡ old.reaches

-- Neither the rows, nor what the window shows, nor what was put changed.
pub record StaysPut (old new : Doing) : Type 0 where
  pub sent : new.sent ≡ old.sent
  pub client : StaysKnown old.client new.client
  pub rows : new.rows ≡ old.rows

-- Nor did what is pending and its service.
pub record StaysServed (old new : Doing) : Type 0 where
  pub stage : new.stage ≡ old.stage
  pub answer : new.answer ≡ old.answer
  pub pending : new.pending ≡ old.pending

-- Neither the login that is on, nor the rows, the window, or the lines changed.
pub record StaysAside (old new : Doing) : Type 0 where
  pub served : StaysServed old new
  pub logins : new.logins ≡ old.logins
  pub taking : new.taking ≡ old.taking
  pub outstanding : new.outstanding ≡ old.outstanding
  pub waiting : new.waiting ≡ old.waiting
  pub client : StaysKnown old.client new.client
  pub rows : new.rows ≡ old.rows
  pub lines : new.lines ≡ old.lines

-- Calls were made that change nothing of this.
pub record CallsOnly (old new : Doing) : Type 0 where
  pub stays : StaysUnit old new
  pub aside : StaysAside old new
  pub line : StaysLine old new
  pub kept : new.kept ≡ old.kept
  pub coming : new.coming ≡ old.coming
  pub sent : new.sent ≡ old.sent

-- The event that was kept, if one was, was put, or lost where the client's queue is not registered.
pub record SettlesEvent (old new : Doing) : Type 0 where
  pub stays : StaysUnit old new
  pub aside : StaysAside old new
  pub kept : new.kept ≡ old.kept
  pub coming : new.coming ≡ old.coming
  pub ended : new.ended ≡ old.ended
  pub handshake : new.handshake ≡ old.handshake
  pub reaches : new.reaches ≡ old.reaches
  pub event : new.event ≡ None
  pub sent : new.sent ≡ old.sent ++ rows_to old.to (event_put old.partner old.event)

-- Both queues were registered: the event that the own one is free was put, or found the client's full, and is kept.
pub record TellsPartner (old new : Doing) : Type 0 where
  pub reaches : old.reaches ≡ true
  pub told : ((new.sent ≡ old.sent ++ rows_to old.to (partner_freed ∷ [])) × (new.event ≡ None)) ⊎ ((new.sent ≡ old.sent) × (new.event ≡ Some partner_freed))

-- One was not: nothing was put. If it was the own one, what is kept is as before; if it was the client's alone, nothing is kept.
pub record TellsNobody (old new : Doing) : Type 0 where
  pub reaches : old.reaches ≡ false
  pub sent : new.sent ≡ old.sent
  pub event : (new.event ≡ old.event) ⊎ ((old.partner ≡ false) × (new.event ≡ None))

-- A session that is over was freed; an event tells so, where both queues were registered.
pub record FreesLine (old new : Doing) : Type 0 where
  pub stays : StaysUnit old new
  pub aside : StaysAside old new
  pub kept : new.kept ≡ old.kept
  pub coming : new.coming ≡ old.coming
  pub over : old.ended ≡ true
  pub ended : new.ended ≡ true
  pub handshake : new.handshake ≡ Down
  pub shut : new.reaches ≡ false
  pub tells : TellsPartner old new ⊎ TellsNobody old new

-- The queue was registered, in a session in which nothing is to come, once the event that was kept, if one was, was put, or lost where the client's
-- queue is not registered; and Initialize was sent.
pub record OpensLine (old new : Doing) : Type 0 where
  pub stays : StaysUnit old new
  pub aside : StaysAside old new
  pub was : old.handshake ≡ Down
  pub coming : new.coming ≡ []
  pub ended : new.ended ≡ false
  pub handshake : new.handshake ≡ Waiting
  pub reached : new.reaches ≡ new.partner
  pub event : new.event ≡ None
  pub sent : ((new.sent ≡ (old.sent ++ rows_to old.to (event_put old.partner old.event)) ++ (if new.reaches then rows_to old.to (initialize ∷ []) else [])) × (new.kept ≡ old.kept))
      ⊎ ((new.reaches ≡ true) × (new.sent ≡ old.sent ++ rows_to old.to (event_put old.partner old.event)) × (new.kept ≡ Some (keeps.Reply initialize)))

-- The entry that was kept and answers no request was put, or lost.
pub record SendsKept (old new : Doing) : Type 0 where
  pub stays : StaysUnit old new
  pub aside : StaysAside old new
  pub line : StaysLine old new
  pub coming : new.coming ≡ old.coming
  pub entry : Entry
  pub was : old.kept ≡ Some (keeps.Reply entry)
  pub kept : new.kept ≡ None
  pub sent : Sends old new (entry ∷ [])

-- A reply was sent, and nothing else was done.
pub record SendsReply (old new : Doing) (entry : Entry) : Type 0 where
  pub stays : StaysUnit old new
  pub aside : StaysAside old new
  pub line : StaysLine old new
  pub coming : new.coming ≡ old.coming
  pub sent : SendsOrKeeps old new entry

-- An entry of the initialisation was heard, and what is due for it was sent. An entry is heard only where nothing is kept.
pub record HearsInit (old new : Doing) : Type 0 where
  pub stays : StaysUnit old new
  pub aside : StaysAside old new
  pub was : old.kept ≡ None
  pub going : old.ended ≡ false
  pub entry : Entry
  pub heard : old.coming ≡ entry ∷ new.coming
  pub kind : kind_of (first_byte entry) ≡ Init
  pub handshake : new.handshake ≡ state_after old.handshake entry
  pub ended : new.ended ≡ old.ended
  pub event : new.event ≡ old.event
  pub reaches : new.reaches ≡ old.reaches
  pub sent : MatchOption (step_entry (step_after old.handshake entry)) ((new.sent ≡ old.sent) × (new.kept ≡ old.kept)) (SendsOrKeeps old new)

-- A management datagram was heard, and answered.
pub record HearsDatagram (old new : Doing) : Type 0 where
  pub stays : StaysUnit old new
  pub aside : StaysAside old new
  pub line : StaysLine old new
  pub was : old.kept ≡ None
  pub going : old.ended ≡ false
  pub entry : Entry
  pub heard : old.coming ≡ entry ∷ new.coming
  pub kind : kind_of (first_byte entry) ≡ Command
  pub other : is_srp_entry entry ≡ false
  pub sent : SendsOrKeeps old new (datagram_answer entry.low)

-- The information unit of an SRP entry was read whole at its address, as the window shows it, in a session that goes on; and it is none that asks a
-- server for anything: no login, no logout, no task and no command.
pub record AsksNothing (old : Doing) (entry : Entry) : Type 0 where
  pub up : old.handshake ≡ Up
  pub going : old.ended ≡ false
  pub bytes : List ℕ
  pub long : length bytes ≡ iu_length entry
  pub read : IsReadWhole old.client (iu_address entry) bytes
  pub iu : Iu
  pub spelled : Spells bytes iu
  pub ignored : IsIgnored iu

-- Another entry was heard, or one whose information unit asks nothing: nothing is due for it.
pub record PassesEntry (old new : Doing) : Type 0 where
  pub stays : StaysUnit old new
  pub aside : StaysAside old new
  pub line : StaysLine old new
  pub was : old.kept ≡ None
  pub kept : new.kept ≡ old.kept
  pub sent : new.sent ≡ old.sent
  pub entry : Entry
  pub heard : old.coming ≡ entry ∷ new.coming
  pub no_init : kind_of (first_byte entry) ≢ Init
  pub no_event : kind_of (first_byte entry) ≢ Event
  pub nothing : is_srp_entry entry ≡ true → AsksNothing old entry

-- An SRP entry was heard, in a session that goes on: its information unit was read at its address, as the window shows it, and is a request that is
-- pending behind all.
pub record TakesRequest (old new : Doing) : Type 0 where
  pub stays : StaysUnit old new
  pub line : StaysLine old new
  pub put : StaysPut old new
  pub stage : new.stage ≡ old.stage
  pub answer : new.answer ≡ old.answer
  pub was : old.kept ≡ None
  pub kept : new.kept ≡ old.kept
  pub current : new.logins.current ≡ old.logins.current
  pub entry : Entry
  pub heard : old.coming ≡ entry ∷ new.coming
  pub srp : is_srp_entry entry ≡ true
  pub up : old.handshake ≡ Up
  pub going : old.ended ≡ false
  pub request : Request
  pub logged : IsOnLogin request.order old.logins.current
  pub address : request.address ≡ iu_address entry
  pub long : length request.unit.items ≡ iu_length entry
  pub read : IsReadWhole old.client request.address request.unit.items
  -- it is what its bytes ask, where they spell an information unit
  pub asked : (iu : Iu) → Spells request.unit.items iu → (request.order ≡ order_asked iu) × (request.tag ≡ tag_asked iu)
  pub pending : new.pending ≡ old.pending ++ request ∷ []
  pub lines : new.lines ≡ old.lines

-- An event was heard.
pub record IsLostBy (old new : Doing) : Type 0 where
  pub was : old.kept ≡ None
  pub entry : Entry
  pub heard : old.coming ≡ entry ∷ new.coming
  pub kind : kind_of (first_byte entry) ≡ Event
  pub handshake : new.handshake ≡ state_after old.handshake entry
  pub ended : new.ended ≡ old.ended

-- A login, or the session, ended: nothing is pending, kept or in service. Either an event was heard that says that the partner is gone; or the session
-- is over, for an entry that was heard or an answer. An answer that was written is never dropped.
pub record DropsAll (old new : Doing) : Type 0 where
  pub stays : StaysUnit old new
  pub event : new.event ≡ old.event
  pub reaches : new.reaches ≡ old.reaches
  pub why : IsLostBy old new ⊎ ((new.ended ≡ true) × (new.handshake ≡ old.handshake) × ((new.coming ≡ old.coming) ⊎ ((entry : Entry) × (old.coming ≡ entry ∷ new.coming))))
  pub put : StaysPut old new
  pub unanswered : (outcome : Outcome) → old.stage ≢ stages.Entry outcome
  pub stage : new.stage ≡ stages.Start
  pub kept : new.kept ≡ None
  pub pending : new.pending ≡ []
  pub current : new.logins.current ≡ 0
  pub cause : Lapse
  pub session : ℕ
  pub outstanding : ℕ
  pub granted : ℕ
  pub lines : new.lines ≡ old.lines ++ Lapsed old.id session old.logins.current cause outstanding granted ∷ []

-- The login ended, since the oldest request asks for that.
pub record LogsOutFirst (old new : Doing) : Type 0 where
  pub stays : StaysUnit old new
  pub line : StaysLine old new
  pub put : StaysPut old new
  pub first : old.stage ≡ stages.Start
  pub stage : new.stage ≡ stages.Start
  pub kept : new.kept ≡ old.kept
  pub coming : new.coming ≡ old.coming
  pub request : Request
  pub order : request.order ≡ orders.Logout
  pub pending : old.pending ≡ request ∷ new.pending
  pub current : new.logins.current ≡ 0
  pub session : ℕ
  pub lines : new.lines ≡ old.lines ++ Lapsed old.id session old.logins.current lapses.Logout 0 0 ∷ []

-- What the oldest request asks was done, up to its answer: data-in were written where its buffer says, as the window shows its table; and it has
-- its row, if it gets one.
pub record Prepares (old new : Doing) : Type 0 where
  pub stays : StaysUnit old new
  pub line : StaysLine old new
  pub first : old.stage ≡ stages.Start
  pub outcome : Outcome
  pub stage : new.stage ≡ stages.Answer outcome
  pub kept : new.kept ≡ old.kept
  pub coming : new.coming ≡ old.coming
  pub sent : new.sent ≡ old.sent
  pub logins : new.logins ≡ old.logins
  pub lines : new.lines ≡ old.lines
  pub request : Request
  pub rest : List Request
  pub pending : old.pending ≡ request ∷ rest
  pub pends : new.pending ≡ old.pending
  pub order : request.order ≢ orders.Logout
  pub suits : Suits old.logins.current request.order outcome
  pub answer : IsAnswerTo old.logins.current old.logins.granted request.tag request.order outcome new.answer
  pub rows : HasLastRow old.id request old.rows (row_in new.stage) new.rows
  pub place : new.client.place ≡ old.client.place
  pub bears : BearsRow (stood old.client) (name_for old.name request) request.order new.rows (row_in new.stage) (Some (known_in old.client)) (Some (known_in new.client))

-- The answer was written over the oldest request.
pub record WritesAnswer (old new : Doing) : Type 0 where
  pub stays : StaysUnit old new
  pub line : StaysLine old new
  pub outcome : Outcome
  pub first : old.stage ≡ stages.Answer outcome
  pub stage : new.stage ≡ stages.Entry outcome
  pub answer : new.answer ≡ old.answer
  pub kept : new.kept ≡ old.kept
  pub coming : new.coming ≡ old.coming
  pub sent : new.sent ≡ old.sent
  pub logins : new.logins ≡ old.logins
  pub lines : new.lines ≡ old.lines
  pub rows : new.rows ≡ old.rows
  pub request : Request
  pub rest : List Request
  pub pending : old.pending ≡ request ∷ rest
  pub pends : new.pending ≡ old.pending
  pub place : new.client.place ≡ old.client.place
  -- the client's window let it be written there
  pub may : MayHold old.client Write request.address (length old.answer)
  pub stands : Stands new.client (name_for old.name request) request.address old.answer
  pub bears : BearsWithin (IsAnswerPart (name_for old.name request) request.address old.answer) (known_in old.client) (known_in new.client)

-- The entry of an answer tells how long it is, and bears the tag of the oldest request.
abbrev pub entry_for : Request → List ℕ → Entry
entry_for request answer = srp_entry (length answer) request.tag

-- It found the client's queue full, and is kept.
pub record KeepsEntry (old new : Doing) : Type 0 where
  pub reaches : old.reaches ≡ true
  pub outcome : Outcome
  pub first : old.stage ≡ stages.Entry outcome
  pub was : KeepsNoAnswer old.kept
  pub request : Request
  pub rest : List Request
  pub pending : old.pending ≡ request ∷ rest
  pub stays : StaysUnit old new
  pub line : StaysLine old new
  pub put : StaysPut old new
  pub served : StaysServed old new
  pub kept : new.kept ≡ Some (keeps.Answer (entry_for request old.answer) outcome)
  pub coming : new.coming ≡ old.coming
  pub logins : new.logins ≡ old.logins
  pub lines : new.lines ≡ old.lines

-- A login began: it is on, under a number of its own, and a line says so.
pub record StartsLogin (number : ℕ) (id : UnitId) (logins logins' : LoginState) (lines lines' : List Grant) : Type 0 where
  pub session : ℕ
  pub login : ℕ
  pub some : 1 ≤ login
  pub on : logins' ≡ record logins { current = login }
  pub line : lines' ≡ lines ++ Granted id session login number logins.granted ∷ []

-- what an answer that was put leaves of the login that is on, and of the lines: a login that it grants began, and any other changes neither
abbrev pub SettlesLogin : Outcome → UnitId → (logins logins' : LoginState) → (lines lines' : List Grant) → Type 0
SettlesLogin (outcomes.Granted number) id logins logins' lines lines' = StartsLogin number id logins logins' lines lines'
SettlesLogin outcome id logins logins' lines lines' = (logins' ≡ logins) × (lines' ≡ lines)

-- A login that is granted is on, takes requests, and has none outstanding.
abbrev pub IsNewLogin : Outcome → Doing → Type 0
IsNewLogin (outcomes.Granted number) new = (new.logins.current ≢ 0) × (new.taking ≡ true) × (new.outstanding ≡ 0)
IsNewLogin outcome new = ⊤

-- It was put, and the request is served: its login begins, or its row has its answer. The answer has a length of its kind.
pub record PutsEntry (old new : Doing) : Type 0 where
  pub stays : StaysUnit old new
  pub line : StaysLine old new
  pub reaches : old.reaches ≡ true
  pub outcome : Outcome
  pub first : old.stage ≡ stages.Entry outcome
  pub long : fits outcome (length old.answer) ≡ true
  pub stage : new.stage ≡ stages.Start
  pub kept : new.kept ≡ None
  pub coming : new.coming ≡ old.coming
  pub client : StaysKnown old.client new.client
  pub request : Request
  pub pending : old.pending ≡ request ∷ new.pending
  pub sent : Sends old new (entry_for request old.answer ∷ [])
  pub rows : SettlesRow outcome old.answer old.rows new.rows
  pub logins : SettlesLogin outcome old.id old.logins new.logins old.lines new.lines
  pub begins : IsNewLogin outcome new

-- It met a closed queue: the request is served, and nobody is told.
pub record LosesEntry (old new : Doing) : Type 0 where
  pub stays : StaysUnit old new
  pub line : StaysLine old new
  pub put : StaysPut old new
  pub reaches : old.reaches ≡ false
  pub outcome : Outcome
  pub first : old.stage ≡ stages.Entry outcome
  pub stage : new.stage ≡ stages.Start
  pub kept : new.kept ≡ None
  pub coming : new.coming ≡ old.coming
  pub request : Request
  pub pending : old.pending ≡ request ∷ new.pending
  pub logins : new.logins ≡ old.logins
  pub lines : new.lines ≡ old.lines

-- one of these
abbrev pub DoesOne : (old new : Doing) → Type 0
DoesOne old new =
    CallsOnly old new
    ⊎ (SettlesEvent old new
    ⊎ (FreesLine old new
    ⊎ (OpensLine old new
    ⊎ (SendsKept old new
    ⊎ (HearsInit old new
    ⊎ (HearsDatagram old new
    ⊎ (PassesEntry old new
    ⊎ (TakesRequest old new
    ⊎ (DropsAll old new
    ⊎ (LogsOutFirst old new
    ⊎ (Prepares old new
    ⊎ (WritesAnswer old new
    ⊎ (KeepsEntry old new
    ⊎ (PutsEntry old new ⊎ LosesEntry old new))))))))))))))

-- SEVERAL -----------------------------------------------------------------------------------------

-- Steps lead from one to the other, over these.
abbrev pub LeadsOver : (over : List Doing) → (old new : Doing) → Type 0
LeadsOver [] old new = new ≡ old
LeadsOver (next ∷ over) old new = DoesOne old next × LeadsOver over next new

pub record Does (old new : Doing) : Type 0 where
  pub over : List Doing
  pub leads : LeadsOver over old new

-- Nothing is in service, no answer is kept, and no information unit is to be fetched.
pub record IsFree (at : Doing) : Type 0 where
  pub waiting : at.waiting ≡ None
  pub stage : at.stage ≡ stages.Start
  pub kept : KeepsNoAnswer at.kept

-- The same before an entry was heard that is being judged.
abbrev pub before_hearing : Arrival → Doing → Doing
before_hearing arrival at = record at { coming = arrival.entry ∷ at.coming; waiting = None }

-- The same as its queue was registered.
abbrev pub begun : Doing → Doing
begun at = record at { ended = false; handshake = Waiting }

-- Steps lead there.
pub record DoesFreely (old new : Doing) : Type 0 where
  pub does : Does old new
  pub free : IsFree new

-- The answer to the oldest request stands over it, and its entry is kept until there is room for it.
pub record AwaitsRoom (at : Doing) : Type 0 where
  pub waiting : at.waiting ≡ None
  pub outcome : Outcome
  pub stage : at.stage ≡ stages.Entry outcome
  pub request : Request
  pub rest : List Request
  pub pending : at.pending ≡ request ∷ rest
  pub kept : at.kept ≡ Some (keeps.Answer (entry_for request at.answer) outcome)
  pub going : at.ended ≡ false

-- how a unit is between turns
abbrev pub IsAtRest : Doing → Type 0
IsAtRest at = IsFree at ⊎ AwaitsRoom at

-- A turn leads from one rest to the next.
pub record DoesTurn (old new : Doing) : Type 0 where
  pub does : Does old new
  pub rests : IsAtRest new

-- The unit of this number, after such a turn.
pub record UnitDoes (units' : List Unit) (number : ℕ) (unit : Unit) (name : UnitId) (queue queue' : EndState) (client client' : PortState) (rows rows' : List Served) (lines lines' : List Grant) : Type 0 where
  pub unit' : Unit
  pub there : slice_get units' number ≡ Some unit'
  pub does : DoesTurn (doing_at unit name queue client rows lines) (doing_at unit' name queue' client' rows' lines')
