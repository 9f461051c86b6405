-- What a unit does with what is to come where nothing is amiss: each entry is taken, each request is accepted, and no session ends.
use Rattle.std.specs.Prelude.{◌≡◌, ◌≢◌, ◌⊎◌, ◌+◌, ◌-◌, ◌<◌, ◌≤◌, ◌++◌, ℕ, Bool, true, false, ⊤, All, List, [], ◌∷◌, Some, None, IfSome, drop, length, map, slice_get, if◌then◌else◌}
use Rattle.crq_ring.specs.declared.rows.PipeRow.{PipeRow}
use Rattle.crq_session.specs.Answered.{partner_took, received_now, sent_now, taken_now}
use Rattle.crq_session.specs.EndState.{EndState}
use Rattle.crq_session.specs.Handshake.{state_after}
use Rattle.crq_session.specs.declared.handshake.Handshake.{Handshake}
use Rattle.crq_session.specs.declared.handshake.Handshake.TheVariants.{Down, Up, Waiting}
use Rattle.srp_iu.specs.Grammar.{Spells}
use Rattle.srp_iu.specs.declared.unit.Iu.{Iu}
use Rattle.srp_iu.specs.declared.unit.Iu.TheVariants as units
use Rattle.tce_window.specs.Moved.{IsReadFrom}
use Rattle.tce_window.specs.Pieces.{HasStrokes, IsLast, IsUsable}
use Rattle.tce_window.specs.PortState.{PortState}
use Rattle.tce_window.specs.declared.answers.Right.TheVariants.{Read, Write}
use Rattle.tce_window.specs.declared.piece.Piece.{Piece}
use Rattle.vio_num.specs.Entry.{initialization_complete, initialize, is_srp_entry, iu_address, iu_length, srp_entry}
use Rattle.vio_num.specs.declared.entry.Entry.{Entry}
use Rattle.vio_num.specs.declared.history.Grant.{Grant}
use Rattle.vio_num.specs.declared.history.Grant.TheVariants.{Granted, Lapsed}
use Rattle.vio_num.specs.declared.history.Lapse.TheVariants.{Logout, Lost}
use Rattle.vio_num.specs.declared.history.Served.{Served}
use Rattle.vio_num.specs.declared.names.UnitId.{UnitId}
use Rattle.block_server.specs.Closings.{is_event}
use Rattle.block_server.specs.Ends.{IsGrantable}
use Rattle.block_server.specs.SiteState.{SiteState}
use Rattle.block_server.specs.declared.intake.Next.{Next}
use Rattle.block_server.specs.declared.intake.Next.TheVariants.{Entry as NextEntry, Service}
use Rattle.block_server.specs.declared.logins.Logins.{Logins}
use Rattle.block_server.specs.declared.service.Outcome.{Outcome}
use Rattle.block_server.specs.declared.service.Outcome.TheVariants as outcomes
use Rattle.block_server.specs.declared.service.Stage.{Stage}
use Rattle.block_server.specs.declared.service.Stage.TheVariants as stages
use Rattle.block_server.specs.declared.request.Order.{Order}
use Rattle.block_server.specs.declared.request.Order.TheVariants as orders
use Rattle.block_server.specs.declared.request.Request.{Request}
use Rattle.block_server.specs.declared.unit.Unit.{Unit}

-- WHAT STANDS IN A WINDOW -------------------------------------------------------------------------

-- These bytes were read from this address on, by the last values of the entries and from pages with all their strokes.
pub record IsReadWhole (port : PortState) (address : ℕ) (bytes : List ℕ) : Type 0 where
  pub pieces : List Piece
  pub read : IsReadFrom port.place.unit port.values port.strokes address pieces bytes
  pub last : All (IsLast port.values) pieces
  pub all : All (λ piece. HasStrokes piece (port.strokes piece.page)) pieces

-- Who reads as many bytes from this address on reads these.
abbrev pub StandAt : PortState → (address : ℕ) → List ℕ → Type 0
StandAt port address bytes = (read : List ℕ) → IsReadWhole port address read → length read ≡ length bytes → read ≡ bytes

-- What is known of the window is the same.
pub record StaysKnown (old new : PortState) : Type 0 where
  pub place : new.place ≡ old.place
  pub strokes : new.strokes ≡ old.strokes
  pub values : new.values ≡ old.values

-- what a unit reaches as it listens: its queue's end, its client's window, and whether others have a hand in that
pub record Reach : Type 0 where
  pub queue : EndState
  pub client : PortState
  pub shared : Bool

abbrev pub reach : EndState → PortState → (shared : Bool) → Reach
reach queue client shared = record { queue = queue; client = client; shared = shared }

abbrev pub reach_of : SiteState → Reach
reach_of site = reach site.queue site.client site.shared

-- WHAT IS TO COME ---------------------------------------------------------------------------------

-- what an entry says: that the partner begins, that it is gone, or that it asks what an information unit says, at this address
pub data Word : Type 0 where
  begins : Word
  gone : Word
  asks : (address : ℕ) → List ℕ → Iu → Word

-- An SRP entry names the address and the length of these bytes, which the client's window lets be read, and which stand there and
-- spell the information unit.
pub record SaysRequest (client : PortState) (entry : Entry) (address : ℕ) (bytes : List ℕ) (iu : Iu) : Type 0 where
  pub srp : is_srp_entry entry ≡ true
  pub address_is : iu_address entry ≡ address
  pub long : iu_length entry ≡ length bytes
  pub some : 1 ≤ length bytes
  pub few : length bytes ≤ 256
  pub may : IsUsable client.values Read client.place.size address (length bytes)
  pub stand : StandAt client address bytes
  pub spelled : Spells bytes iu

abbrev pub SaysWord : PortState → Entry → Word → Type 0
SaysWord client entry begins = entry ≡ initialize
SaysWord client entry gone = is_event entry ≡ true
SaysWord client entry (asks address bytes iu) = SaysRequest client entry address bytes iu

-- Each entry says its word.
abbrev pub SayWords : PortState → List Entry → List Word → Type 0
SayWords client [] [] = ⊤
SayWords client (entry ∷ entries) (word ∷ words) = SaysWord client entry word × SayWords client entries words
SayWords client _ _ = ⊥

-- WHAT IS HEARD -----------------------------------------------------------------------------------

-- what a unit goes by as it listens
pub record Talk : Type 0 where
  -- how far the initialisation has come
  pub handshake : Handshake
  -- the login that is on, or 0, and whether it takes requests
  pub current : ℕ
  pub taking : Bool
  -- how many requests are accepted and not answered, of so many that a login grants
  pub outstanding : ℕ
  pub granted : ℕ
  pub pending : List Request

abbrev pub talk_of : Unit → Talk
talk_of unit = record {
  handshake = unit.line.handshake;
  current = unit.logins.current;
  taking = unit.logins.taking;
  outstanding = unit.logins.target.outstanding;
  granted = unit.logins.granted;
  pending = unit.pending.items;
}

-- what an information unit asks of a server; those of which it is not asked stand for one that cannot be read
abbrev pub order_asked : Iu → Order
order_asked (units.LoginReq request) = orders.Login request
order_asked (units.ILogout tag) = orders.Logout
order_asked (units.TskMgmt task) = orders.Task task
order_asked (units.Cmd command) = orders.Command command
order_asked iu = orders.Unreadable

-- the tag of what is asked
abbrev pub tag_asked : Iu → ℕ
tag_asked (units.LoginReq request) = request.tag
tag_asked (units.ILogout tag) = tag
tag_asked (units.TskMgmt task) = task.tag
tag_asked (units.Cmd command) = command.tag
tag_asked iu = 0

-- It is asked under the login that is on, but for a login itself.
abbrev pub IsAskedUnder : (current : ℕ) → Iu → (login : ℕ) → Type 0
IsAskedUnder current (units.LoginReq request) login = ⊤
IsAskedUnder current iu login = login ≡ current

-- whether the login takes requests behind it, and how many are then outstanding
abbrev pub takes_behind : Bool → Iu → Bool
takes_behind taking (units.ILogout tag) = false
takes_behind taking iu = taking

abbrev pub outstanding_behind : ℕ → Iu → ℕ
outstanding_behind outstanding (units.TskMgmt task) = outstanding + 1
outstanding_behind outstanding (units.Cmd command) = outstanding + 1
outstanding_behind outstanding iu = outstanding

-- A unit accepts what is asked: a login at any time; a logout under a login that takes requests; a task or a command there, too,
-- while fewer are outstanding than it grants.
abbrev pub MayAsk : Talk → Iu → Type 0
MayAsk talk (units.LoginReq request) = ⊤
MayAsk talk (units.ILogout tag) = talk.taking ≡ true
MayAsk talk (units.TskMgmt task) = (talk.taking ≡ true) × (talk.outstanding < talk.granted)
MayAsk talk (units.Cmd command) = (talk.taking ≡ true) × (talk.outstanding < talk.granted)
MayAsk talk iu = ⊥

-- The request asks this, by the entry of this number in its session.
pub record IsRequest (talk : Talk) (number address : ℕ) (bytes : List ℕ) (iu : Iu) (request : Request) : Type 0 where
  pub number_is : request.number ≡ number
  pub address_is : request.address ≡ address
  pub under : IsAskedUnder talk.current iu request.login
  pub tag_is : request.tag ≡ tag_asked iu
  pub bytes_are : request.unit.items ≡ bytes
  pub order_is : request.order ≡ order_asked iu

-- What is asked is accepted, and pending behind all that was.
pub record AcceptsRequest (talk : Talk) (number address : ℕ) (bytes : List ℕ) (iu : Iu) (talk' : Talk) : Type 0 where
  pub request : Request
  pub is : IsRequest talk number address bytes iu request
  pub pending : talk'.pending ≡ talk.pending ++ request ∷ []
  pub handshake : talk'.handshake ≡ talk.handshake
  pub current : talk'.current ≡ talk.current
  pub taking : talk'.taking ≡ takes_behind talk.taking iu
  pub outstanding : talk'.outstanding ≡ outstanding_behind talk.outstanding iu
  pub granted : talk'.granted ≡ talk.granted

-- The partner is gone: no login is on, and nothing is pending.
pub record LosesAll (talk : Talk) (event : Entry) (talk' : Talk) : Type 0 where
  pub handshake : talk'.handshake ≡ state_after talk.handshake event
  pub current : talk'.current ≡ 0
  pub taking : talk'.taking ≡ false
  pub granted : talk'.granted ≡ talk.granted
  pub pending : talk'.pending ≡ []

-- The word was heard, of the entry of this number in its session.
pub record LosesBy (talk talk' : Talk) : Type 0 where
  pub event : Entry
  pub says : is_event event ≡ true
  pub loses : LosesAll talk event talk'

abbrev pub HearsOne : Talk → (number : ℕ) → Word → Talk → Type 0
HearsOne talk number begins talk' = talk' ≡ record talk { handshake = Up }
HearsOne talk number gone talk' = LosesBy talk talk'
HearsOne talk number (asks address bytes iu) talk' = AcceptsRequest talk number address bytes iu talk'

-- These were heard, one behind the other.
abbrev pub HearsAll : Talk → (number : ℕ) → List Word → Talk → Type 0
HearsAll talk number [] talk' = talk' ≡ talk
HearsAll talk number (word ∷ words) talk' = (middle : Talk) × HearsOne talk number word middle × HearsAll middle (number + 1) words talk'

-- The word comes where it may: the queue is registered as the partner begins, and a request comes once both ends have heard of one
-- another, where the unit accepts it.
abbrev pub MayCome : Talk → Word → Type 0
MayCome talk begins = talk.handshake ≢ Down
MayCome talk gone = talk.handshake ≢ Down
MayCome talk (asks address bytes iu) = (talk.handshake ≡ Up) × MayAsk talk iu

-- Each comes where it may, once those before it were heard.
abbrev pub ComeInOrder : Talk → (number : ℕ) → List Word → Type 0
ComeInOrder talk number [] = ⊤
ComeInOrder talk number (word ∷ words) = MayCome talk word × ((middle : Talk) → HearsOne talk number word middle → ComeInOrder middle (number + 1) words)

-- what is sent as the words are heard
abbrev pub replies : List Word → List Entry
replies [] = []
replies (begins ∷ words) = initialization_complete ∷ replies words
replies (gone ∷ words) = replies words
replies (asks address bytes iu ∷ words) = replies words

-- THE QUEUE AND THE LINES -------------------------------------------------------------------------

-- the entries that are to come
abbrev pub to_come : EndState → List Entry
to_come queue = drop (length (taken_now queue)) (received_now queue)

-- There is room for so many entries in the partner's queue, where that is registered.
abbrev pub HasRoomFor : EndState → ℕ → Type 0
HasRoomFor queue count = queue.place.partner_registered ≡ true
    → length (sent_now queue queue.counts.partner_session) + count ≤ length (partner_took queue queue.counts.partner_session) + queue.place.partner_slots

-- rows of a session
abbrev pub session_rows : (session : ℕ) → List Entry → List PipeRow
session_rows session entries = map (λ entry. record { session = session; entry = entry }) entries

-- The partner's queue has these more, where it is registered.
abbrev pub PutsReplies : (old new : EndState) → List Entry → Type 0
PutsReplies old new entries = new.sent ≡ old.sent ++ (if old.place.partner_registered then session_rows old.counts.partner_session entries else [])

-- Calls that take nothing put these, and leave the session and the partner's.
pub record Replies (old new : EndState) (entries : List Entry) : Type 0 where
  pub place : new.place ≡ old.place
  pub last_session : new.last_session ≡ old.last_session
  pub registered : new.registered ≡ old.registered
  pub taken : new.taken ≡ old.taken
  pub partner : new.counts.partner_session ≡ old.counts.partner_session
  pub put : PutsReplies old new entries

-- The reply was put, or was not since the partner's queue is closed; the unit is as before, but that it may have done something.
pub record IsReplied (unit unit' : Unit) (old new : Reach) (reply : Entry) : Type 0 where
  pub same : unit' ≡ record unit { moved = unit'.moved }
  pub put : Replies old.queue new.queue (reply ∷ [])
  pub window : new.client ≡ old.client

-- A line says that the login of a unit ended since its partner is gone.
abbrev pub IsLoss : Grant → Type 0
IsLoss line = (unit : UnitId) × (session : ℕ) × (login : ℕ) × (line ≡ Lapsed unit session login Lost 0 0)

-- The lines are those of before and others that say so.
pub record AddsLosses (old new : List Grant) : Type 0 where
  pub more : List Grant
  pub added : new ≡ old ++ more
  pub losses : All IsLoss more

-- Nobody else changes the link or has a hand in the client's window; the unit's queue is registered, its session goes on, and nothing
-- waits or is kept; and these words are to come, in order, with room for what is sent as they are heard.
pub record IsListening (unit : Unit) (site : Reach) (link_shared : Bool) (words : List Word) : Type 0 where
  pub alone : link_shared ≡ false
  pub apart : site.shared ≡ false
  pub registered : site.queue.registered ≡ true
  pub closing : unit.line.closing ≡ false
  pub up : unit.line.handshake ≢ Down
  pub waiting : unit.waiting ≡ None
  pub kept : unit.line.kept ≡ None
  pub said : SayWords site.client (to_come site.queue) words
  pub order : ComeInOrder (talk_of unit) (length (taken_now site.queue)) words
  pub slots : HasRoomFor site.queue (length (replies words))

-- What a part of a turn leaves that heard these: the entries were taken, what is sent as they are heard was put, the client's window
-- is as it was, and no line says more than that the partner is gone.
pub record HasHeard (unit unit' : Unit) (old new : Reach) (lines lines' : List Grant) (words : List Word) : Type 0 where
  pub heard : HearsAll (talk_of unit) (length (taken_now old.queue)) words (talk_of unit')
  pub taken : length (taken_now new.queue) ≡ length (taken_now old.queue) + length words
  pub stage : unit.service.stage ≡ stages.Start → unit'.service.stage ≡ stages.Start
  pub place : new.queue.place ≡ old.queue.place
  pub session : new.queue.last_session ≡ old.queue.last_session
  pub registered : new.queue.registered ≡ old.queue.registered
  pub partner : new.queue.counts.partner_session ≡ old.queue.counts.partner_session
  pub put : PutsReplies old.queue new.queue (replies words)
  pub window : StaysKnown old.client new.client
  pub lines_are : AddsLosses lines lines'

-- All was heard: nothing is to come, waits or is kept, and the session goes on.
pub record HasHeardAll (unit : Unit) (queue : EndState) : Type 0 where
  pub closing : unit.line.closing ≡ false
  pub up : unit.line.handshake ≢ Down
  pub waiting : unit.waiting ≡ None
  pub kept : unit.line.kept ≡ None
  pub none : to_come queue ≡ []

-- What the part leaves that heard the next word, and what it is followed by: the first of these words was heard, and the others are
-- to come; or there was none.
abbrev pub HearsFirst : (link_shared : Bool) → (unit unit' : Unit) → (old new : Reach) → (lines lines' : List Grant) → List Word → Next → Type 0
HearsFirst link_shared unit unit' old new lines lines' [] next =
    (next ≡ Service) × HasHeard unit unit' old new lines lines' [] × HasHeardAll unit' new.queue
HearsFirst link_shared unit unit' old new lines lines' (word ∷ words) next =
    (next ≡ NextEntry) × HasHeard unit unit' old new lines lines' (word ∷ []) × IsListening unit' new link_shared words

-- An information unit was judged: the request is accepted, and nothing else changed.
pub record IsAccepted (unit unit' : Unit) (lines lines' : List Grant) (number address : ℕ) (bytes : List ℕ) (iu : Iu) : Type 0 where
  pub accepts : AcceptsRequest (talk_of unit) number address bytes iu (talk_of unit')
  pub line : unit'.line ≡ unit.line
  pub service : unit'.service ≡ unit.service
  pub lines_are : lines' ≡ lines

-- One was fetched and judged.
pub record IsReceivedAs (unit unit' : Unit) (old new : Reach) (lines lines' : List Grant) (number address : ℕ) (bytes : List ℕ) (iu : Iu) : Type 0 where
  pub accepted : IsAccepted unit unit' lines lines' number address bytes iu
  pub waiting : unit'.waiting ≡ None
  pub queue : new.queue ≡ old.queue
  pub window : StaysKnown old.client new.client

-- There are no more words than entries that are taken in a turn, and no more than requests that may be pending beside those that are.
pub record FitOneTurn (unit : Unit) (site : Reach) (words : List Word) : Type 0 where
  pub slots : length words ≤ site.queue.place.own_slots
  pub pending : length unit.pending.items + length words ≤ 256

-- WHAT IS SERVED ---------------------------------------------------------------------------------

-- a login begins
pub record BeginsLogin (old new : Logins) : Type 0 where
  pub last : new.last ≡ old.last + 1
  pub current : new.current ≡ old.last + 1
  pub taking : new.taking ≡ true
  pub outstanding : new.target.outstanding ≡ 0
  pub granted : new.granted ≡ old.granted

-- One request less is outstanding.
pub record CountsAnswer (old new : Logins) : Type 0 where
  pub last : new.last ≡ old.last
  pub current : new.current ≡ old.current
  pub taking : new.taking ≡ old.taking
  pub outstanding : new.target.outstanding ≡ old.target.outstanding - 1
  pub granted : new.granted ≡ old.granted

-- what an answer whose entry was put leaves of the logins, and the line that says so
abbrev pub SettlesLogins : Outcome → (old new : Logins) → Type 0
SettlesLogins (outcomes.Granted number) old new = BeginsLogin old new
SettlesLogins outcomes.Rejected old new = new ≡ old
SettlesLogins (outcomes.Served row) old new = CountsAnswer old new

abbrev pub settled_lines : Outcome → UnitId → (session : ℕ) → Logins → List Grant
settled_lines (outcomes.Granted number) id session logins = Granted id session (logins.last + 1) number logins.granted ∷ []
settled_lines outcome id session logins = []

-- A login is answered as one that is granted exactly where it may be while this one is on (0: none), and else as one that is rejected;
-- a task or a command as one that was served.
abbrev pub Suits : (current : ℕ) → Order → Outcome → Type 0
Suits current (orders.Login request) (outcomes.Granted number) = IsGrantable current request
Suits current (orders.Login request) outcomes.Rejected = ¬ IsGrantable current request
Suits current (orders.Task task) (outcomes.Served row) = ⊤
Suits current (orders.Command command) (outcomes.Served row) = ⊤
Suits current orders.Unreadable (outcomes.Served row) = ⊤
Suits current order outcome = ⊥

abbrev pub SuitsStage : (current : ℕ) → Order → Stage → Type 0
SuitsStage current order (stages.Answer outcome) = Suits current order outcome
SuitsStage current order (stages.Entry outcome) = Suits current order outcome
SuitsStage current order stage = ⊤

-- The answer that does this once its entry is put is to be copied, or its entry to be put.
abbrev pub IsAnswerAt : Stage → Outcome → Type 0
IsAnswerAt stage outcome = (stage ≡ stages.Answer outcome) ⊎ (stage ≡ stages.Entry outcome)

-- An answer may be written over a request at this address.
abbrev pub MayWriteAnswer : PortState → (address : ℕ) → Type 0
MayWriteAnswer client address = IsUsable client.values Write client.place.size address 256

-- The answer was copied, and its entry is to be put.
pub record CopiesAnswer (unit unit' : Unit) (lines lines' : List Grant) (outcome : Outcome) : Type 0 where
  pub id : unit'.id ≡ unit.id
  pub stage : unit'.service.stage ≡ stages.Entry outcome
  pub answer : unit'.service.answer ≡ unit.service.answer
  pub pending : unit'.pending.items ≡ unit.pending.items
  pub line : unit'.line ≡ unit.line
  pub waiting : unit'.waiting ≡ unit.waiting
  pub logins : unit'.logins ≡ unit.logins
  pub lines_are : lines' ≡ lines

-- the oldest of the requests that are pending, and what is known of it: unless it asks for a logout, its answer may be written over it;
-- there is room for the entry of that, and its service has not begun
pub record IsServable (unit : Unit) (site : Reach) (link_shared : Bool) (request : Request) (rest : List Request) : Type 0 where
  pub alone : link_shared ≡ false
  pub apart : site.shared ≡ false
  pub registered : site.queue.registered ≡ true
  pub pending : unit.pending.items ≡ request ∷ rest
  pub stage : unit.service.stage ≡ stages.Start
  pub may : request.order ≢ orders.Logout → MayWriteAnswer site.client request.address
  pub slots : HasRoomFor site.queue 1

-- It is served no more, and the unit's side of the link is as before.
pub record EndsService (unit unit' : Unit) : Type 0 where
  pub pending : unit'.pending.items ≡ drop 1 unit.pending.items
  pub line : unit'.line ≡ unit.line
  pub waiting : unit'.waiting ≡ unit.waiting
  pub stage : unit'.service.stage ≡ stages.Start

-- The entry of its answer was put, or was not since the partner's queue is closed.
pub record PutsAnswer (unit unit' : Unit) (old new : EndState) (lines lines' : List Grant) (outcome : Outcome) (entry : Entry) : Type 0 where
  pub over : EndsService unit unit'
  pub put : Replies old new (entry ∷ [])
  pub logins : old.place.partner_registered ≡ true → SettlesLogins outcome unit.logins unit'.logins
  pub lines_are : old.place.partner_registered ≡ true → lines' ≡ lines ++ settled_lines outcome unit.id old.last_session unit.logins
  pub none : old.place.partner_registered ≡ false → unit'.logins ≡ unit.logins
  pub no_line : old.place.partner_registered ≡ false → lines' ≡ lines

-- It was answered, as is due to what it asks, by an entry that bears its tag.
pub record AnswersRequest (unit unit' : Unit) (old new : EndState) (lines lines' : List Grant) (request : Request) : Type 0 where
  pub outcome : Outcome
  pub suits : Suits unit.logins.current request.order outcome
  pub long : ℕ
  pub put : PutsAnswer unit unit' old new lines lines' outcome (srp_entry long request.tag)

-- It asked for a logout: the login ended, and nothing was put.
pub record LogsOut (unit unit' : Unit) (old new : EndState) (lines lines' : List Grant) : Type 0 where
  pub over : EndsService unit unit'
  pub put : Replies old new []
  pub last : unit'.logins.last ≡ unit.logins.last
  pub current : unit'.logins.current ≡ 0
  pub taking : unit'.logins.taking ≡ false
  pub granted : unit'.logins.granted ≡ unit.logins.granted
  pub lines_are : lines' ≡ lines ++ Lapsed unit.id old.last_session unit.logins.current Logout 0 0 ∷ []

-- The oldest request was served.
abbrev pub ServesFirst : (unit unit' : Unit) → (old new : EndState) → (lines lines' : List Grant) → Request → Type 0
ServesFirst unit unit' old new lines lines' request =
    ((request.order ≡ orders.Logout) × LogsOut unit unit' old new lines lines') ⊎ AnswersRequest unit unit' old new lines lines' request

-- THE TURN ---------------------------------------------------------------------------------------

-- An answer may be written over the request that is the oldest once these words are heard, unless that asks for a logout.
abbrev pub MayAnswerNext : (unit : Unit) → Reach → List Word → Type 0
MayAnswerNext unit at words = (talk : Talk) (request : Request) (rest : List Request) → HearsAll (talk_of unit) (length (taken_now at.queue)) words talk
    → talk.pending ≡ request ∷ rest → request.order ≢ orders.Logout → MayWriteAnswer at.client request.address

-- What is so of a unit before a turn in which nothing is amiss: these words are to come, in order, no more than a turn takes; no event is
-- kept; no service has begun; an answer may be written over the request that the turn is to serve, and there is room for one.
pub record IsTurnReady (unit : Unit) (at : Reach) (link_shared : Bool) (words : List Word) : Type 0 where
  pub calm : IsListening unit at link_shared words
  pub event : at.queue.kept ≡ None
  pub few : FitOneTurn unit at words
  pub stage : unit.service.stage ≡ stages.Start
  pub next : MayAnswerNext unit at words
  pub slots : HasRoomFor at.queue (length (replies words) + 1)

-- Nothing was pending, and nothing was served.
pub record ServesNone (unit unit' : Unit) (old new : EndState) (lines lines' : List Grant) : Type 0 where
  pub none : unit.pending.items ≡ []
  pub same : unit' ≡ unit
  pub queue : new ≡ old
  pub lines_are : lines' ≡ lines

-- The oldest request that is pending was served, if there is one.
abbrev pub ServesNext : (unit unit' : Unit) → (old new : EndState) → (lines lines' : List Grant) → Type 0
ServesNext unit unit' old new lines lines' = ServesNone unit unit' old new lines lines'
    ⊎ ((request : Request) × (rest : List Request) × (unit.pending.items ≡ request ∷ rest) × ServesFirst unit unit' old new lines lines' request)

-- What such a turn leaves: all words were heard, and then the oldest request was served, if there was one.
pub record TalksOn (unit unit' : Unit) (old : Reach) (new : EndState) (lines lines' : List Grant) (words : List Word) : Type 0 where
  pub middle : Unit
  pub between : Reach
  pub added : List Grant
  pub hears : HasHeard unit middle old between lines added words
  pub all : HasHeardAll middle between.queue
  pub serves : ServesNext middle unit' between.queue new added lines'

-- The unit of this number, after such a turn.
pub record UnitTalksOn (units' : List Unit) (number : ℕ) (unit : Unit) (old : Reach) (new : EndState) (lines lines' : List Grant) (words : List Word) : Type 0 where
  pub unit' : Unit
  pub there : slice_get units' number ≡ Some unit'
  pub talks : TalksOn unit unit' old new lines lines' words

-- THE FIRST TURN ----------------------------------------------------------------------------------

-- The unit is as it was made: its queue is not registered, no entry waits or is kept, no login is on, and nothing is pending.
pub record IsNewUnit (unit : Unit) : Type 0 where
  pub handshake : unit.line.handshake ≡ Down
  pub closing : unit.line.closing ≡ false
  pub kept : unit.line.kept ≡ None
  pub waiting : unit.waiting ≡ None
  pub stage : unit.service.stage ≡ stages.Start
  pub current : unit.logins.current ≡ 0
  pub taking : unit.logins.taking ≡ false
  pub pending : unit.pending.items ≡ []

-- each unit is
abbrev pub AreNewUnits : List Unit → Type 0
AreNewUnits units = (number : ℕ) → IfSome (slice_get units number) IsNewUnit

-- So is this one before its first turn, where nobody else changes the link or has a hand in the client's window, neither the unit's queue
-- nor its partner's is registered, and no event is kept.
pub record IsNewThere (unit : Unit) (at : Reach) (link_shared : Bool) : Type 0 where
  pub alone : link_shared ≡ false
  pub apart : at.shared ≡ false
  pub unregistered : at.queue.registered ≡ false
  pub partner : at.queue.place.partner_registered ≡ false
  pub event : at.queue.kept ≡ None
  pub made : IsNewUnit unit

-- The end of a queue is as it was, but for counts and for the calls for which room is reserved.
pub record StaysQuiet (old new : EndState) : Type 0 where
  pub place : new.place ≡ old.place
  pub last_session : new.last_session ≡ old.last_session
  pub registered : new.registered ≡ old.registered
  pub kept : new.kept ≡ old.kept
  pub sent : new.sent ≡ old.sent
  pub taken : new.taken ≡ old.taken

-- The unit waits for its partner in a session that has begun, and is else as it was, but that it may have done something.
pub record AwaitsPartner (unit unit' : Unit) : Type 0 where
  pub id : unit'.id ≡ unit.id
  pub handshake : unit'.line.handshake ≡ Waiting
  pub closing : unit'.line.closing ≡ unit.line.closing
  pub kept : unit'.line.kept ≡ unit.line.kept
  pub waiting : unit'.waiting ≡ unit.waiting
  pub stage : unit'.service.stage ≡ unit.service.stage
  pub logins : unit'.logins ≡ unit.logins
  pub pending : unit'.pending.items ≡ unit.pending.items

-- So it has, and nothing was put.
pub record BeginsAlone (unit unit' : Unit) (old new : Reach) : Type 0 where
  pub unit_is : AwaitsPartner unit unit'
  pub queue : StaysQuiet old.queue new.queue
  pub window : new.client ≡ old.client

-- The unit's queue is registered, in a session in which nothing is to come; nothing was put, since the partner's is not registered; and the
-- unit has begun to wait for its partner, and is else as it was. The client's window is, too.
pub record OpensUnit (unit unit' : Unit) (old new : Reach) : Type 0 where
  pub registered : new.queue.registered ≡ true
  pub event : new.queue.kept ≡ None
  pub place : new.queue.place ≡ old.queue.place
  pub session : new.queue.last_session ≡ old.queue.last_session + 1
  pub sent : new.queue.sent ≡ old.queue.sent
  pub taken : new.queue.taken ≡ old.queue.taken
  pub none_taken : taken_now new.queue ≡ []
  pub none : to_come new.queue ≡ []
  pub id : unit'.id ≡ unit.id
  pub handshake : unit'.line.handshake ≡ Waiting
  pub closing : unit'.line.closing ≡ false
  pub kept : unit'.line.kept ≡ None
  pub waiting : unit'.waiting ≡ None
  pub stage : unit'.service.stage ≡ stages.Start
  pub logins : unit'.logins ≡ unit.logins
  pub pending : unit'.pending.items ≡ []
  pub window : new.client ≡ old.client

-- What the first turn leaves: this, and the lines and the rows as they were.
pub record OpensOn (unit unit' : Unit) (old new : Reach) (lines lines' : List Grant) (rows rows' : List Served) : Type 0 where
  pub opens : OpensUnit unit unit' old new
  pub lines_are : lines' ≡ lines
  pub rows_are : rows' ≡ rows

-- The unit of this number, after such a turn.
pub record UnitOpensOn (units' : List Unit) (number : ℕ) (unit : Unit) (old new : Reach) (lines lines' : List Grant) (rows rows' : List Served) : Type 0 where
  pub unit' : Unit
  pub there : slice_get units' number ≡ Some unit'
  pub opens : OpensOn unit unit' old new lines lines' rows rows'
