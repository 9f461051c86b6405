-- What lies between a client and its server unit whose session is over for another cause than the client's: the client is yet to hear of that, or
-- it has, and both begin anew. It is said of where the unit stands (Doing), so that it holds within a turn of either.
use Rattle.std.specs.Prelude.{◌≡◌, ◌≢◌, ◌⊎◌, ◌++◌, ℕ, ◌≤◌, All, Bool, true, false, List, [], ◌∷◌, Option, Some, None, length, min, drop, if◌then◌else◌, ⊤}
use Rattle.std.specs.List.{list_any}
use Rattle.vio_num.specs.Entry.{initialization_complete, initialize, is_srp_entry, partner_freed, srp_entry}
use Rattle.vio_num.specs.declared.entry.Entry.{Entry}
use Rattle.vio_num.specs.declared.names.UnitId.{UnitId}
use Rattle.crq_ring.specs.Sessions.{of_session}
use Rattle.crq_ring.specs.declared.rows.PipeRow.{PipeRow}
use Rattle.crq_session.specs.Answered.{taken_now}
use Rattle.crq_session.specs.EndState.{EndState}
use Rattle.crq_session.specs.declared.handshake.Handshake.TheVariants.{Down, Up, Waiting}
use Rattle.srp_iu.specs.declared.unit.Iu.{Iu}
use Rattle.tce_window.specs.PortState.{PortState}
use Rattle.block_server.specs.Closings.{is_event}
use Rattle.block_server.specs.Doings.{Doing, entry_for}
use Rattle.block_server.specs.Standing.{IsAnswerTo}
use Rattle.block_server.specs.Talk.{order_asked}
use Rattle.block_server.specs.declared.line.Kept.{Kept}
use Rattle.block_server.specs.declared.line.Kept.TheVariants as keeps
use Rattle.block_server.specs.declared.request.Request.{Request}
use Rattle.block_server.specs.declared.service.Outcome.{Outcome}
use Rattle.block_server.specs.declared.service.Stage.TheVariants as stages
use Rattle.vscsi_client.specs.Sending.{task_of}
use Rattle.vscsi_client.specs.State.{ClientState}
use Rattle.vscsi_client.specs.Units.{slot_address}
use Rattle.vscsi_client.specs.declared.outgoing.Outgoing.{Outgoing}
use Rattle.vscsi_client.specs.declared.stage.Due.{Due}
use Rattle.vscsi_client.specs.declared.stage.Due.TheVariants as dues
use Rattle.vscsi_client.specs.declared.stage.Stage.{Stage}
use Rattle.vscsi_client.specs.declared.stage.Stage.TheVariants.{Idle, Sent, Written}
use Rattle.vcpu_run.specs.PlainTalk.{AnswerStands, AreApart, Ask, HaveAnswers, IsAnswerBy, IsAsk, IsOwnWindow, IsPendingAs, ShowsAt, TagsRise, grants_one, has_login, is_grant, is_login, is_logout, names_of}

-- WHAT IS TO COME TO THE CLIENT -------------------------------------------------------------------

-- what was put into the client's queue in its session and is not taken, where this was put in all
abbrev pub coming_to : EndState → List PipeRow → List Entry
coming_to own sent = drop (length (taken_now own)) (of_session own.last_session sent)

abbrev pub held_in : Option Entry → List Entry
held_in None = []
held_in (Some entry) = entry ∷ []

-- what a client is to look at: the answers that a login kept, the entry that it holds, and what is to come
abbrev pub stream_of : ClientState → (rest : List Entry) → List Entry
stream_of s rest = s.kept ++ (held_in s.held ++ rest)

-- An entry is one of the initialisation; or else it tells that the server unit's queue is free.
abbrev pub IsShake : Entry → Type 0
IsShake entry = (entry ≡ initialize) ⊎ (entry ≡ initialization_complete)

abbrev pub IsNews : Entry → Type 0
IsNews entry = IsShake entry ⊎ (entry ≡ partner_freed)

-- the SRP entries among these, and the others
abbrev pub answers_among : List Entry → List Entry
answers_among [] = []
answers_among (entry ∷ entries) = if is_srp_entry entry then entry ∷ answers_among entries else answers_among entries

abbrev pub news_among : List Entry → List Entry
news_among [] = []
news_among (entry ∷ entries) = if is_srp_entry entry then news_among entries else entry ∷ news_among entries

-- whether one of them tells that the partner is gone
abbrev pub tells_gone : List Entry → Bool
tells_gone [] = false
tells_gone (entry ∷ entries) = if is_event entry then true else tells_gone entries

-- those behind the last one that tells so; all, where none does
abbrev pub behind_gone : List Entry → List Entry
behind_gone [] = []
behind_gone (entry ∷ entries) = if tells_gone entries then behind_gone entries else (if is_event entry then entries else entry ∷ entries)

-- Behind one that tells so none answers.
abbrev pub NoneBehindGone : List Entry → Type 0
NoneBehindGone [] = ⊤
NoneBehindGone (entry ∷ entries) = (is_event entry ≡ true → answers_among entries ≡ []) × NoneBehindGone entries

-- one of these stands among them
abbrev pub HasEntry : Entry → List Entry → Type 0
HasEntry entry entries = (front : List Entry) × (rest : List Entry) × (entries ≡ front ++ entry ∷ rest)

-- WHAT THE CLIENT ASKED ---------------------------------------------------------------------------

-- the login that is under way, from the writing of its unit on, as the client knows it
abbrev pub under_way : Stage → List Outgoing
under_way (Written tag slot) = task_of tag slot ∷ []
under_way (Sent tag slot) = task_of tag slot ∷ []
under_way Idle = []

-- whether this is due that asks for a login
abbrev pub is_login_due : Due → Bool
is_login_due dues.Login = true
is_login_due due = false

abbrev pub is_under_way : Stage → Bool
is_under_way Idle = false
is_under_way stage = true

-- Behind a login nothing was asked.
abbrev pub LoginLast : List Ask → Type 0
LoginLast [] = ⊤
LoginLast (ask ∷ more) = (is_login ask.iu ≡ true → more ≡ []) × LoginLast more

-- One that is written, and not sent, has no answer.
abbrev pub IsUnanswered : Stage → (answered : List Ask) → Type 0
IsUnanswered (Written tag slot) answered = has_login answered ≡ false
IsUnanswered stage answered = ⊤

-- The unit of a login that is not sent shows in its slot.
abbrev pub LoginShows : PortState → Stage → Ask → Type 0
LoginShows window (Written tag slot) ask = ask.slot ≡ slot → ShowsAt window (slot_address slot) ask.bytes
LoginShows window stage ask = ⊤

-- What a client asked and is not done with: what has its answer among what it is to look at, and what is lost, or yet to be heard. It awaits the
-- answers of all of that; behind an event there is none.
pub record IsOwed (granted : ℕ) (id : UnitId) (window : PortState) (s : ClientState) (stream : List Entry) (answered lost : List Ask) (answers : List Iu) : Type 0 where
  pub each : All IsAsk (answered ++ lost)
  pub slots : AreApart (answered ++ lost)
  pub tags : TagsRise (length s.rows) (answered ++ lost)
  pub order : LoginLast (answered ++ lost)
  pub told : HaveAnswers window (answers_among stream) answered answers
  pub news : All IsNews (news_among stream)
  pub behind : NoneBehindGone stream
  pub awaited : names_of (answered ++ lost) ≡ s.outgoing ++ under_way s.login
  pub logouts : All (λ ask. is_logout ask.iu ≡ true → s.logout ≡ Some ask.slot) (answered ++ lost)
  pub sent : has_login (answered ++ lost) ≡ is_under_way s.login
  pub written : All (LoginShows window s.login) lost
  pub unanswered : IsUnanswered s.login answered
  pub none : s.granted ≡ None → s.outgoing ≡ []
  pub within : length s.outgoing ≤ 200
  pub credits : (s.granted ≡ None) ⊎ (s.granted ≡ Some (min granted 200))
  pub grant : All (IsAnswerBy granted id window) answers

-- It knows of no login that is on, and awaits nothing but the answer to one, if one is under way.
pub record IsAware (s : ClientState) : Type 0 where
  pub granted : s.granted ≡ None
  pub outgoing : s.outgoing ≡ []
  pub logout : s.logout ≡ None
  pub kept : s.kept ≡ []

-- WHERE BOTH STAND --------------------------------------------------------------------------------

-- no login is on in the unit, and it has nothing to serve
pub record IsIdle (d : Doing) : Type 0 where
  pub current : d.logins.current ≡ 0
  pub pending : d.pending ≡ []
  pub stage : d.stage ≡ stages.Start

-- it keeps nothing, or an entry of the initialisation
abbrev pub KeepsShake : Option Kept → Type 0
KeepsShake None = ⊤
KeepsShake (Some (keeps.Reply entry)) = IsShake entry
KeepsShake (Some (keeps.Answer entry outcome)) = ⊥

-- The client has registered its queue since, and done nothing else.
pub record IsFresh (s : ClientState) (stream : List Entry) : Type 0 where
  pub aware : IsAware s
  pub login : s.login ≡ Idle
  pub handshake : s.handshake ≡ Waiting
  pub none : stream ≡ []
  pub due : list_any is_login_due s.due ≡ false

-- The client will hear that the unit's queue was freed; or it need not.
abbrev pub WillHear : Doing → ClientState → EndState → (stream : List Entry) → Type 0
WillHear d s own stream = (own.registered ≡ false) ⊎ (((tells_gone stream ≡ true) × (behind_gone stream ≡ [])) ⊎ ((d.event ≡ Some partner_freed) ⊎ IsFresh s stream))

-- The session of the unit is over: it hears nothing of what is to come. Its queue is yet to be freed, or is free.
pub record IsShut (d : Doing) (s : ClientState) (own : EndState) (stream : List Entry) : Type 0 where
  pub over : d.ended ≡ true
  pub idle : IsIdle d
  pub kept : d.kept ≡ None
  pub event : (d.event ≡ None) ⊎ (d.event ≡ Some partner_freed)
  pub told : (d.handshake ≢ Down) ⊎ WillHear d s own stream

-- A new session is on, in which the unit waits to hear of its client. First of all an SRP entry is to come, for which it ends that, too.
pub record EndsEarly (d : Doing) : Type 0 where
  pub entry : Entry
  pub more : List Entry
  pub coming : d.coming ≡ entry ∷ more
  pub srp : is_srp_entry entry ≡ true

pub record IsNew (d : Doing) : Type 0 where
  pub going : d.ended ≡ false
  pub waiting : d.handshake ≡ Waiting
  pub idle : IsIdle d
  pub kept : KeepsShake d.kept
  pub event : d.event ≡ None

pub record IsStale (d : Doing) : Type 0 where
  pub new : IsNew d
  pub early : EndsEarly d

-- The client is yet to look at the event that tells of that, behind which one of the initialisation stands, or will; whatever it asked meanwhile
-- is for nothing.
pub record IsUnheard (d : Doing) (own : EndState) (stream : List Entry) : Type 0 where
  pub new : IsNew d
  pub registered : own.registered ≡ true
  pub gone : tells_gone stream ≡ true
  pub queue : (d.coming ≡ []) ⊎ EndsEarly d
  pub begins : (HasEntry initialize (behind_gone stream) × (d.kept ≡ None)) ⊎ ((behind_gone stream ≡ []) × (d.kept ≡ Some (keeps.Reply initialize)))

-- these are entries of the initialisation, and events
abbrev pub AreShakes : List Entry → Type 0
AreShakes = All (λ (entry : Entry). IsShake entry ⊎ (is_event entry ≡ true))

-- The client awaits something of the initialisation: it is to look at one such entry, or the unit to put or to hear one, or it itself to put one.
abbrev pub Stirs : Doing → ClientState → (stream : List Entry) → Type 0
Stirs d s stream = (news_among stream ≢ []) ⊎ ((d.kept ≢ None) ⊎ (HasEntry initialize d.coming ⊎ ((others : List Due) × (s.due ≡ dues.Initialize ∷ others))))

-- A login is due, behind all else: the client has heard of the unit, which puts nothing that asks for an answer.
pub record IsLogging (d : Doing) (s : ClientState) (stream : List Entry) : Type 0 where
  pub up : s.handshake ≡ Up
  pub complete : All (λ (entry : Entry). entry ≡ initialization_complete) (news_among stream)
  pub entry : d.kept ≢ Some (keeps.Reply initialize)
  pub last : (front others : List Due) → s.due ≡ front ++ dues.Login ∷ others → others ≡ []

-- Both begin anew, and no login was asked for since: only entries of the initialisation and events are to come to the unit. Where the unit keeps
-- Initialize, the client has taken none of them since.
pub record IsAnew (d : Doing) (s : ClientState) (own : EndState) (stream : List Entry) : Type 0 where
  pub idle : IsIdle d
  pub kept : KeepsShake d.kept
  pub queue : AreShakes d.coming
  pub unsent : own.registered ≡ true → (tag slot : ℕ) → s.login ≢ Sent tag slot
  pub first : own.registered ≡ true → d.kept ≡ Some (keeps.Reply initialize) → (s.handshake ≡ Waiting) × (stream ≡ [])
  pub stirs : own.registered ≡ true → s.handshake ≡ Waiting → Stirs d s stream
  pub logging : own.registered ≡ true → (list_any is_login_due s.due ≡ true) ⊎ (is_under_way s.login ≡ true) → IsLogging d s stream

-- A login was asked for: nothing else is due, and the client has heard of the unit. (Where its partition failed, it hears no answer.)
pub record HasAsked (s : ClientState) (own : EndState) (stream : List Entry) (ask : Ask) : Type 0 where
  pub login : s.login ≡ Sent ask.tag ask.slot
  pub asked : is_login ask.iu ≡ true
  pub due : own.registered ≡ true → s.due ≡ []
  pub up : own.registered ≡ true → s.handshake ≡ Up
  pub complete : own.registered ≡ true → All (λ (entry : Entry). entry ≡ initialization_complete) (news_among stream)

-- Behind it nothing is to come, but events of a client whose partition failed.
abbrev pub StandsBehind : EndState → List Entry → Type 0
StandsBehind own back = (back ≡ []) ⊎ ((own.registered ≡ false) × All (λ (entry : Entry). is_event entry ≡ true) back)

-- its entry is to come, behind what shakes
pub record IsComing (d : Doing) (own : EndState) (ask : Ask) : Type 0 where
  pub idle : IsIdle d
  pub kept : KeepsShake d.kept
  pub entry : d.kept ≢ Some (keeps.Reply initialize)
  pub front : List Entry
  pub back : List Entry
  pub queue : d.coming ≡ front ++ srp_entry (length ask.bytes) (slot_address ask.slot) ∷ back
  pub shakes : AreShakes front
  pub behind : StandsBehind own back
  pub shows : ShowsAt d.client (slot_address ask.slot) ask.bytes

-- The unit has it to serve, and nothing else; no login is on.
pub record IsServing (d : Doing) (own : EndState) (ask : Ask) : Type 0 where
  pub current : d.logins.current ≡ 0
  pub up : d.handshake ≡ Up
  pub request : Request
  pub pending : d.pending ≡ request ∷ []
  pub is : IsPendingAs request ask
  pub queue : StandsBehind own d.coming

pub record IsTaken (d : Doing) (own : EndState) (ask : Ask) : Type 0 where
  pub serves : IsServing d own ask
  pub stage : d.stage ≡ stages.Start
  pub kept : KeepsShake d.kept
  pub entry : d.kept ≢ Some (keeps.Reply initialize)

-- its answer, which grants it, was worked out
pub record IsPrepared (d : Doing) (own : EndState) (ask : Ask) : Type 0 where
  pub serves : IsServing d own ask
  pub outcome : Outcome
  pub stage : d.stage ≡ stages.Answer outcome
  pub grants : is_grant outcome ≡ true
  pub answer : IsAnswerTo 0 d.logins.granted ask.tag (order_asked ask.iu) outcome d.answer
  pub kept : KeepsShake d.kept
  pub entry : d.kept ≢ Some (keeps.Reply initialize)

-- it was written, and its entry is to be put, or is kept
pub record IsWritten (granted : ℕ) (d : Doing) (own : EndState) (ask : Ask) : Type 0 where
  pub serves : IsServing d own ask
  pub outcome : Outcome
  pub stage : d.stage ≡ stages.Entry outcome
  pub grants : is_grant outcome ≡ true
  pub iu : Iu
  pub stands : AnswerStands granted d.id d.client ask (length d.answer) outcome iu
  pub kept : KeepsShake d.kept ⊎ (d.kept ≡ Some (keeps.Answer (entry_for serves.request d.answer) outcome))
  pub entry : d.kept ≢ Some (keeps.Reply initialize)

-- The unit has granted it, and nothing is to come; the client is to look at its answer last.
pub record IsGranted (d : Doing) (s : ClientState) (own : EndState) (stream : List Entry) : Type 0 where
  pub current : d.logins.current ≢ 0
  pub taking : d.taking ≡ true
  pub outstanding : d.outstanding ≡ 0
  pub pending : d.pending ≡ []
  pub stage : d.stage ≡ stages.Start
  pub up : d.handshake ≡ Up
  pub kept : d.kept ≡ None
  pub queue : StandsBehind own d.coming
  pub front : List Entry
  pub entry : Entry
  pub last : stream ≡ front ++ entry ∷ []
  pub srp : is_srp_entry entry ≡ true

-- how far a login has come that was asked for: its entry is to come, or the unit has it to serve, or has granted it, in what has its answer
pub record Joins (granted : ℕ) (d : Doing) (s : ClientState) (own : EndState) (stream : List Entry) (answered lost : List Ask) : Type 0 where
  pub ask : Ask
  pub has : HasAsked s own stream ask
  pub where_is :
      (((answered ≡ []) × (lost ≡ ask ∷ [])) × (IsComing d own ask ⊎ (IsTaken d own ask ⊎ (IsPrepared d own ask ⊎ IsWritten granted d own ask))))
      ⊎ (((answered ≡ ask ∷ []) × (lost ≡ [])) × IsGranted d s own stream)

-- The session of the unit goes on, and nothing tells the client, if its queue is registered, of another that was over.
pub record Rejoins (granted : ℕ) (failed : Bool) (d : Doing) (s : ClientState) (own : EndState) (stream : List Entry) (answered lost : List Ask) : Type 0 where
  pub going : d.ended ≡ false
  pub event : d.event ≡ None
  pub open_is : d.handshake ≢ Down
  pub none_gone : own.registered ≡ true → tells_gone stream ≡ false
  pub aware : own.registered ≡ true → IsAware s
  pub there : (own.registered ≡ true) ⊎ ((failed ≡ true) ⊎ IsAnew d s own stream)
  pub how : IsAnew d s own stream ⊎ Joins granted d s own stream answered lost

-- The session of the server unit is over, or was. (Whether the client's partition failed is said beside.) What is to come to a queue that is
-- registered is what was put there; to one that is not nothing more comes.
pub record IsOver (granted : ℕ) (failed : Bool) (d : Doing) (s : ClientState) (own : EndState) : Type 0 where
  pub answered : List Ask
  pub lost : List Ask
  pub answers : List Iu
  pub rest : List Entry
  pub come : own.registered ≡ true → rest ≡ coming_to own d.sent
  pub owed : IsOwed granted d.id d.client s (stream_of s rest) answered lost answers
  pub grants : d.logins.granted ≡ granted
  pub most : granted ≤ 200
  pub partner : d.partner ≡ own.registered
  pub to : d.to ≡ own.last_session
  pub reaches : d.handshake ≢ Down → d.reaches ≡ own.registered
  pub shut : d.handshake ≡ Down → (d.reaches ≡ false) × (d.ended ≡ true)
  pub away : own.registered ≡ false → (s.handshake ≡ Down) × (s.due ≡ [])
  pub there : own.registered ≡ true → s.handshake ≢ Down
  pub took : length (taken_now own) ≤ length (of_session own.last_session d.sent)
  pub usable : IsOwnWindow d.client
  pub tabled : s.tabled ≡ None
  pub on : own.registered ≡ true → d.logins.current ≢ 0 → grants_one answers ≡ true
  pub phase : IsShut d s own (stream_of s rest)
      ⊎ (IsStale d
      ⊎ (IsUnheard d own (stream_of s rest)
      ⊎ Rejoins granted failed d s own (stream_of s rest) answered lost))
