-- What lies between a client and its server unit within a turn of the unit, where the client's window may lack rights over the driver's pages:
-- what is so of a unit's turn until its session ends.
use Rattle.std.specs.Prelude.{◌≡◌, ◌≢◌, ◌⊎◌, ◌++◌, ℕ, ◌≤◌, All, true, false, List, [], ◌∷◌, Some, None, drop, length, map, min}
use Rattle.crq_ring.specs.Sessions.{of_session}
use Rattle.crq_session.specs.Answered.{taken_now}
use Rattle.crq_session.specs.EndState.{EndState}
use Rattle.crq_session.specs.declared.handshake.Handshake.TheVariants.{Up}
use Rattle.srp_iu.specs.declared.unit.Iu.{Iu}
use Rattle.tce_window.specs.Pieces.{IsUsable}
use Rattle.tce_window.specs.PortState.{PortState}
use Rattle.tce_window.specs.declared.answers.Right.TheVariants.{Read}
use Rattle.block_server.specs.Doings.{Doing, entry_for}
use Rattle.block_server.specs.Standing.{IsAnswerTo}
use Rattle.block_server.specs.Talk.{MayWriteAnswer, Suits, order_asked}
use Rattle.block_server.specs.declared.line.Kept.TheVariants as keeps
use Rattle.block_server.specs.declared.request.Request.{Request}
use Rattle.block_server.specs.declared.service.Outcome.{Outcome}
use Rattle.block_server.specs.declared.service.Stage.{Stage}
use Rattle.block_server.specs.declared.service.Stage.TheVariants as stages
use Rattle.vscsi_client.specs.State.{ClientState}
use Rattle.vscsi_client.specs.Units.{slot_address}
use Rattle.vscsi_client.specs.declared.stage.Stage.TheVariants.{Idle}
use Rattle.vcpu_run.specs.OwnOver.{coming_to}
use Rattle.vcpu_run.specs.PlainTalk.{AnswerStands, AreApart, AreInOrder, ArePending, AreSaidThere, AreSpared, Ask, DataLies, HaveAnswers, IsAnswerBy, IsAsk, IsOwnWindow, StartsAt, TagsRise, awaited, has_login, is_logout, is_sent, names_of, word_of}

-- THE CLIENT --------------------------------------------------------------------------------------

-- The client's queue is registered, it has heard of the server unit, and awaits nothing but answers.
pub record IsTalker (granted : ℕ) (s : ClientState) (own : EndState) : Type 0 where
  pub registered : own.registered ≡ true
  pub handshake : s.handshake ≡ Up
  pub due : s.due ≡ []
  pub held : s.held ≡ None
  pub tabled : s.tabled ≡ None
  pub stage : (s.login ≡ Idle) ⊎ (is_sent s.login ≡ true)
  pub none : s.granted ≡ None → s.outgoing ≡ []
  pub within : length s.outgoing ≤ 200
  pub credits : (s.granted ≡ None) ⊎ (s.granted ≡ Some (min granted 200))

-- It asked all of this, and awaits its answers.
pub record AwaitsAll (s : ClientState) (all : List Ask) : Type 0 where
  pub each : All IsAsk all
  pub slots : AreApart all
  pub tags : TagsRise (length s.rows) all
  pub order : AreInOrder all
  pub awaited : names_of all ≡ awaited s
  pub logouts : All (λ ask. is_logout ask.iu ≡ true → s.logout ≡ Some ask.slot) all
  pub sent : has_login all ≡ is_sent s.login

-- THE UNIT ----------------------------------------------------------------------------------------

-- Its session goes on, and so does the client's; the client's window is its own, and the region another unit's.
pub record GoesOn (granted : ℕ) (d : Doing) (own : EndState) : Type 0 where
  pub going : d.ended ≡ false
  pub up : d.handshake ≡ Up
  pub event : d.event ≡ None
  pub reaches : d.reaches ≡ true
  pub partner : d.partner ≡ true
  pub to : d.to ≡ own.last_session
  pub grants : d.logins.granted ≡ granted
  pub most : granted ≤ 200
  pub took : length (taken_now own) ≤ length (of_session own.last_session d.sent)
  pub named : d.name ≡ d.id
  pub apart : d.client.place.unit ≢ d.id
  pub usable : IsOwnWindow d.client

-- what is pending behind the oldest, if that is in service; else all
abbrev pub unserved : Stage → List Ask → List Ask
unserved stages.Start pending = pending
unserved stage pending = drop 1 pending

-- The answer to the oldest was worked out, while some login was on, or none.
pub record IsWorkedOut (granted : ℕ) (d : Doing) (outcome : Outcome) (pending : List Ask) : Type 0 where
  pub ask : Ask
  pub more : List Ask
  pub first : pending ≡ ask ∷ more
  pub current : ℕ
  pub suits : Suits current (order_asked ask.iu) outcome
  pub answer : IsAnswerTo current granted ask.tag (order_asked ask.iu) outcome d.answer

-- It stands over the oldest, which asks for such an answer while some login is on, or none; it might be written to the slot of that.
pub record StandsOver (granted : ℕ) (d : Doing) (outcome : Outcome) (pending : List Ask) : Type 0 where
  pub ask : Ask
  pub more : List Ask
  pub first : pending ≡ ask ∷ more
  pub asks : (current : ℕ) × Suits current (order_asked ask.iu) outcome
  pub answer : Iu
  pub stands : AnswerStands granted d.id d.client ask (length d.answer) outcome answer
  pub may : MayWriteAnswer d.client (slot_address ask.slot)

-- Its entry is kept.
pub record KeepsAnswer (d : Doing) (outcome : Outcome) : Type 0 where
  pub request : Request
  pub rest : List Request
  pub pending : d.pending ≡ request ∷ rest
  pub kept : d.kept ≡ Some (keeps.Answer (entry_for request d.answer) outcome)

-- how far the service of the oldest has come, and what is kept
abbrev pub IsServedAt : (granted : ℕ) → Doing → (pending : List Ask) → Stage → Type 0
IsServedAt granted d pending stages.Start = d.kept ≡ None
IsServedAt granted d pending (stages.Answer outcome) = (d.kept ≡ None) × IsWorkedOut granted d outcome pending
IsServedAt granted d pending (stages.Entry outcome) = ((d.kept ≡ None) ⊎ KeepsAnswer d outcome) × StandsOver granted d outcome pending
IsServedAt granted d pending stage = ⊥

-- BETWEEN THEM ------------------------------------------------------------------------------------

-- What the client asked has its answer, is pending, or is to come; the data of what is not served yet lie where its tables say.
pub record TalksWithin (granted : ℕ) (d : Doing) (s : ClientState) (own : EndState) (answered pending coming : List Ask) (answers : List Iu) : Type 0 where
  pub talker : IsTalker granted s own
  pub all : AwaitsAll s (answered ++ (pending ++ coming))
  pub goes : GoesOn granted d own
  pub pends : ArePending d.pending pending
  pub comes : AreSaidThere d.client d.coming (map word_of coming)
  pub told : HaveAnswers d.client (s.kept ++ coming_to own d.sent) answered answers
  pub grant : All (IsAnswerBy granted d.id d.client) answers
  pub tables : All (DataLies d.client) (unserved d.stage pending ++ coming)
  pub starts : All (StartsAt s.rows) (pending ++ coming)
  pub spared : AreSpared (pending ++ coming)
  pub served : IsServedAt granted d pending d.stage

-- WHICH RIGHTS WERE THERE -------------------------------------------------------------------------

-- The window lets be read what was asked.
abbrev pub MayRead : PortState → Ask → Type 0
MayRead window ask = IsUsable window.values Read window.place.size (slot_address ask.slot) (length ask.bytes)

-- It is a logout, or an answer may be written over it.
abbrev pub MayAnswer : PortState → Ask → Type 0
MayAnswer window ask = (is_logout ask.iu ≡ true) ⊎ MayWriteAnswer window (slot_address ask.slot)

-- Of what was to come, and of what was pending or to come, this is left; what is not to come any more could be read, and what is not pending any
-- more answered.
pub record HasDone (window : PortState) (coming0 whole0 pending coming : List Ask) : Type 0 where
  pub heard : List Ask
  pub heard_is : coming0 ≡ heard ++ coming
  pub read : All (MayRead window) heard
  pub gone : List Ask
  pub gone_is : whole0 ≡ gone ++ (pending ++ coming)
  pub answered : All (MayAnswer window) gone

-- A turn that began with these to come, and with these pending or to come, has come so far.
pub record StillTalks (granted : ℕ) (d : Doing) (s : ClientState) (own : EndState) (coming0 whole0 : List Ask) : Type 0 where
  pub answered : List Ask
  pub pending : List Ask
  pub coming : List Ask
  pub answers : List Iu
  pub talks : TalksWithin granted d s own answered pending coming answers
  pub done : HasDone d.client coming0 whole0 pending coming
