-- What stands where a unit answered a request: the answer, and what that says.
use Rattle.std.specs.Prelude.{◌≡◌, ◌≢◌, ◌+◌, ◌/◌, ◌%◌, ◌++◌, ◌≤◌, ⊤, ℕ, true, List, [], ◌∷◌, Some, drop, length, slice_get, take}
use Rattle.vio_num.specs.Entry.{srp_entry}
use Rattle.vio_num.specs.declared.entry.Entry.{Entry}
use Rattle.vio_num.specs.declared.TheConstants.{PAGE_BYTES}
use Rattle.vio_num.specs.declared.history.Served.{Served}
use Rattle.vio_num.specs.declared.names.UnitId.{UnitId}
use Rattle.page_slots.specs.Page.{left_by}
use Rattle.page_slots.specs.Stroke.{StrokeValue}
use Rattle.page_slots.specs.declared.stroke.StrokeName.{StrokeName}
use Rattle.tce_window.specs.Pieces.{NamesPage}
use Rattle.crq_ring.specs.declared.rows.PipeRow.{PipeRow}
use Rattle.crq_session.specs.Answered.{taken_now}
use Rattle.crq_session.specs.EndState.{EndState}
use Rattle.srp_iu.specs.declared.login.LoginReq.{LoginReq}
use Rattle.tce_window.specs.PortState.{PortState}
use Rattle.block_server.specs.Bearing.{BearsWithin, IsOfQuestion, Question, question_of}
use Rattle.block_server.specs.Causes.{Hearing}
use Rattle.block_server.specs.Causes.News.{fetched}
use Rattle.block_server.specs.Ends.{IsRejection}
use Rattle.block_server.specs.Granting.{LoginState}
use Rattle.block_server.specs.Ranges.{known_in}
use Rattle.block_server.specs.Responses.{Answers, GrantsLogin}
use Rattle.block_server.specs.Talk.{HearsAll, IsReadWhole, StandAt, StaysKnown, Suits, Talk, Word, talk_of}
use Rattle.block_server.specs.declared.logins.Logins.{Logins}
use Rattle.block_server.specs.declared.request.Order.{Order}
use Rattle.block_server.specs.declared.request.Order.TheVariants as orders
use Rattle.block_server.specs.declared.request.Request.{Request}
use Rattle.block_server.specs.declared.service.Outcome.{Outcome}
use Rattle.block_server.specs.declared.service.Outcome.TheVariants as outcomes
use Rattle.block_server.specs.declared.service.Service.{Service}
use Rattle.block_server.specs.declared.service.Stage.{Stage}
use Rattle.block_server.specs.declared.service.Stage.TheVariants as stages
use Rattle.block_server.specs.declared.unit.Unit.{Unit}

-- They are a stroke of this name on the page that the address's entry names by its last value.
pub record IsStroke (client : PortState) (name : StrokeName) (address : ℕ) (bytes : List ℕ) : Type 0 where
  pub page : ℕ
  pub named : NamesPage client.values (address / PAGE_BYTES) page
  pub strokes : List StrokeValue
  pub there : client.strokes page ≡ Some strokes
  pub place : ℕ
  pub is : slice_get strokes place ≡ Some (record { name = name; offset = address % PAGE_BYTES; bytes = bytes })

-- They show on the page that the address's entry names by its last value, whether it lets be read or not.
pub record IsShown (client : PortState) (address : ℕ) (bytes : List ℕ) : Type 0 where
  pub page : ℕ
  pub named : NamesPage client.values (address / PAGE_BYTES) page
  pub strokes : List StrokeValue
  pub there : client.strokes page ≡ Some strokes
  pub shows : take (length bytes) (drop (address % PAGE_BYTES) (left_by strokes)) ≡ bytes

-- These bytes, at least one, stand in a window at this address, as a stroke of this name, if one entry has them all.
pub record Stands (client : PortState) (name : StrokeName) (address : ℕ) (bytes : List ℕ) : Type 0 where
  pub some : 1 ≤ length bytes
  pub stand : address % PAGE_BYTES + length bytes ≤ PAGE_BYTES → StandAt client address bytes
  pub laid : address % PAGE_BYTES + length bytes ≤ PAGE_BYTES → IsStroke client name address bytes
  pub shows : address % PAGE_BYTES + length bytes ≤ PAGE_BYTES → IsShown client address bytes

-- what is known of a window by what stands in it alone: that a table which was fetched stood there
abbrev pub stood : PortState → Hearing
stood client (fetched address at bytes) = IsReadWhole client address bytes
stood client news = ⊥

-- The bytes are those of an answer to a request with this tag that asks this, which does this once its entry is put, where this login is
-- on (0: none) and one that is granted has so many requests: a login is rejected for the first cause that stands.
abbrev pub IsAnswerTo : (current granted tag : ℕ) → Order → Outcome → List ℕ → Type 0
IsAnswerTo current granted tag order (outcomes.Granted number) bytes = (login : LoginReq) × (order ≡ orders.Login login) × GrantsLogin bytes login.tag granted
IsAnswerTo current granted tag order outcomes.Rejected bytes = (login : LoginReq) × (order ≡ orders.Login login) × IsRejection current login bytes
IsAnswerTo current granted tag order (outcomes.Served row) bytes = Answers bytes (λ r. (r.tag ≡ tag) × (r.delta ≡ 1))

-- An answer at this stage is such a one, and is not yet copied.
abbrev pub HasAnswerAt : LoginState → Request → Stage → List ℕ → Type 0
HasAnswerAt logins request (stages.Answer outcome) bytes = IsAnswerTo logins.current logins.granted request.tag request.order outcome bytes
HasAnswerAt logins request (stages.Entry outcome) bytes = ⊥
HasAnswerAt logins request stage bytes = ⊤

-- the same of a service
abbrev pub HasAnswer : LoginState → Request → Service → Type 0
HasAnswer logins request service = HasAnswerAt logins request service.stage service.answer.items

-- The entry was put last, if the partner's queue is registered.
abbrev pub IsPutLast : EndState → Entry → Type 0
IsPutLast queue entry = queue.place.partner_registered ≡ true → (front : List PipeRow) × (session : ℕ) × (queue.sent ≡ front ++ record { session = session; entry = entry } ∷ [])

-- A row was added for a task or a command, with the bytes that ask it, and with the answer, if the partner's queue is registered; for a login none was.
pub record AddsAnsweredRow (queue : EndState) (iu answer : List ℕ) (rows rows' : List Served) : Type 0 where
  pub row : Served
  pub added : rows' ≡ rows ++ row ∷ []
  pub iu_is : row.iu ≡ iu
  pub answer_is : queue.place.partner_registered ≡ true → row.answer ≡ answer

abbrev pub LeavesRowOf : Outcome → (queue : EndState) → (iu answer : List ℕ) → (rows rows' : List Served) → Type 0
LeavesRowOf (outcomes.Served place) queue iu answer rows rows' = AddsAnsweredRow queue iu answer rows rows'
LeavesRowOf outcome queue iu answer rows rows' = rows' ≡ rows

-- What is left of a request that was answered by a unit of this name: the answer stands at its address, the entry that says how long it is was put
-- last, its row, if it gets one, was added, and the strokes that were laid bear the answer, or data-in of the row.
pub record LeavesAnswer (current granted : ℕ) (name : UnitId) (asked : Question) (queue : EndState) (old new : PortState) (rows rows' : List Served) : Type 0 where
  pub outcome : Outcome
  pub suits : Suits current asked.order outcome
  pub bytes : List ℕ
  pub answer : IsAnswerTo current granted asked.tag asked.order outcome bytes
  pub put : IsPutLast queue (srp_entry (length bytes) asked.tag)
  pub stands : Stands new (record { who = name; mark = asked.tag }) asked.address bytes
  pub row : LeavesRowOf outcome queue asked.iu bytes rows rows'
  pub lays : BearsWithin (IsOfQuestion (stood old) name asked bytes rows rows') (known_in old) (known_in new)

-- the same of a request, by the logins of its unit
abbrev pub LeavesFirst : Logins → UnitId → Request → EndState → (old new : PortState) → (rows rows' : List Served) → Type 0
LeavesFirst logins name request queue old new rows rows' = LeavesAnswer logins.current logins.granted name (question_of request) queue old new rows rows'

-- What a turn in which nothing is amiss leaves of the first request that is pending once all was heard. A logout is not answered: nothing is
-- laid for it.
pub record LeavesOn (name : UnitId) (unit : Unit) (before : EndState) (words : List Word) (queue : EndState) (old new : PortState) (rows rows' : List Served) : Type 0 where
  pub leaves : (talk : Talk) (request : Request) (rest : List Request) → HearsAll (talk_of unit) (length (taken_now before)) words talk → talk.pending ≡ request ∷ rest
      → request.order ≢ orders.Logout → LeavesAnswer talk.current talk.granted name (question_of request) queue old new rows rows'
  pub out : (talk : Talk) (request : Request) (rest : List Request) → HearsAll (talk_of unit) (length (taken_now before)) words talk → talk.pending ≡ request ∷ rest
      → request.order ≡ orders.Logout → StaysKnown old new
