-- Which logins are granted or rejected: a copy wrote the answer over the request of each (SRP, "SRP_LOGIN_RSP response",
-- "SRP_LOGIN_REJ response").
use Rattle.std.specs.Prelude.{⊤, ◌≡◌, ℕ, true, false, List, ◌∷◌, Some, length}
use Rattle.std.specs.List.{slice_get}
use Rattle.crq_ring.specs.Sessions.{of_session}
use Rattle.crq_ring.specs.declared.rows.PipeRow.{PipeRow}
use Rattle.srp_iu.specs.Grammar.{Spells}
use Rattle.srp_iu.specs.declared.login.LoginReq.{LoginReq}
use Rattle.srp_iu.specs.declared.unit.Iu.TheVariants as units
use Rattle.vio_num.specs.Entry.{is_srp_entry, iu_address, iu_length}
use Rattle.vio_num.specs.declared.entry.Entry.{Entry as QueueEntry}
use Rattle.block_server.specs.Causes.{Hearing, units_at}
use Rattle.block_server.specs.Causes.News.{delivered, fetched}
use Rattle.block_server.specs.Ends.{IsGrantable, IsRejection}
use Rattle.block_server.specs.Judged.{is_login}
use Rattle.block_server.specs.Responses.{GrantsLogin}
use Rattle.block_server.specs.declared.logins.Logins.{Logins}
use Rattle.block_server.specs.declared.request.Order.TheVariants as orders
use Rattle.block_server.specs.declared.request.Request.{Request}
use Rattle.block_server.specs.declared.service.Outcome.TheVariants.{Granted, Rejected, Served}
use Rattle.block_server.specs.declared.service.Stage.{Stage}
use Rattle.block_server.specs.declared.service.Stage.TheVariants.{Answer, Entry}

-- An SRP entry was taken in the session, and has this number there.
pub record IsSrpAt (taken : List PipeRow) (session number : ℕ) (entry : QueueEntry) : Type 0 where
  pub there : slice_get (of_session session taken) number ≡ Some entry
  pub srp : is_srp_entry entry ≡ true

-- A login was granted over its request: an SRP entry of the session was taken, which has this number there; a copy brought
-- its information unit, which asks for a login that may be granted; and a copy wrote over it, under its tag, the response
-- that grants the login so many requests.
pub record IsGrantedOver (Hears : Hearing) (taken : List PipeRow) (session number credits : ℕ) : Type 0 where
  pub entry : QueueEntry
  pub at : IsSrpAt taken session number entry
  pub bytes : List ℕ
  pub long : length bytes ≡ iu_length entry
  pub brought : Hears (fetched (iu_address entry) units_at bytes)
  pub asked : LoginReq
  pub asks : Spells bytes (units.LoginReq asked)
  pub may : IsGrantable 0 asked
  pub answer : List ℕ
  pub grants : GrantsLogin answer asked.tag credits
  pub written : Hears (delivered units_at (iu_address entry) asked.tag answer)

-- A login was rejected over its request: the same of a request that asks for a login, and a copy wrote over it, under its tag,
-- the rejection of the login for the first cause that stands.
pub record IsRejectedOver (Hears : Hearing) (taken : List PipeRow) (session number : ℕ) : Type 0 where
  pub entry : QueueEntry
  pub at : IsSrpAt taken session number entry
  pub bytes : List ℕ
  pub long : length bytes ≡ iu_length entry
  pub brought : Hears (fetched (iu_address entry) units_at bytes)
  pub asked : LoginReq
  pub asks : Spells bytes (units.LoginReq asked)
  -- the login that was on, or 0
  pub current : ℕ
  pub answer : List ℕ
  pub rejects : IsRejection current asked answer
  pub written : Hears (delivered units_at (iu_address entry) asked.tag answer)

-- KEPT BETWEEN TURNS -----------------------------------------------------------------------------

-- what of a unit's logins an offer goes by: how many requests each grants, and the one that is on, or 0
pub record LoginState : Type 0 where
  pub granted : ℕ
  pub current : ℕ

abbrev pub login_state : Logins → LoginState
login_state logins = record { granted = logins.granted; current = logins.current }

-- The oldest request asks for a login that may be granted, and these bytes grant it so many requests.
pub record IsOffered (number credits : ℕ) (answer : List ℕ) (pending : List Request) : Type 0 where
  pub front : Request
  pub rest : List Request
  pub parts : pending ≡ front ∷ rest
  pub number_is : front.number ≡ number
  pub asked : LoginReq
  pub asks : front.order ≡ orders.Login asked
  pub may : IsGrantable 0 asked
  pub grants : GrantsLogin answer asked.tag credits

-- The same, and a copy wrote them over the request.
pub record IsOfferedOver (Hears : Hearing) (number credits : ℕ) (answer : List ℕ) (pending : List Request) : Type 0 where
  pub offered : IsOffered number credits answer pending
  pub written : Hears (delivered units_at offered.front.address offered.front.tag answer)

-- The oldest request asks for a login, and these bytes reject it, while this login is on, or none.
pub record IsRejecting (current : ℕ) (answer : List ℕ) (pending : List Request) : Type 0 where
  pub front : Request
  pub rest : List Request
  pub parts : pending ≡ front ∷ rest
  pub asked : LoginReq
  pub asks : front.order ≡ orders.Login asked
  pub rejects : IsRejection current asked answer

-- The same, and a copy wrote them over the request.
pub record IsRejectingOver (Hears : Hearing) (current : ℕ) (answer : List ℕ) (pending : List Request) : Type 0 where
  pub rejecting : IsRejecting current answer pending
  pub written : Hears (delivered units_at rejecting.front.address rejecting.front.tag answer)

-- The oldest request asks for no login.
pub record HasOtherFront (pending : List Request) : Type 0 where
  pub front : Request
  pub rest : List Request
  pub parts : pending ≡ front ∷ rest
  pub other : is_login front.order ≡ false

-- What is so of a login that is to be granted or rejected, at each stage, and of another request that is to be answered.
abbrev pub HasOffer : Hearing → Stage → LoginState → (answer : List ℕ) → List Request → Type 0
HasOffer Hears (Answer (Granted number)) logins answer pending = IsOffered number logins.granted answer pending
HasOffer Hears (Entry (Granted number)) logins answer pending = IsOfferedOver Hears number logins.granted answer pending
HasOffer Hears (Answer Rejected) logins answer pending = IsRejecting logins.current answer pending
HasOffer Hears (Entry Rejected) logins answer pending = IsRejectingOver Hears logins.current answer pending
HasOffer Hears (Answer (Served row)) logins answer pending = HasOtherFront pending
HasOffer Hears (Entry (Served row)) logins answer pending = HasOtherFront pending
HasOffer Hears _ logins answer pending = ⊤
