-- What is so of a client, and of its server unit whose session was over, once the client took the answer that grants it a login.
use Rattle.std.specs.Prelude.{◌≡◌, ◌≢◌, ◌⊎◌, ◌≤◌, ℕ, Bool, true, false, [], Some, None, min}
use Rattle.crq_session.specs.EndState.{EndState}
use Rattle.crq_session.specs.declared.handshake.Handshake.TheVariants.{Up}
use Rattle.block_server.specs.Doings.{Doing}
use Rattle.block_server.specs.Talk.{to_come}
use Rattle.block_server.specs.declared.service.Stage.TheVariants as stages
use Rattle.vscsi_client.specs.Ports.{Ports}
use Rattle.vscsi_client.specs.State.{ClientState}
use Rattle.vscsi_client.specs.declared.stage.Stage.TheVariants.{Idle}
use Rattle.vscsi_client.specs.Turned.{Site}
use Rattle.vscsi_client.specs.declared.answers.LoginTurn.{LoginTurn}
use Rattle.vscsi_client.specs.declared.answers.LoginTurn.TheVariants as turns
use Rattle.srp_iu.specs.declared.login.TheConstants.{UNABLE_TO_ESTABLISH_CHANNEL}
use Rattle.vcpu_run.specs.OwnActs.{IsSeenAt, IsSettled, RestsAt, StaysOver}
use Rattle.vcpu_run.specs.OwnOver.{IsAware}
use Rattle.vcpu_run.specs.PlainRejected.{HasRejection}
use Rattle.vcpu_run.specs.PlainTalk.{TookNoMore, grants_one}

-- The client has its login, and asked nothing since.
pub record HasLogin (granted : ℕ) (s : ClientState) (own : EndState) : Type 0 where
  pub registered : own.registered ≡ true
  pub none : to_come own ≡ []
  pub handshake : s.handshake ≡ Up
  pub due : s.due ≡ []
  pub kept : s.kept ≡ []
  pub held : s.held ≡ None
  pub outgoing : s.outgoing ≡ []
  pub login : s.login ≡ Idle
  pub logout : s.logout ≡ None
  pub granted_is : s.granted ≡ Some (min granted 200)
  pub tabled : s.tabled ≡ None

-- The unit granted it; nothing is to come to it, and it has nothing to serve.
pub record GrantsLogin (granted : ℕ) (d : Doing) : Type 0 where
  pub current : d.logins.current ≢ 0
  pub grants : d.logins.granted ≡ granted
  pub most : granted ≤ 200
  pub taking : d.taking ≡ true
  pub outstanding : d.outstanding ≡ 0
  pub pending : d.pending ≡ []
  pub stage : d.stage ≡ stages.Start
  pub kept : d.kept ≡ None
  pub coming : d.coming ≡ []
  pub up : d.handshake ≡ Up
  pub going : d.ended ≡ false
  pub event : d.event ≡ None

-- Both talk anew, behind what the client did.
pub record JoinsNow (granted : ℕ) (d : Doing) (s : ClientState) (old new : Ports) : Type 0 where
  pub left : Doing
  pub rests : RestsAt d left old new
  pub seen : IsSeenAt left new
  pub took : TookNoMore new.crq
  pub client : HasLogin granted s new.crq
  pub unit : GrantsLogin granted left

-- WHAT A TURN OF A LOGIN LEAVES -------------------------------------------------------------------

-- The session of the unit is over, or was, behind the turn; the client is between its calls, and is to look at an answer that grants a login only
-- where that was promised.
pub record TurnsOver (promised : Bool) (granted : ℕ) (d : Doing) (a b : Site) : Type 0 where
  pub stays : StaysOver granted false d b.client a.at b.at
  pub settled : IsSettled b.client
  pub fewer : grants_one stays.over.answers ≡ true → promised ≡ true

-- A login that ended so: none is under way, and the client's queue is registered.
pub record TurnEnds (promised : Bool) (granted : ℕ) (d : Doing) (a b : Site) : Type 0 where
  pub over : TurnsOver promised granted d a b
  pub login : b.client.login ≡ Idle
  pub registered : b.at.crq.registered ≡ true

-- So it is but where the turn says that the login was granted, as was promised: then either that is for nothing, and no more is promised, or both
-- talk anew. What rejected it was laid by the unit; a client whose partner is gone forgets all, and so does one whose queue cannot be registered.
abbrev pub TurnLeft : (promised : Bool) (granted : ℕ) → Doing → (a b : Site) → LoginTurn → Type 0
TurnLeft promised granted d a b turns.Again = TurnsOver promised granted d a b
TurnLeft promised granted d a b (turns.Granted credits) = (credits ≡ granted) × (promised ≡ true) × (TurnEnds false granted d a b ⊎ JoinsNow granted d b.client a.at b.at)
TurnLeft promised granted d a b (turns.Rejected reason) = TurnEnds promised granted d a b × ((reason ≡ UNABLE_TO_ESTABLISH_CHANNEL) × HasRejection d.id reason b.at.own.strokes)
TurnLeft promised granted d a b turns.Lost = TurnEnds promised granted d a b × IsAware b.client
TurnLeft promised granted d a b (turns.Busy number held) = TurnsOver promised granted d a b × (IsAware b.client × (b.at.crq.registered ≡ false))
