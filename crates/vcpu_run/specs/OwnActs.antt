-- What a client does beside a server unit that stands still, whose session is over, or was: what the unit sees of that, and that this stays so.
use Rattle.std.specs.Prelude.{◌≡◌, ◌≢◌, ◌⊎◌, ◌++◌, ◌&&◌, ℕ, All, Bool, true, false, IfSome, List, [], ◌∷◌, None}
use Rattle.vio_num.specs.Entry.{is_srp_entry}
use Rattle.vio_num.specs.declared.entry.Entry.{Entry}
use Rattle.crq_session.specs.EndState.{OnlySends, OnlyTakes}
use Rattle.crq_session.specs.declared.handshake.Handshake.TheVariants.{Down}
use Rattle.tce_window.specs.PortState.{OnlyReads, OnlyWrites}
use Rattle.block_server.specs.Closings.{is_event}
use Rattle.block_server.specs.Doings.{Doing, rows_to}
use Rattle.vscsi_client.specs.Ports.{Ports}
use Rattle.vscsi_client.specs.State.{ClientState}
use Rattle.vscsi_client.specs.declared.stage.Stage.TheVariants.{Idle}
use Rattle.vcpu_run.specs.Acts.{Acting, TakesOnce}
use Rattle.vcpu_run.specs.OwnOver.{IsOver}
use Rattle.vcpu_run.specs.PlainNoted.{NotesLaid}
use Rattle.vcpu_run.specs.PlainTalk.{IsOwnWindow}
use Rattle.vcpu_run.specs.declared.taking.Took.{Took}

-- the unit as a client left it at its ports, which put these into the unit's queue
abbrev pub left_at : Doing → Ports → List Entry → Doing
left_at d at entries = record d {
  coming = d.coming ++ entries;
  client = at.own;
  partner = at.crq.registered;
  reaches = at.crq.place.partner_registered && at.crq.registered;
  to = at.crq.last_session;
}

-- Nobody else has a hand in the client's ports, and the unit sees them so. The client's queue keeps nothing where it is registered, and else an
-- event at most.
pub record IsSeenAt (d : Doing) (at : Ports) : Type 0 where
  pub alone : at.crq_shared ≡ false
  pub apart : at.own_shared ≡ false
  pub window : d.client ≡ at.own
  pub received : at.crq.place.received ≡ d.sent
  pub on : d.handshake ≢ Down → at.crq.place.partner_registered ≡ true
  pub down : d.handshake ≡ Down → at.crq.place.partner_registered ≡ false
  pub usable : IsOwnWindow at.own
  pub idle : at.crq.registered ≡ true → at.crq.kept ≡ None
  pub events : IfSome at.crq.kept (λ event. is_event event ≡ true)

-- What the client put into the unit's queue is to come to the unit behind all that was, in its session.
pub record RestsAt (d d' : Doing) (old new : Ports) : Type 0 where
  pub entries : List Entry
  pub put : new.crq.sent ≡ old.crq.sent ++ rows_to old.crq.counts.partner_session entries
  pub reached : (entries ≡ []) ⊎ (old.crq.place.partner_registered ≡ true)
  pub session : new.crq.counts.partner_session ≡ old.crq.counts.partner_session
  pub place : new.crq.place ≡ old.crq.place
  pub is : d' ≡ left_at d new entries

-- The session of the unit is over, or was, behind what the client did.
pub record StaysOver (granted : ℕ) (failed : Bool) (d : Doing) (s : ClientState) (old new : Ports) : Type 0 where
  pub left : Doing
  pub rests : RestsAt d left old new
  pub seen : IsSeenAt left new
  pub over : IsOver granted failed left s new.crq

-- Between a client's calls no entry is held, what is kept are answers, and a logout is awaited only where no login is on.
pub record IsSettled (s : ClientState) : Type 0 where
  pub held : s.held ≡ None
  pub kept : All (λ (entry : Entry). is_srp_entry entry ≡ true) s.kept
  pub logout : IfSome s.granted (λ _. s.logout ≡ None)

-- Others have as little a hand in the ports as before.
pub record SameHands (old new : Ports) : Type 0 where
  pub crq : new.crq_shared ≡ old.crq_shared
  pub own : new.own_shared ≡ old.own_shared

-- An entry was taken, or none was there, and nothing else was done at the ports.
pub record TakesAlone (took : Took) (old new : Acting) : Type 0 where
  pub once : TakesOnce took old new
  pub crq : OnlyTakes old.ports.crq_shared old.ports.crq new.ports.crq
  pub own : OnlyReads old.ports.own_shared old.ports.own new.ports.own
  pub hands : SameHands old.ports new.ports

-- these, the latest first, one after another
abbrev pub TakesEachAlone : List Took → (old new : Acting) → Type 0
TakesEachAlone [] old new = new ≡ old
TakesEachAlone (took ∷ entries) old new = (middle : Acting) × TakesEachAlone entries old middle × TakesAlone took middle new

-- Something was sent, or was not: what else was done at the ports.
pub record SendsOnly (old new : Ports) : Type 0 where
  pub crq : OnlySends old.crq_shared old.crq new.crq
  pub own : OnlyWrites old.own new.own
  pub hands : SameHands old new

-- Between its calls a client, of whose partition is said whether it failed, and its unit, whose session is over, or was: no login is under way.
pub record RestsOver (granted : ℕ) (failed : Bool) (d : Doing) (at : Acting) : Type 0 where
  pub seen : IsSeenAt d at.ports
  pub over : IsOver granted failed d at.client at.ports.crq
  pub settled : IsSettled at.client
  pub idle : at.client.login ≡ Idle

-- So both are behind what a line did, which noted what another unit laid.
pub record GoesOver (granted : ℕ) (failed : Bool) (d : Doing) (old new : Acting) : Type 0 where
  pub over : StaysOver granted failed d new.client old.ports new.ports
  pub settled : IsSettled new.client
  pub idle : new.client.login ≡ Idle
  pub noted : NotesLaid new.ports.own.place.unit new.ports.own.strokes old.answers new.answers
