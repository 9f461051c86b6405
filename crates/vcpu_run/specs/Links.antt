-- What is so of the two queues of a pair's link where nothing is done at them.
use Rattle.std.specs.Prelude.{◌≡◌, ◌⊎◌, ℕ, ◌+◌, ◌<◌, Bool, true, false, List, [], Option, Some, None, IfNone, IfSome, IsSomeAnd, length, map, slice_get}
use Rattle.block_server.specs.Ready.{AgreesAt, HasNothing}
use Rattle.block_server.specs.declared.unit.Unit.{Unit}
use Rattle.crq_ring.specs.Sessions.{of_session}
use Rattle.crq_ring.specs.declared.rows.PipeRow.{PipeRow}
use Rattle.crq_session.specs.declared.link.PlainLink.{PlainLink}
use Rattle.crq_session.specs.declared.side.PlainSide.{PlainSide}
use Rattle.crq_session.specs.Answered.{received_now, taken_now}
use Rattle.crq_session.specs.EndState.{EndState}
use Rattle.crq_session.specs.PlainState.{end_of, side_of}
use Rattle.vcpu_run.specs.declared.pair.Pair.{Pair}
use Rattle.vcpu_run.specs.declared.script.Script.{Script}
use Rattle.vcpu_run.specs.declared.unit_seat.Seat.{Seat}
use Rattle.vcpu_run.specs.declared.unit_seat.Seat.TheVariants as sits
use Rattle.vcpu_run.specs.Lines.{IsOver}
use Rattle.vcpu_run.specs.Scripts.{are_servers}

-- What a queue holds: its slots, its last session and whether it is registered, and what was put and taken.
pub record QueueState : Type 0 where
  pub slots : ℕ
  pub session : ℕ
  pub registered : Bool
  pub sent : List PipeRow
  pub taken : List PipeRow

abbrev pub queue_state : PlainSide → QueueState
queue_state side = record {
  slots = side.queue.slots;
  session = side.queue.session;
  registered = side.registered;
  sent = side.queue.sent;
  taken = side.queue.taken;
}

-- The queues of a server unit and of its client.
pub record LinkState : Type 0 where
  pub server : QueueState
  pub client : QueueState

abbrev pub link_state : PlainLink → LinkState
link_state link = record { server = queue_state (side_of link true); client = queue_state (side_of link false) }

-- the queues of all pairs
abbrev pub links_of : List Pair → List LinkState
links_of pairs = map (λ pair. link_state pair.link) pairs

-- all entries of the last session were taken
abbrev pub IsAllTaken : QueueState → Type 0
IsAllTaken queue = of_session queue.session queue.sent ≡ of_session queue.session queue.taken

-- The queue is registered, and has as many entries that are not taken as slots.
pub record IsFull (queue : QueueState) : Type 0 where
  pub registered : queue.registered ≡ true
  pub full : length (of_session queue.session queue.sent) ≡ length (of_session queue.session queue.taken) + queue.slots

-- The queue is registered, and all its entries were taken.
pub record IsEmptied (queue : QueueState) : Type 0 where
  pub registered : queue.registered ≡ true
  pub taken : IsAllTaken queue

-- a server unit has nothing to do: no information unit is to be fetched, and no request is pending
abbrev pub AwaitsNone : Option Unit → Type 0
AwaitsNone unit = IsSomeAnd unit HasNothing

-- why a server unit did nothing: its client's queue is full; or its own is empty, and it has nothing to do
abbrev pub ServerWaits : Option Unit → LinkState → Type 0
ServerWaits unit link = IsFull link.client ⊎ (IsEmptied link.server × AwaitsNone unit)

-- why a client without a line did nothing: its queue is not registered, or it is empty
abbrev pub ClientWaits : LinkState → Type 0
ClientWaits link = (link.client.registered ≡ false) ⊎ IsAllTaken link.client

-- each client of these seats, at the link of its pair, did nothing
abbrev pub ClientsWait : List Seat → List LinkState → Type 0
ClientsWait seats links = (u k : ℕ) → slice_get seats u ≡ Some (sits.Client k) → IsSomeAnd (slice_get links k) ClientWaits

-- each server unit did nothing
abbrev pub ServersWait : List Unit → List LinkState → Type 0
ServersWait units links = (k : ℕ) (link : LinkState) → slice_get links k ≡ Some link → ServerWaits (slice_get units k) link

-- the event that a client keeps is the one of before, or it keeps none any more
abbrev pub EventStays : Pair → Pair → Type 0
EventStays old new = ((side_of new.link false).kept ≡ (side_of old.link false).kept) ⊎ ((side_of new.link false).kept ≡ None)

-- the client keeps no event, or the server unit's queue is full
abbrev pub EventWaits : Pair → Type 0
EventWaits pair = ((side_of pair.link false).kept ≡ None) ⊎ IsFull (link_state pair.link).server

-- the same of each client of these seats
abbrev pub EventsWait : List Seat → List Pair → Type 0
EventsWait seats pairs = (u k : ℕ) → slice_get seats u ≡ Some (sits.Client k) → IfSome (slice_get pairs k) EventWaits

-- Nothing was done at any link, and no client keeps an event anew.
pub record LinksRest (old new : List Pair) : Type 0 where
  pub still : links_of new ≡ links_of old
  pub events : (k : ℕ) (pair : Pair) → slice_get new k ≡ Some pair → IfSome (slice_get old k) (λ before. EventStays before pair)

-- Nothing was done at any link, and the clients of these seats did nothing.
pub record SeatsRest (seats : List Seat) (old new : List Pair) : Type 0 where
  pub rest : LinksRest old new
  pub wait : ClientsWait seats (links_of new)

-- The same, and their events wait.
pub record SeatsRestWhole (seats : List Seat) (old new : List Pair) : Type 0 where
  pub seats_rest : SeatsRest seats old new
  pub events : EventsWait seats new

-- Script i, which is over, found nothing to do: each server unit waits, or each of its clients does, and no server unit had a turn.
pub record RestsAt (i : ℕ) (scripts : List Script) (units units' : List Unit) (old new : List Pair) : Type 0 where
  pub servers : (script : Script) → slice_get scripts i ≡ Some script → are_servers script.seats.items ≡ true → ServersWait units' (links_of new)
  pub same : (script : Script) → slice_get scripts i ≡ Some script → are_servers script.seats.items ≡ false → units' ≡ units
  pub clients : (script : Script) → slice_get scripts i ≡ Some script → are_servers script.seats.items ≡ false → SeatsRestWhole script.seats.items old new

-- the first scripts are over
abbrev pub AreOverTo : (count : ℕ) → List Script → Type 0
AreOverTo count scripts = (i : ℕ) (script : Script) → i < count → slice_get scripts i ≡ Some script → IsOver script

-- none of the first scripts that come behind script i is of server units
abbrev pub NoneBehind : (i count : ℕ) → List Script → Type 0
NoneBehind i count scripts =
    (j : ℕ) (script : Script) → i < j → j < count → slice_get scripts j ≡ Some script → are_servers script.seats.items ≡ false

-- The clients of these seats wait, and so do their events.
pub record SeatsWait (seats : List Seat) (pairs : List Pair) : Type 0 where
  pub clients : ClientsWait seats (links_of pairs)
  pub events : EventsWait seats pairs

-- The units of the first scripts wait: the server units, and the clients of each script behind which none of server units comes.
pub record AreIdleTo (count : ℕ) (units : List Unit) (pairs : List Pair) (scripts : List Script) : Type 0 where
  pub servers : (i : ℕ) (script : Script) → i < count → slice_get scripts i ≡ Some script → are_servers script.seats.items ≡ true → ServersWait units (links_of pairs)
  pub clients : (i : ℕ) (script : Script) → i < count → slice_get scripts i ≡ Some script → are_servers script.seats.items ≡ false
      → NoneBehind i count scripts → SeatsWait script.seats.items pairs

-- where the server unit of a pair has no client, the queue in place of that client's is not registered
abbrev pub IsShutAlone : Pair → Type 0
IsShutAlone pair = IfNone pair.driver ((side_of pair.link false).registered ≡ false)

-- Neither queue of a pair is registered, and the client's never was.
pub record IsClosed (pair : Pair) : Type 0 where
  pub server : (side_of pair.link true).registered ≡ false
  pub client : (side_of pair.link false).registered ≡ false
  pub never : (side_of pair.link false).queue.session ≡ 0

abbrev pub AreClosed : List Pair → Type 0
AreClosed pairs = (k : ℕ) (pair : Pair) → slice_get pairs k ≡ Some pair → IsClosed pair

-- The server unit of pair k takes its queue for registered exactly where it is; and the queue in place of a client's is shut.
pub record IsLinked (units : List Unit) (k : ℕ) (pair : Pair) : Type 0 where
  pub agrees : AgreesAt units k (end_of [] pair.link true)
  pub shut : IsShutAlone pair

abbrev pub AreLinked : List Unit → List Pair → Type 0
AreLinked units pairs = (k : ℕ) (pair : Pair) → slice_get pairs k ≡ Some pair → IsLinked units k pair

abbrev pub AreShutAlone : List Pair → Type 0
AreShutAlone pairs = (k : ℕ) (pair : Pair) → slice_get pairs k ≡ Some pair → IsShutAlone pair

-- The units of all scripts wait, and the queue in place of a client's is shut.
pub record AreIdle (units : List Unit) (pairs : List Pair) (scripts : List Script) : Type 0 where
  pub wait : AreIdleTo (length scripts) units pairs scripts
  pub shut : AreShutAlone pairs

-- Nothing was done at an end of a link.
pub record EndStays (old new : EndState) : Type 0 where
  pub place : new.place ≡ old.place
  pub session : new.last_session ≡ old.last_session
  pub registered : new.registered ≡ old.registered
  pub sent : new.sent ≡ old.sent
  pub taken : new.taken ≡ old.taken
  pub partner : new.counts.partner_session ≡ old.counts.partner_session

-- The same, and it keeps the event of before; and its queue was not registered, or all that it had received was taken.
pub record EndRests (old new : EndState) : Type 0 where
  pub stays : EndStays old new
  pub kept : new.kept ≡ old.kept
  pub none : (old.registered ≡ false) ⊎ (received_now old ≡ taken_now old)

-- Nothing was done at the link of a pair, and its client keeps no event anew.
pub record PairRests (old new : Pair) : Type 0 where
  pub still : link_state new.link ≡ link_state old.link
  pub event : EventStays old new
