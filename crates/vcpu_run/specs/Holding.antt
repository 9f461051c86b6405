-- That the queue of a client is registered again behind each reset, in a partition whose lines make no raw call and fail nothing.
use Rattle.std.specs.Prelude.{◌≡◌, ◌⊎◌, ℕ, ◌<◌, ◌≤◌, ◌==◌, ◌&&◌, Bool, true, false, List, Option, Some, None, IfSome, IsSomeAnd, Result, Ok, Err, ⊤, slice_get}
use Rattle.vio_num.specs.declared.hypervisor.Moved.{Moved}
use Rattle.vio_num.specs.declared.hypervisor.Moved.TheVariants.{Quiet}
use Rattle.vio_num.specs.declared.memory.NoMemory.{NoMemory}
use Rattle.boot_text.specs.declared.plan.Line.{Line}
use Rattle.boot_text.specs.declared.verb.Verb.{Verb}
use Rattle.crq_session.specs.EndState.{EndState}
use Rattle.crq_session.specs.PlainState.{side_of}
use Rattle.unit_region.specs.declared.step.Step.{Step}
use Rattle.unit_region.specs.declared.step.Step.TheVariants as steps
use Rattle.vcpu_run.specs.declared.pair.Pair.{Pair}
use Rattle.vcpu_run.specs.declared.script.Progress.{Progress}
use Rattle.vcpu_run.specs.declared.script.Script.{Script}
use Rattle.vcpu_run.specs.declared.unit_seat.Seat.{Seat}
use Rattle.vcpu_run.specs.declared.unit_seat.Seat.TheVariants as sits
use Rattle.vcpu_run.specs.Freed.{IsNotFreed}
use Rattle.vcpu_run.specs.Freeing.{NoneBreaks, is_reset}
use Rattle.vcpu_run.specs.Links.{IsFull, LinkState, link_state, links_of}
use Rattle.vcpu_run.specs.Scripts.{are_servers}
use Rattle.vcpu_run.specs.Telling.{is_freed}

-- whether the current line resets this unit, and freed its queue
abbrev pub is_renewed : (unit : ℕ) → Progress → Option Line → Bool
is_renewed unit p None = false
is_renewed unit p (Some line) = (is_reset line.verb && (line.unit == unit)) && is_freed p

-- the queue of a client is registered, if it ever was, unless the current line freed it
abbrev pub HoldsQueue : (renewed : Bool) → Option Pair → Type 0
HoldsQueue renewed found = (renewed ≡ true) ⊎ IfSome found IsNotFreed

abbrev pub KeepsQueues : List Pair → Script → Type 0
KeepsQueues pairs script = NoneBreaks script.lines.now → (unit k : ℕ) → slice_get script.seats.items unit ≡ Some (sits.Client k)
    → HoldsQueue (is_renewed unit script.progress (slice_get script.lines.now script.at)) (slice_get pairs k)

-- one of the scripts before this number is of server units
abbrev pub HasServersBefore : ℕ → List Script → Type 0
HasServersBefore i scripts = (j : ℕ) × (j < i) × IsSomeAnd (slice_get scripts j) (λ script. are_servers script.seats.items ≡ true)

-- Script i is of no server units, and one before it is.
pub record IsBehindServers (i : ℕ) (script : Script) (scripts : List Script) : Type 0 where
  pub others : are_servers script.seats.items ≡ false
  pub servers : HasServersBefore i scripts

-- the queues of the clients of each such script are kept
abbrev pub KeepQueues : List Pair → List Script → Type 0
KeepQueues pairs scripts = (i : ℕ) (script : Script) → slice_get scripts i ≡ Some script → IsBehindServers i script scripts → KeepsQueues pairs script

-- The queue of a client is not registered, and that of its server unit is full: an event that the client keeps has no room.
pub record IsHeldOff (link : LinkState) : Type 0 where
  pub shut : link.client.registered ≡ false
  pub slots : 1 ≤ link.server.slots
  pub full : IsFull link.server

-- the two queues of a link, as its client's end sees them
abbrev pub link_seen : EndState → LinkState
link_seen end = record {
  server = record {
    slots = end.place.partner_slots;
    session = end.counts.partner_session;
    registered = end.place.partner_registered;
    sent = end.sent;
    taken = end.place.partner_taken;
  };
  client = record {
    slots = end.place.own_slots;
    session = end.last_session;
    registered = end.registered;
    sent = end.place.received;
    taken = end.taken;
  };
}

-- a turn of a login leaves the queue registered, unless it was held off and the login waits
abbrev pub TurnsOpen : (off : Type 0) → (registered : Bool) → Result Step NoMemory → Type 0
TurnsOpen off registered (Ok (steps.Ends outcome)) = registered ≡ true
TurnsOpen off registered (Ok (steps.Waits did)) = (registered ≡ true) ⊎ off
TurnsOpen off registered (Err memory) = ⊤

-- What a step of a reset leaves that waits: it freed the queue, and where it did nothing the queue is registered, or was held off.
pub record WaitsOpen (p : Progress) (off : Type 0) (registered : Bool) (did : Moved) : Type 0 where
  pub freed : is_freed p ≡ true
  pub quiet : did ≡ Quiet → (registered ≡ true) ⊎ off

-- a step of a reset that ends leaves the queue registered
abbrev pub StepsOpen : Verb → Progress → (off : Type 0) → (registered : Bool) → Result Step NoMemory → Type 0
StepsOpen verb p off registered (Ok (steps.Ends outcome)) = is_reset verb ≡ true → registered ≡ true
StepsOpen verb p off registered (Ok (steps.Waits did)) = is_reset verb ≡ true → WaitsOpen p off registered did
StepsOpen verb p off registered (Err memory) = ⊤

-- the same at a pair, at that of a seat, and at that of the client of a line's unit
abbrev pub PairOpen : Verb → Progress → (old new : Pair) → Result Step NoMemory → Type 0
PairOpen verb p old new result = StepsOpen verb p (IsHeldOff (link_state old.link)) (side_of new.link false).registered result

abbrev pub SeatOpen : (seat : ℕ) → Verb → Progress → (old new : List Pair) → Result Step NoMemory → Type 0
SeatOpen seat verb p old new result =
    IfSome (slice_get new seat) (λ pair. StepsOpen verb p (IsSomeAnd (slice_get (links_of old) seat) IsHeldOff) (side_of pair.link false).registered result)

abbrev pub LineOpen : List Seat → Line → Progress → (old new : List Pair) → Result Step NoMemory → Type 0
LineOpen seats line p old new result = (k : ℕ) → slice_get seats line.unit ≡ Some (sits.Client k) → SeatOpen k line.verb p old new result

-- the queue of a client is registered
abbrev pub IsRegistered : Pair → Type 0
IsRegistered pair = (side_of pair.link false).registered ≡ true

-- P of the pair of the client that a reset resets, where it is the current line and no line breaks a queue
abbrev pub AtReset : Script → (P : ℕ → Type 0) → Type 0
AtReset script P = NoneBreaks script.lines.now → (line : Line) (k : ℕ) → slice_get script.lines.now script.at ≡ Some line → is_reset line.verb ≡ true
    → slice_get script.seats.items line.unit ≡ Some (sits.Client k) → P k

-- a reset that is the current line has its queue registered
abbrev pub IsResetOpen : List Pair → Script → Type 0
IsResetOpen pairs script = AtReset script (λ k. IfSome (slice_get pairs k) IsRegistered)

-- it has it so behind a turn that did nothing, or it was held off before
abbrev pub LeavesResetOpen : (old new : List Pair) → Script → Type 0
LeavesResetOpen old new script = AtReset script (λ k. IfSome (slice_get new k) IsRegistered ⊎ IsSomeAnd (slice_get (links_of old) k) IsHeldOff)

-- the resets of each served script of which P is so have their queues registered
abbrev pub AreOpenIf : (P : ℕ → Type 0) → List Pair → List Script → Type 0
AreOpenIf P pairs scripts = (i : ℕ) (script : Script) → P i → slice_get scripts i ≡ Some script → IsBehindServers i script scripts → IsResetOpen pairs script

-- the same of the first scripts
abbrev pub AreOpenTo : (count : ℕ) → List Pair → List Script → Type 0
AreOpenTo count = AreOpenIf (λ i. i < count)

-- no client of these seats is held off
abbrev pub AreNotHeldOff : List Seat → List LinkState → Type 0
AreNotHeldOff seats links = (unit k : ℕ) → slice_get seats unit ≡ Some (sits.Client k) → ¬ (IsSomeAnd (slice_get links k) IsHeldOff)

-- What is so in a round in which nothing moved, before the turn of script n: the resets of the scripts before it have their queues
-- registered, and once a script of server units had its turn, no client of the others is held off.
pub record IsOpenUpTo (n : ℕ) (pairs : List Pair) (scripts : List Script) : Type 0 where
  pub opened : AreOpenTo n pairs scripts
  pub room : (i : ℕ) (script : Script) → n ≤ i → slice_get scripts i ≡ Some script → HasServersBefore n scripts
      → AreNotHeldOff script.seats.items (links_of pairs)
