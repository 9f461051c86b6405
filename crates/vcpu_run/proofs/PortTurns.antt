-- What the lines of LAN units tell, over the units of a partition and the turns of a round.
use Rattle.std.proofs.Common.{◌≡◌, ◌≢◌, ◌⊎◌, inl, inr, length, ℕ, ◌≤◌, ◌==◌, Bool, true, false, List, Some, Result, Ok, Err, IfOk, OnOk, slice_get, slice_set, refl, sym, ◌∙◌, ap, subst, arith}
use Rattle.std.proofs.lemmas.Bool.Decides.{nat_tests}
use Rattle.vio_num.specs.declared.hypervisor.Moved.{Moved}
use Rattle.vio_num.specs.declared.memory.NoMemory.{NoMemory}
use Rattle.vio_num.specs.declared.names.UnitId.{UnitId}
use Rattle.boot_text.specs.declared.plan.Line.{Line}
use Rattle.boot_text.specs.declared.plan.Partition.{Partition}
use Rattle.hcall_table.specs.declared.returned.Returned.{Returned}
use Rattle.unit_region.specs.LinePuts.{StepPuts}
use Rattle.unit_region.specs.declared.step.Step.{Step}
use Rattle.lan_script.specs.PortCounts.{CountsOn, SendsCalled, TakesSome, counts, counts_called}
use Rattle.lan_script.specs.Replayed.{SameBeside, SameReplays, replay_at}
use Rattle.std.specs.List.{Contains}
use Rattle.lan_script.specs.PortReplay.{PortReplay}
use Rattle.lan_script.specs.Targets.{IsTarget, offers_to}
use Rattle.lan_script.specs.Entries.{values_at}
use Rattle.lan_script.specs.Units.{LanValue, to_of}
use Rattle.lan_script.specs.Values.{SameValuesBeside}
use Rattle.lan_script.specs.declared.calls.PortCall.{PortCall}
use Rattle.lan_script.specs.declared.seat.PortSeat.{PortSeat}
use Rattle.vcpu_run.specs.declared.pair.Pair.{Pair}
use Rattle.vcpu_run.specs.declared.script.Script.{Script}
use Rattle.vcpu_run.specs.declared.unit_seat.Seat.{Seat}
use Rattle.vcpu_run.specs.declared.unit_seat.Seat.TheVariants as sits
use Rattle.vcpu_run.specs.Machines.{AreScripts}
use Rattle.vcpu_run.specs.Making.{AreMade, IsMade}
use Rattle.vcpu_run.specs.Ports.{unit_of}
use Rattle.vcpu_run.specs.PortSteps.{AllSilent, AllTake, AreFresh, IsApart, IsBeside, IsIdle, RisesIf, StepRises, TakesOn, TellsStep}
use Rattle.vcpu_run.specs.PortBytes.{StepBytes}
use Rattle.vcpu_run.specs.PortPosts.{StepFits}
use Rattle.vcpu_run.specs.PortRegions.{LaysLogged, RegionsKept, StepShown, StepWrites}
use Rattle.vcpu_run.specs.PortReplays.{IsStill, OffersSince, StepReplays, sent_at}
use Rattle.vcpu_run.specs.PortWords.{PortsTell, TellsPorts}
use Rattle.lan_switch.specs.Switch.{port_of}
use Rattle.lan_script.proofs.Laws.{grows_same, grows_then}
use Rattle.vcpu_run.proofs.PortKept.{kept_same, kept_then}
use Rattle.vcpu_run.proofs.Listed.{each_set, held}
use Rattle.vcpu_run.proofs.PortRising.{call_beside, takes_beside, takes_own}
use Rattle.vcpu_run.proofs.PortAddresses.{silent_here, silent_then}
use Rattle.vcpu_run.proofs.PortTelling.{idle_takes}
use Rattle.vcpu_run.proofs.PortsTelling.{rest_tells}

since_then : (old mid new : LanValue) (unit : UnitId) → replay_at mid unit ≡ replay_at old unit → OffersSince old mid unit → OffersSince mid new unit
    → OffersSince old new unit
since_then old mid new unit same a b sender other row kept = by (b sender other row kept)
  where
    by : Contains (sent_at mid sender) row ⊎ (1 ≤ length (offers_to unit row.offers) → IsTarget (replay_at mid unit) (to_of row))
        → Contains (sent_at old sender) row ⊎ (1 ≤ length (offers_to unit row.offers) → IsTarget (replay_at old unit) (to_of row))
    by (inl was) = a sender other row was
    by (inr fits) = inr (λ some. subst (λ (r : PortReplay). IsTarget r (to_of row)) same (fits some))

still_then : (old mid new : LanValue) (unit : UnitId) → IsStill old mid unit → IsStill mid new unit → IsStill old new unit
still_then old mid new unit a b = record {
  seats = b.seats ∙ a.seats;
  replay = b.replay ∙ a.replay;
  values = λ e. b.values e ∙ a.values e;
  rows = b.rows ∙ a.rows;
  grows = grows_then (port_of old.stations unit) (port_of mid.stations unit) (port_of new.stations unit) a.grows b.grows;
  offered = since_then old mid new unit a.replay a.offered b.offered;
  regions = kept_then unit old mid new a.regions b.regions;
}

still_same : (lan : LanValue) (unit : UnitId) → IsStill lan lan unit
still_same lan unit = record { seats = refl; replay = refl; values = λ e. refl; rows = refl; grows = grows_same (port_of lan.stations unit); offered = λ sender other row kept. inl kept; regions = kept_same lan unit }

idle_then : (old mid new : LanValue) (unit : UnitId) → IsIdle old mid unit → IsIdle mid new unit → IsIdle old new unit
idle_then old mid new unit a b = record {
  frames = b.frames ∙ a.frames;
  counts = b.counts ∙ a.counts;
  still = still_then old mid new unit a.still b.still;
}

pub silent_on : (old mid new : LanValue) → AllSilent old mid → AllSilent mid new → AllSilent old new
silent_on old mid new a b unit = silent_then old mid new unit (a unit) (b unit)

pub silent_same : (lan : LanValue) → AllSilent lan lan
silent_same lan unit = silent_here lan unit

pub idle_same : (lan : LanValue) (unit : UnitId) → IsIdle lan lan unit
idle_same lan unit = record { frames = refl; counts = refl; still = still_same lan unit }

pub apart_on : (partition : ℕ) (old mid new : LanValue) → IsApart partition old mid → IsApart partition mid new → IsApart partition old new
apart_on partition old mid new a b unit other = idle_then old mid new unit (a unit other) (b unit other)

pub apart_as : (partition : ℕ) (old new new' : LanValue) → new' ≡ new → IsApart partition old new → IsApart partition old new'
apart_as partition old new new' same apart = subst (λ (l : LanValue). IsApart partition old l) (sym same) apart

pub takes_on : (partition : ℕ) (old mid new : LanValue) → AllTake partition old mid → AllTake partition mid new → AllTake partition old new
takes_on partition old mid new a b u = record {
  frames = (b u).frames ∙ (a u).frames;
  posts = (b u).posts ∙ (a u).posts;
  taken = omega (arith, (a u).taken, (b u).taken);
  still = still_then old mid new (unit_of partition u) (a u).still (b u).still;
}

-- what is done at one port of a partition alone leaves those of others
pub beside_apart : (partition u : ℕ) (old new : LanValue) → IsBeside (unit_of partition u) old new → IsApart partition old new
beside_apart partition u old new beside unit other = beside unit (λ e. other (ap (λ (id : UnitId). id.partition) e))

other_of : (partition u k : ℕ) → (u == k) ≡ false → unit_of partition u ≢ unit_of partition k
other_of partition u k e same = grind (arith, nat_tests, e, ap (λ (id : UnitId). id.unit) same)

same_of : (u k : ℕ) → (u == k) ≡ true → u ≡ k
same_of u k e = grind (arith, nat_tests, e)

pub one_takes : (partition k : ℕ) (old new : LanValue) → TakesOn old new (unit_of partition k) → IsBeside (unit_of partition k) old new → AllTake partition old new
one_takes partition k old new takes beside u = by (u == k) refl
  where
    by : (b : Bool) → (u == k) ≡ b → TakesOn old new (unit_of partition u)
    by true e = subst (λ n. TakesOn old new (unit_of partition n)) (sym (same_of u k e)) takes
    by false e = idle_takes old new (unit_of partition u) (beside (unit_of partition u) (other_of partition u k e))

-- a step of a line at a port is one of it alone
pub port_steps : (partition : ℕ) (seats : List Seat) (line : Line) (done done' : ℕ) (old new : LanValue) (step : Step)
    → StepRises (unit_of partition line.unit) line.verb done done' old new step → StepReplays (unit_of partition line.unit) line.verb done old new step
    → StepFits (unit_of partition line.unit) line.verb done done' old new step → StepBytes (unit_of partition line.unit) line.verb old new step
    → StepPuts line.verb step (values_at old (unit_of partition line.unit)) (values_at new (unit_of partition line.unit))
    → StepShown (unit_of partition line.unit) line new step → LaysLogged (unit_of partition line.unit) line.number old new
    → StepWrites (unit_of partition line.unit) line old new step
    → IsBeside (unit_of partition line.unit) old new → TellsStep partition seats line done done' old new step
port_steps partition seats line done done' old new step rises replays fits bytes puts shows marks writes beside = record {
  rises = λ u sat. by u (line.unit == u) refl;
  shows = λ u sat e. subst (λ n. StepShown (unit_of partition n) line new step) e shows;
  marks = λ u sat e. subst (λ n. LaysLogged (unit_of partition n) line.number old new) e marks;
  writes = λ u sat e. subst (λ n. StepWrites (unit_of partition n) line old new step) e writes;
}
  where
    by : (u : ℕ) (b : Bool) → (line.unit == u) ≡ b → RisesIf b (unit_of partition u) line.verb done done' old new step
    by u true e = (
      subst (λ n. StepRises (unit_of partition n) line.verb done done' old new step) (same_of line.unit u e) rises,
      subst (λ n. StepReplays (unit_of partition n) line.verb done old new step) (same_of line.unit u e) replays,
      subst (λ n. StepFits (unit_of partition n) line.verb done done' old new step) (same_of line.unit u e) fits,
      subst (λ n. StepBytes (unit_of partition n) line.verb old new step) (same_of line.unit u e) bytes,
      subst (λ n. StepPuts line.verb step (values_at old (unit_of partition n)) (values_at new (unit_of partition n))) (same_of line.unit u e) puts,
    )
    by u false e = beside (unit_of partition u) (λ same. other_of partition line.unit u e (sym same))

-- one at a client is one of no port
pub client_steps : (partition k : ℕ) (seats : List Seat) (line : Line) (done done' : ℕ) (lan : LanValue) (step : Step)
    → slice_get seats line.unit ≡ Some (sits.Client k) → TellsStep partition seats line done done' lan lan step
client_steps partition k seats line done done' lan step at = record {
  rises = λ u sat. by u sat (line.unit == u) refl;
  shows = λ u sat e. absurd (no (sym at ∙ (ap (λ n. slice_get seats n) e ∙ sat)));
  marks = λ u sat e. absurd (no (sym at ∙ (ap (λ n. slice_get seats n) e ∙ sat)));
  writes = λ u sat e. absurd (no (sym at ∙ (ap (λ n. slice_get seats n) e ∙ sat)));
}
  where
    no : Some (sits.Client k) ≡ Some sits.Port → ⊥
    no e = cc (e)

    by : (u : ℕ) → slice_get seats u ≡ Some sits.Port → (b : Bool) → (line.unit == u) ≡ b
        → RisesIf b (unit_of partition u) line.verb done done' lan lan step
    by u sat true e = absurd (no (sym at ∙ (ap (λ n. slice_get seats n) (same_of line.unit u e) ∙ sat)))
    by u sat false e = idle_same lan (unit_of partition u)

-- a raw call at a port
pub call_apart : (partition u : ℕ) (call : PortCall) (r : Result Returned NoMemory) (old new : LanValue) → new.seats ≡ old.seats
    → IfOk r (λ returned. CountsOn (unit_of partition u) (counts 0 0) (counts_called call returned.code) old new)
    → IfOk r (λ returned. SendsCalled (unit_of partition u) call returned.code old new) → OnOk r (SameBeside (unit_of partition u) old new)
    → OnOk r (SameValuesBeside (unit_of partition u) old new) → OnOk r (RegionsKept old new) → OnOk r (IsApart partition old new)
call_apart partition u call (Ok returned) old new seats counted sent replays values regions =
    beside_apart partition u old new
    (call_beside (unit_of partition u) call returned.code (counts 0 0) (counts_called call returned.code) old new seats sent counted replays values
    regions)
call_apart partition u call (Err memory) old new seats counted sent replays values regions = tt

-- the turn of one script
turned : (lan lan' : LanValue) (pairs : List Pair) (ports : List PortSeat) (scripts : List Script) (i : ℕ) (script later : Script)
    → slice_get scripts i ≡ Some script → AreScripts pairs ports scripts → IsApart script.partition lan lan' → TellsPorts lan' later
    → PortsTell lan scripts → PortsTell lan' (slice_set scripts i later)
turned lan lan' pairs ports scripts i script later found are apart here tells =
    each_set (λ j other. TellsPorts lan' other) scripts i later (λ j other there beside. apart_tells other (not_it j other there beside) (tells j other there)) here
  where
    not_it : (j : ℕ) (other : Script) → slice_get scripts j ≡ Some other → j ≢ i → other.partition ≢ script.partition
    not_it j other there beside e = beside (sym (are j other there).number ∙ (e ∙ (are i script found).number))

    apart_tells : (other : Script) → other.partition ≢ script.partition → TellsPorts lan other → TellsPorts lan' other
    apart_tells other distinct =
        rest_tells lan lan' other (λ u. idle_takes lan lan' (unit_of other.partition u) (apart (unit_of other.partition u) distinct))

pub ports_turned : (lan lan' : LanValue) (pairs : List Pair) (ports : List PortSeat) (scripts : List Script) (i : ℕ) (script later : Script) (r : Result Moved NoMemory)
    → slice_get scripts i ≡ Some script → AreScripts pairs ports scripts → OnOk r (IsApart script.partition lan lan')
    → OnOk r (TellsPorts lan script → TellsPorts lan' later) → OnOk r (PortsTell lan scripts → PortsTell lan' (slice_set scripts i later))
ports_turned lan lan' pairs ports scripts i script later (Ok moved) found are apart kept = λ tells.
    turned lan lan' pairs ports scripts i script later found are apart (kept (tells i script found)) tells
ports_turned lan lan' pairs ports scripts i script later (Err memory) found are apart kept = tt

-- a line that waited and was ended
pub ports_ended : (lan : LanValue) (scripts : List Script) (i : ℕ) (later : Script) → PortsTell lan scripts → TellsPorts lan later
    → PortsTell lan (slice_set scripts i later)
ports_ended lan scripts i later tells here = each_set (λ j other. TellsPorts lan other) scripts i later (λ j other there beside. tells j other there) here

pub ports_made : (lan : LanValue) (partitions : List Partition) (scripts : List Script) → AreFresh lan → AreMade partitions scripts → PortsTell lan scripts
ports_made lan partitions scripts fresh made i script found =
    (held (λ partition. IsMade partition i script) (slice_get partitions i) (made.each i script found)).2.told lan fresh

-- the same of results
pub port_told : (partition : ℕ) (seats : List Seat) (line : Line) (done done' : ℕ) (old new : LanValue) (r : Result Step NoMemory)
    → IfOk r (StepRises (unit_of partition line.unit) line.verb done done' old new) → IfOk r (StepReplays (unit_of partition line.unit) line.verb done old new)
    → IfOk r (StepFits (unit_of partition line.unit) line.verb done done' old new) → IfOk r (StepBytes (unit_of partition line.unit) line.verb old new)
    → IfOk r (λ step. StepPuts line.verb step (values_at old (unit_of partition line.unit)) (values_at new (unit_of partition line.unit)))
    → IfOk r (StepShown (unit_of partition line.unit) line new) → OnOk r (LaysLogged (unit_of partition line.unit) line.number old new)
    → IfOk r (StepWrites (unit_of partition line.unit) line old new) → OnOk r (IsBeside (unit_of partition line.unit) old new) → IfOk r (TellsStep partition seats line done done' old new)
port_told partition seats line done done' old new (Ok step) rises replays fits bytes puts shows marks writes beside =
    port_steps partition seats line done done' old new step rises replays fits bytes puts shows marks writes beside
port_told partition seats line done done' old new (Err memory) rises replays fits bytes puts shows marks writes beside = tt

pub port_apart : (partition u : ℕ) (old new : LanValue) (r : Result Step NoMemory) → OnOk r (IsBeside (unit_of partition u) old new)
    → OnOk r (IsApart partition old new)
port_apart partition u old new (Ok step) beside = beside_apart partition u old new beside
port_apart partition u old new (Err memory) beside = tt

pub client_told : (partition k : ℕ) (seats : List Seat) (line : Line) (done done' : ℕ) (lan : LanValue) (r : Result Step NoMemory)
    → slice_get seats line.unit ≡ Some (sits.Client k) → IfOk r (TellsStep partition seats line done done' lan lan)
client_told partition k seats line done done' lan (Ok step) at = client_steps partition k seats line done done' lan step at
client_told partition k seats line done done' lan (Err memory) at = tt

pub port_rest : (unit : UnitId) (r : Result Moved NoMemory) (old new : LanValue) → new.seats ≡ old.seats → new.frames ≡ old.frames
    → OnOk r (TakesSome unit old new) → OnOk r (SameReplays old new) → new.places ≡ old.places → OnOk r (TakesOn old new unit)
port_rest unit (Ok moved) old new seats frames taken replays places = takes_own unit old new seats frames taken replays places
port_rest unit (Err memory) old new seats frames taken replays places = tt

pub rest_beside : (unit : UnitId) (r : Result Moved NoMemory) (old new : LanValue) → new.seats ≡ old.seats → new.frames ≡ old.frames
    → OnOk r (TakesSome unit old new) → OnOk r (SameReplays old new) → new.places ≡ old.places → OnOk r (IsBeside unit old new)
rest_beside unit (Ok moved) old new seats frames taken replays places = takes_beside unit old new seats frames taken replays places
rest_beside unit (Err memory) old new seats frames taken replays places = tt
