-- The ports of a partition that fails: they are closed one after the other, and stay closed.
use Rattle.std.proofs.Common.{◌≡◌, ◌≢◌, ◌↔◌, ◌∙◌, ◌⊎◌, inl, inr, ℕ, ◌+◌, ◌<◌, ◌≤◌, Bool, false, true, List, [], ◌∷◌, ◌++◌, Option, Some, None, IsSome, IsTrue, Result, Ok, Err, IfOk, OnOk, length, slice_get, refl, sym, ap, subst, arith}
use Rattle.std.proofs.lemmas.Option.{slice_get_within}
use Rattle.vio_num.specs.declared.memory.NoMemory.{NoMemory}
use Rattle.vio_num.specs.declared.names.UnitId.{UnitId}
use Rattle.boot_text.specs.declared.plan.Line.{Line}
use Rattle.vio_trace.specs.declared.rows.LogRow.{LogRow}
use Rattle.lan_script.specs.OwnMac.{MovesMac}
use Rattle.lan_script.specs.PortCounts.{SameCounts}
use Rattle.lan_script.specs.PortReplay.{PortReplay}
use Rattle.lan_script.specs.Replayed.{SameBeside, replay_at}
use Rattle.lan_script.specs.Units.{IsOpenAt, LanValue}
use Rattle.vcpu_run.specs.declared.pair.Pair.{Pair}
use Rattle.vcpu_run.specs.declared.script.Script.{Script}
use Rattle.vcpu_run.specs.declared.unit_seat.Seat.{Seat}
use Rattle.vcpu_run.specs.declared.unit_seat.Seat.TheVariants as places
use Rattle.vcpu_run.specs.FailedPorts.{AreClosedTo, IsClosedAt, IsPortClosed, PortsClosed, TellsClosed}
use Rattle.vcpu_run.specs.FailedShut.{IsFailed, IsShutAt}
use Rattle.vcpu_run.specs.Ports.{unit_of}
use Rattle.vcpu_run.specs.PortSteps.{AllSilent, AllTake, IsBeside}
use Rattle.vcpu_run.specs.TakenScripts.{AllGive}
use Rattle.vcpu_run.specs.Works.{fails}
use Rattle.lan_script.proofs.Resting.{on_open}
use Rattle.vcpu_run.proofs.Driving.{same_or}
use Rattle.vcpu_run.proofs.FailedTold.{none_ended, script_more}
use Rattle.vcpu_run.proofs.GivesAll.{all_give_same}
use Rattle.vcpu_run.proofs.PortRising.{all_silent}

no_some : {A : Type 0} (o : Option A) → (IsSome o → ⊥) → o ≡ None
no_some None off = refl
no_some (Some x) off = absurd (off refl)

-- a port that is not open
pub closed_off : (lan : LanValue) (unit : UnitId) → (IsOpenAt lan unit → ⊥) → IsPortClosed lan unit
closed_off lan unit off = no_some (replay_at lan unit).settings (λ on. off (on_open lan unit on))

-- A call that frees a port tells whether it is closed, and does nothing else of which lines tell, nor anything to clients.
pub port_closes : (r : Result Bool NoMemory) (unit : UnitId) (seat : Seat) (lan : LanValue) → IfOk r (λ closed. IsTrue closed ↔ (¬ IsOpenAt lan unit))
    → IfOk r (λ done. done ≡ true → IsClosedAt unit seat lan)
port_closes (Ok closed) unit seat lan is = λ done at. closed_off lan unit (is.0 done)
port_closes (Err memory) unit seat lan is = tt

pub closes_silent : (own : UnitId) (old new : LanValue) → SameBeside own old new → MovesMac None (replay_at old own) (replay_at new own) → new.seats ≡ old.seats → new.frames ≡ old.frames
    → SameCounts old new → new.places ≡ old.places → AllSilent old new
closes_silent own old new beside mac seats frames same places = all_silent own old new seats frames same beside mac places

pub port_gives : (r : Result Bool NoMemory) (pairs : List Pair) → OnOk r (AllGive pairs pairs)
port_gives (Ok closed) pairs = all_give_same pairs
port_gives (Err memory) pairs = tt

pub port_shut : (r : Result Bool NoMemory) (seat : Seat) (pairs : List Pair) → seat ≡ places.Port → IfOk r (λ done. done ≡ true → IsShutAt seat pairs)
port_shut (Ok closed) seat pairs is = λ done k at. absurd (cc (is, at))
port_shut (Err memory) seat pairs is = tt

-- it stands in its replay as before
pub closed_still : (old new : LanValue) (unit : UnitId) → replay_at new unit ≡ replay_at old unit → IsPortClosed old unit → IsPortClosed new unit
closed_still old new unit same closed = ap (λ (now : PortReplay). now.settings) same ∙ closed

-- a unit more
pub closed_next : (partition : ℕ) (seats : List Seat) (i : ℕ) (seat : Seat) (old new : LanValue) → slice_get seats i ≡ Some seat → IsBeside (unit_of partition i) old new
    → IsClosedAt (unit_of partition i) seat new → AreClosedTo partition i seats old → AreClosedTo partition (i + 1) seats new
closed_next partition seats i seat old new there beside here before unit below at = by (same_or unit i)
  where
    seat_is : (a b : Seat) → Some a ≡ Some b → a ≡ b
    seat_is a b e = cc (e)

    by : (unit ≡ i) ⊎ (unit ≢ i) → IsPortClosed new (unit_of partition unit)
    by (inl e) = subst (λ (n : ℕ). IsPortClosed new (unit_of partition n)) (sym e) (here (seat_is seat places.Port (sym there ∙ (ap (slice_get seats) (sym e) ∙ at))))
    by (inr apart) =
        closed_still old new (unit_of partition unit) (beside (unit_of partition unit) (λ e. apart (ap (λ (id : UnitId). id.unit) e))).still.replay
        (before unit (omega (arith, below, apart)) at)

pub closed_all : (partition : ℕ) (seats : List Seat) (count : ℕ) (lan : LanValue) → length seats ≤ count → AreClosedTo partition count seats lan → PortsClosed partition seats lan
closed_all partition seats count lan all closed unit at =
    let less : unit < length seats = slice_get_within seats unit places.Port at in
    closed unit (omega (arith, less, all)) at

pub closed_before : (partition : ℕ) (seats : List Seat) (lan : LanValue) → AreClosedTo partition 0 seats lan
closed_before partition seats lan unit below at = absurd (omega (arith, below))

-- THE PART OF WHAT LINES TELL OF PORTS -------------------------------------------------------------

-- no line that ended fails the partition
none_closed : (lan : LanValue) (script : Script) → ¬ IsFailed script → TellsClosed lan script
none_closed lan script none = record { going = λ line there. none; closed = λ had. absurd (none had) }

pub closes_fresh : (lan : LanValue) (script : Script) → script.logs.items ≡ [] → TellsClosed lan script
closes_fresh lan script logs = none_closed lan script (none_ended script.lines.now (length script.logs.items) (ap length logs))

-- a line is left, and waits still
pub closes_wait : (lan lan' : LanValue) (script script' : Script) (line : Line) → slice_get script.lines.now script.at ≡ Some line
    → script' ≡ record script { progress = script'.progress } → TellsClosed lan script → TellsClosed lan' script'
closes_wait lan lan' script script' line found same tells =
    subst (λ (s : Script). TellsClosed lan' s) (sym same) (none_closed lan' (record script { progress = script'.progress }) (tells.going line found))

-- it ended, and does not fail the partition
pub closes_step : (lan lan' : LanValue) (script ended : Script) (line : Line) (row : LogRow) → slice_get script.lines.now script.at ≡ Some line
    → length script.logs.items ≡ script.at → ended.lines ≡ script.lines → ended.logs.items ≡ script.logs.items ++ row ∷ [] → fails line.verb ≡ false
    → TellsClosed lan script → TellsClosed lan' ended
closes_step lan lan' script ended line row found reached lines logs other tells =
    none_closed lan' ended (script_more script ended line row found other reached lines logs (tells.going line found))

-- it failed the partition, and none is left
pub closes_failed : (lan : LanValue) (script ended : Script) → ended.at ≡ length ended.lines.now → ended.partition ≡ script.partition → ended.seats ≡ script.seats
    → PortsClosed script.partition script.seats.items lan → TellsClosed lan ended
closes_failed lan script ended over partition seats closed = record {
  going = λ line there.
      let less : ended.at < length ended.lines.now = slice_get_within ended.lines.now ended.at line there in
      absurd (omega (arith, less, over));
  closed = λ had.
      subst (λ (p : ℕ). PortsClosed p ended.seats.items lan) (sym partition)
      (subst (λ ss. PortsClosed script.partition ss.items lan) (sym seats) closed);
}

-- nothing but frames was taken
pub closes_rest : (lan lan' : LanValue) (script : Script) → AllTake script.partition lan lan' → TellsClosed lan script → TellsClosed lan' script
closes_rest lan lan' script takes tells = record {
  going = tells.going;
  closed = λ had unit at. closed_still lan lan' (unit_of script.partition unit) (takes unit).still.replay (tells.closed had unit at);
}
