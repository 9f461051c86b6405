-- What turns leave of scripts.
use Rattle.std.proofs.Common.{◌≡◌, ℕ, List, Some, IsSomeAnd, refl, sym, ◌∙◌, ap, arith, length-set}
use Rattle.std.specs.List.{slice_get, slice_set}
use Rattle.vio_num.specs.declared.names.UnitId.{UnitId}
use Rattle.lan_script.specs.declared.seat.PortSeat.{PortSeat}
use Rattle.vcpu_run.specs.declared.unit_seat.Seat.TheVariants as places
use Rattle.vcpu_run.specs.declared.driver.Driver.{Driver}
use Rattle.vcpu_run.specs.declared.pair.Pair.{Pair}
use Rattle.vcpu_run.specs.declared.script.Script.{Script}
use Rattle.vcpu_run.specs.Machines.{AllRun, AllStay, AreScripts, IsNumbered, Stays}
use Rattle.vcpu_run.specs.Ports.{HasPorts, unit_of}
use Rattle.vcpu_run.specs.Scripts.{IsScript, IsSeat, OnlyRuns}
use Rattle.vcpu_run.proofs.Keeping.{driver_keeps}
use Rattle.vcpu_run.proofs.Listed.{each_on, each_same, each_set, each_then, held, held_is, held_then}

-- a unit's seat is its own as the pairs stay
seat_stays : (partition u k : ℕ) (old new : List Pair) → AllStay old new → IsSeat partition u k old → IsSeat partition u k new
seat_stays partition u k old new stay seat =
    let has : Pair → Type 0 = λ pair. IsSomeAnd pair.driver (λ driver. driver.unit ≡ unit_of partition u) in
    let pair = held has (slice_get old k) seat in
    held_then (Stays pair.0) has (slice_get new k)
    (λ later stays. driver_keeps (unit_of partition u) pair.0.driver later.driver stays.driver pair.2)
    (stay.each k pair.0 pair.1)

script_stays : (old new : List Pair) (script : Script) → AllStay old new → IsScript old script → IsScript new script
script_stays old new script stay is = record {
  seats = λ u k at. seat_stays script.partition u k old new stay (is.seats u k at);
  lines = is.lines;
  in_order = is.in_order;
  at = is.at;
  logs = is.logs;
}

numbered_stays : (old new : List Pair) (ports : List PortSeat) (i : ℕ) (script : Script) → AllStay old new → IsNumbered old ports i script → IsNumbered new ports i script
numbered_stays old new ports i script stay is =
    record { number = is.number; few = is.few; script_is = script_stays old new script stay is.script_is; has_ports = is.has_ports }

-- what the pairs' turns leave of all scripts
pub scripts_stay : (old new : List Pair) (ports : List PortSeat) (scripts : List Script) → AllStay old new → AreScripts old ports scripts → AreScripts new ports scripts
scripts_stay old new ports scripts stay are i script found = numbered_stays old new ports i script stay (are i script found)

ports_run : (ports : List PortSeat) (script later : Script) → OnlyRuns script later → HasPorts ports script → HasPorts ports later
ports_run ports script later rest has = record { few = rw rest.seats has.few; have = rw rest.partition (rw rest.seats has.have) }

numbered_runs : (old new : List Pair) (ports : List PortSeat) (i : ℕ) (script later : Script) → OnlyRuns script later → IsScript new later
    → IsNumbered old ports i script → IsNumbered new ports i later
numbered_runs old new ports i script later rest is before = record {
  number = rest.partition ∙ before.number;
  few = rw rest.seats before.few;
  script_is = is;
  has_ports = ports_run ports script later rest before.has_ports;
}

-- One of the scripts had its turn.
pub script_turned : (old new : List Pair) (ports : List PortSeat) (scripts : List Script) (i : ℕ) (script later : Script) → slice_get scripts i ≡ Some script
    → AllStay old new → OnlyRuns script later → IsScript new later → AreScripts old ports scripts → AreScripts new ports (slice_set scripts i later)
script_turned old new ports scripts i script later found stay rest is are =
    each_set (IsNumbered new ports) scripts i later
    (λ j other there apart. numbered_stays old new ports j other stay (are j other there))
    (numbered_runs old new ports i script later rest is (are i script found))

only_same : (script : Script) → OnlyRuns script script
only_same script = record { partition = refl; lines = refl; seats = refl }

only_then : (a b c : Script) → OnlyRuns a b → OnlyRuns b c → OnlyRuns a c
only_then a b c one two = record {
  partition = two.partition ∙ one.partition;
  lines = two.lines ∙ one.lines;
  seats = two.seats ∙ one.seats;
}

pub run_same : (scripts : List Script) → AllRun scripts scripts
run_same scripts = record { count = refl; each = each_same OnlyRuns scripts only_same }

pub run_then : (a b c : List Script) → AllRun a b → AllRun b c → AllRun a c
run_then a b c one two = record { count = two.count ∙ one.count; each = each_then OnlyRuns a b c only_then one.each two.each }

pub run_one : (scripts : List Script) (i : ℕ) (script later : Script) → slice_get scripts i ≡ Some script → OnlyRuns script later
    → AllRun scripts (slice_set scripts i later)
run_one scripts i script later found rest =
    record { count = length-set scripts i later; each = each_on OnlyRuns scripts i script later only_same found rest }

-- Two clients never sit at one pair.
pub seats_apart : (pairs : List Pair) (ports : List PortSeat) (scripts : List Script) → AreScripts pairs ports scripts → (i j u v k : ℕ) (a b : Script)
    → slice_get scripts i ≡ Some a → slice_get scripts j ≡ Some b → slice_get a.seats.items u ≡ Some (places.Client k) → slice_get b.seats.items v ≡ Some (places.Client k)
    → (i ≡ j) × (u ≡ v)
seats_apart pairs ports scripts are i j u v k a b at_i at_j at_u at_v =
    let one = are i a at_i in
    let two = are j b at_j in
    let has : UnitId → Pair → Type 0 = λ id pair. IsSomeAnd pair.driver (λ driver. driver.unit ≡ id) in
    let pair = held (has (unit_of a.partition u)) (slice_get pairs k) (one.script_is.seats u k at_u) in
    let other = held_is (has (unit_of b.partition v)) (slice_get pairs k) pair.0 pair.1 (two.script_is.seats v k at_v) in
    let driver = held (λ (driver : Driver). driver.unit ≡ unit_of a.partition u) pair.0.driver pair.2 in
    let same : driver.0.unit ≡ unit_of b.partition v = held_is (λ (driver : Driver). driver.unit ≡ unit_of b.partition v) pair.0.driver driver.0 driver.1 other in
    let ids : unit_of a.partition u ≡ unit_of b.partition v = sym driver.2 ∙ same in
    let numbers : a.partition ≡ b.partition = ap (λ (id : UnitId). id.partition) ids in
    (omega (arith, one.number, two.number, numbers), ap (λ (id : UnitId). id.unit) ids)
