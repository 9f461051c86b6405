-- What is so of a machine between the turns of its partitions, and what its pairs, its scripts and its ports have of a plan.
use Rattle.std.specs.Prelude.{◌≡◌, ◌≢◌, ℕ, ◌*◌, ◌≤◌, true, false, List, [], ◌∷◌, Option, Some, None, IsSomeAnd, MatchOption, length, map, suc, zero, if◌then◌else◌}
use Rattle.std.specs.List.{slice_get}
use Rattle.vio_num.specs.Words.{Begins}
use Rattle.vio_num.specs.declared.names.UnitId.{UnitId}
use Rattle.crq_session.specs.PlainState.{side_of}
use Rattle.crq_session.specs.declared.TheConstants.{PAGE_SLOTS}
use Rattle.rdma_copy.specs.declared.copy.CopyRecord.{CopyRecord}
use Rattle.boot_text.specs.SoFar.{has_server}
use Rattle.boot_text.specs.Sound.{unit_at, AreSound, IsClientOf, IsFrom, IsServer}
use Rattle.boot_text.specs.declared.statement.TheConstants.{LEAST_CLIENT_PAGES, MOST_UNIT_PAGES, MOST_QUEUE}
use Rattle.boot_text.specs.declared.plan.Partition.{Partition}
use Rattle.boot_text.specs.declared.plan.UnitPlan.{UnitPlan}
use Rattle.boot_text.specs.declared.plan.UnitPlan.TheVariants as units
use Rattle.lan_script.specs.declared.seat.PortSeat.{PortSeat}
use Rattle.tce_window.specs.PlainPort.{known_of}
use Rattle.vcpu_run.specs.declared.driver.Driver.{Driver}
use Rattle.vcpu_run.specs.declared.pair.ClientSeat.{ClientSeat}
use Rattle.vcpu_run.specs.declared.pair.Pair.{Pair}
use Rattle.vcpu_run.specs.declared.script.Script.{Script}
use Rattle.vcpu_run.specs.declared.unit_seat.Seat.{Seat}
use Rattle.vcpu_run.specs.declared.unit_seat.Seat.TheVariants as sits
use Rattle.vcpu_run.specs.LinesShow.{Sees, seen_at}
use Rattle.vcpu_run.specs.Named.{WindowsAreApart}
use Rattle.vcpu_run.specs.Pairs.{ArePairs}
use Rattle.vcpu_run.specs.Ports.{HasPorts, ports_of, unit_of}
use Rattle.vcpu_run.specs.Scripts.{IsScript, OnlyRuns}

-- Script i is that of partition i, which has at most 8 units; those that sit at a port are among these ports.
pub record IsNumbered (pairs : List Pair) (ports : List PortSeat) (i : ℕ) (script : Script) : Type 0 where
  pub number : script.partition ≡ i
  pub few : length script.seats.items ≤ 8
  pub script_is : IsScript pairs script
  pub has_ports : HasPorts ports script

-- the scripts of the partitions
abbrev pub AreScripts : List Pair → List PortSeat → List Script → Type 0
AreScripts pairs ports scripts = (i : ℕ) (script : Script) → slice_get scripts i ≡ Some script → IsNumbered pairs ports i script

-- A server of this partition, with so many units and these copies: each unit has its pair, and no window is at two of them.
pub record IsServing (home count : ℕ) (copies : List CopyRecord) (pairs : List Pair) : Type 0 where
  pub each : count ≡ length pairs
  pub few : length pairs ≤ 8
  pub pairs_are : ArePairs home copies pairs
  pub apart : WindowsAreApart pairs

-- A machine: its server, the pairs of the server units, the scripts of the partitions, and the ports.
pub record IsMachine (home count : ℕ) (copies : List CopyRecord) (pairs : List Pair) (scripts : List Script) (ports : List PortSeat) : Type 0 where
  pub serving : IsServing home count copies pairs
  pub scripts_are : AreScripts pairs ports scripts

-- nothing changed of the scripts but how far they came, and their rows
pub record AllRun (old new : List Script) : Type 0 where
  pub count : length new ≡ length old
  pub each : (i : ℕ) (script : Script) → slice_get old i ≡ Some script → IsSomeAnd (slice_get new i) (OnlyRuns script)

-- A client's unit is not its server unit, and its region and its queue are of lawful sizes.
pub record FitsSeat (server : UnitId) (seat : ClientSeat) : Type 0 where
  pub apart : seat.unit ≢ server
  pub pages : IsFrom LEAST_CLIENT_PAGES MOST_UNIT_PAGES seat.pages
  pub queue : IsFrom 1 MOST_QUEUE seat.queue

-- The client of a pair sits there.
pub record SitsAt (seat : ClientSeat) (pair : Pair) : Type 0 where
  pub driver : IsSomeAnd pair.driver (λ driver. driver.unit ≡ seat.unit)
  pub slots : (side_of pair.link false).queue.slots ≡ PAGE_SLOTS * seat.queue
  pub pages : length pair.window.pages ≡ seat.pages

-- the server unit of a pair has a client where one is named
abbrev pub HasSeat : Option ClientSeat → Pair → Type 0
HasSeat None pair = pair.driver ≡ None
HasSeat (Some seat) pair = SitsAt seat pair

-- the driver is that of the same unit as before
abbrev pub KeepsDriver : Option Driver → Option Driver → Type 0
KeepsDriver old new = MatchOption old (new ≡ None) (λ driver. IsSomeAnd new (λ later. later.unit ≡ driver.unit))

-- What no turn changes of a pair: the server unit, the slots of both queues, the size of the client's region, whose driver
-- it has, whose windows they are, and how much of the client's is held.
pub record Stays (old new : Pair) : Type 0 where
  pub server : new.server ≡ old.server
  pub server_slots : (side_of new.link true).queue.slots ≡ (side_of old.link true).queue.slots
  pub client_slots : (side_of new.link false).queue.slots ≡ (side_of old.link false).queue.slots
  pub pages : length new.window.pages ≡ length old.window.pages
  pub driver : KeepsDriver old.driver new.driver
  pub own_unit : new.own.unit ≡ old.own.unit
  pub client_unit : new.window.unit ≡ old.window.unit
  pub held : new.window.held_count ≡ old.window.held_count

-- each entry of the client's window has the values that it had, and others behind them
abbrev pub KeepsEntries : (old new : Pair) → Type 0
KeepsEntries old new = (entry : ℕ) → Begins ((known_of old.window).values entry) ((known_of new.window).values entry)

-- the same of all pairs, what there was at each is there still, and each entry of its client's window has the values that it had, and
-- others behind them
pub record AllStay (old new : List Pair) : Type 0 where
  pub count : length new ≡ length old
  pub each : (k : ℕ) (pair : Pair) → slice_get old k ≡ Some pair → IsSomeAnd (slice_get new k) (Stays pair)
  pub sees : (k : ℕ) (pair : Pair) → slice_get old k ≡ Some pair → IsSomeAnd (slice_get new k) (λ later. Sees (seen_at pair) (seen_at later))
  pub values : (k : ℕ) (pair : Pair) → slice_get old k ≡ Some pair → IsSomeAnd (slice_get new k) (KeepsEntries pair)

-- server unit k of a partition
abbrev pub server_id : (home : ℕ) → ℕ → UnitId
server_id home k = unit_of home k

-- The driver of a pair is that of a client which the plan gives its server unit, with a queue and a region of the plan's
-- sizes.
pub record IsPlannedClient (partitions : List Partition) (pair : Pair) (driver : Driver) : Type 0 where
  pub pages : ℕ
  pub queue : ℕ
  pub planned : unit_at partitions driver.unit ≡ Some (units.Client pair.server pages queue)
  pub slots : (side_of pair.link false).queue.slots ≡ PAGE_SLOTS * queue
  pub region : length pair.window.pages ≡ pages

-- no unit of the plan is a client of this server unit
abbrev pub HasNoClient : List Partition → UnitId → Type 0
HasNoClient partitions server = (id : UnitId) → IsClientOf partitions id server → ⊥

-- Pair k is a server unit of the plan with this number, whose queue has the plan's size, and its client, if the plan has one.
pub record IsPlanned (partitions : List Partition) (k : ℕ) (pair : Pair) : Type 0 where
  pub number : pair.server.unit ≡ k
  pub pages : ℕ
  pub planned : unit_at partitions pair.server ≡ Some (units.Server pages)
  pub slots : (side_of pair.link true).queue.slots ≡ PAGE_SLOTS * pages
  pub client : MatchOption pair.driver (HasNoClient partitions pair.server) (IsPlannedClient partitions pair)

-- where a unit sits: a client at the pair of its server unit
abbrev pub seat_of : UnitPlan → Seat
seat_of (units.Server queue) = sits.Server
seat_of (units.Client server pages queue) = sits.Client server.unit
seat_of (units.Lan mac pages slots) = sits.Port

-- A script runs the lines of a partition, and each of its units sits where it should.
pub record IsScriptFor (partition : Partition) (script : Script) : Type 0 where
  pub lines : script.lines.now ≡ partition.lines
  pub seats : script.seats.items ≡ map seat_of partition.units

-- the number of the partition with server units; that of all partitions where none has any
abbrev pub home_of : List Partition → ℕ
home_of [] = zero
home_of (first ∷ others) = if has_server first.units then zero else suc (home_of others)

-- The pairs are those of the server units.
pub record ArePlanned (partitions : List Partition) (pairs : List Pair) : Type 0 where
  pub servers : (server : UnitId) → IsServer partitions server → IsSomeAnd (slice_get pairs server.unit) (λ pair. pair.server ≡ server)
  pub each : (k : ℕ) (pair : Pair) → slice_get pairs k ≡ Some pair → IsPlanned partitions k pair

-- The scripts are those of the partitions.
pub record AreScriptsOf (partitions : List Partition) (scripts : List Script) : Type 0 where
  pub count : length partitions ≡ length scripts
  pub each : (i : ℕ) (script : Script) → slice_get scripts i ≡ Some script
      → IsSomeAnd (slice_get partitions i) (λ partition. IsScriptFor partition script)

-- The machine of a sound plan.
pub record IsOfPlan (partitions : List Partition) (pairs : List Pair) (scripts : List Script) (ports : List PortSeat) : Type 0 where
  pub pairs_are : ArePlanned partitions pairs
  pub scripts_are : AreScriptsOf partitions scripts
  pub ports_are : ports ≡ ports_of partitions
  pub sound : AreSound partitions
