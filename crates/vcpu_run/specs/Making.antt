-- What is made of a plan, one step after the other.
use Rattle.std.specs.Prelude.{◌≡◌, ℕ, ◌<◌, List, [], Some, IsSomeAnd, length}
use Rattle.std.specs.List.{slice_get}
use Rattle.vio_num.specs.declared.names.UnitId.{UnitId}
use Rattle.boot_text.specs.Sound.{unit_at}
use Rattle.boot_text.specs.declared.plan.Partition.{Partition}
use Rattle.boot_text.specs.declared.plan.UnitPlan.{UnitPlan}
use Rattle.boot_text.specs.declared.plan.UnitPlan.TheVariants as kinds
use Rattle.lan_script.specs.Units.{LanValue}
use Rattle.vcpu_run.specs.declared.pair.ClientSeat.{ClientSeat}
use Rattle.vcpu_run.specs.declared.pair.Pair.{Pair}
use Rattle.vcpu_run.specs.declared.script.Script.{Script}
use Rattle.vcpu_run.specs.Agreed.{AreLoggedOut, IsCredited}
use Rattle.vcpu_run.specs.Machines.{IsScriptFor}
use Rattle.vcpu_run.specs.PlainScripts.{StandsPlainly, StartsAnew}
use Rattle.vcpu_run.specs.PortSteps.{AreFresh}
use Rattle.vcpu_run.specs.PortWords.{TellsPorts}
use Rattle.vcpu_run.specs.Scripts.{AreSeats, IsScript}
use Rattle.vcpu_run.specs.ScriptTold.{IsScriptTold}
use Rattle.vcpu_run.specs.TakenScripts.{AreUntaken}

-- the seat's unit is a client of this server unit, of the seat's sizes
abbrev pub IsSeatOf : List Partition → UnitId → ClientSeat → Type 0
IsSeatOf partitions server seat = unit_at partitions seat.unit ≡ Some (kinds.Client server seat.pages seat.queue)

-- The same among the units of one partition.
pub record IsSeatIn (units : List UnitPlan) (number : ℕ) (server : UnitId) (seat : ClientSeat) : Type 0 where
  pub partition : seat.unit.partition ≡ number
  pub unit : slice_get units seat.unit.unit ≡ Some (kinds.Client server seat.pages seat.queue)

-- none of the first units is a client of this server unit
abbrev pub HasNoneBefore : ℕ → List UnitPlan → UnitId → Type 0
HasNoneBefore count units server = (u pages queue : ℕ) → u < count → slice_get units u ≡ Some (kinds.Client server pages queue) → ⊥

abbrev pub HasNoneIn : List UnitPlan → UnitId → Type 0
HasNoneIn units server = (u pages queue : ℕ) → slice_get units u ≡ Some (kinds.Client server pages queue) → ⊥

-- none of the units of the first partitions is one
abbrev pub HaveNoneBefore : ℕ → List Partition → UnitId → Type 0
HaveNoneBefore count partitions server = (p : ℕ) (partition : Partition) → p < count → slice_get partitions p ≡ Some partition → HasNoneIn partition.units server

-- A unit is the client of this server unit that a seat tells.
pub record IsSeatAt (unit : UnitPlan) (id server : UnitId) (seat : ClientSeat) : Type 0 where
  pub unit_is : seat.unit ≡ id
  pub client : unit ≡ kinds.Client server seat.pages seat.queue

-- A script was made for a partition: once its clients sit at their pairs, it is whole, its records keep the credits of clients
-- that are not logged in, such clients agree with them, they tell what ports did that did nothing, and each client that has done nothing
-- stands before its first line.
pub record IsMade (partition : Partition) (number : ℕ) (script : Script) : Type 0 where
  pub number_is : script.partition ≡ number
  pub for_it : IsScriptFor partition script
  pub whole : (pairs : List Pair) → AreSeats number script.seats.items pairs → IsScript pairs script
  pub credited : (pairs : List Pair) → AreLoggedOut script.seats.items pairs → IsCredited pairs script
  pub said : (pairs : List Pair) → AreLoggedOut script.seats.items pairs → AreUntaken pairs → IsScriptTold pairs script
  pub told : (lan : LanValue) → AreFresh lan → TellsPorts lan script
  pub fresh : script.logs.items ≡ []
  pub plainly : (granted u : ℕ) (pair : Pair) → StartsAnew pair → StandsPlainly granted u script pair

-- The scripts were made for the partitions.
pub record AreMade (partitions : List Partition) (scripts : List Script) : Type 0 where
  pub count : length partitions ≡ length scripts
  pub each : (i : ℕ) (script : Script) → slice_get scripts i ≡ Some script
      → IsSomeAnd (slice_get partitions i) (λ partition. IsMade partition i script)

-- The same of the first partitions.
pub record AreMadeTo (count : ℕ) (partitions : List Partition) (scripts : List Script) : Type 0 where
  pub so_far : length scripts ≡ count
  pub each_made : (i : ℕ) (script : Script) → slice_get scripts i ≡ Some script
      → IsSomeAnd (slice_get partitions i) (λ partition. IsMade partition i script)
