-- What the turn of one partition leaves of the clients of the others, and of the credits of all scripts.
use Rattle.std.proofs.Common.{◌≡◌, ◌∙◌, ℕ, zero, suc, List, [], ◌∷◌, ◌++◌, Option, Some, None, Result, Ok, Err, OnOk, IfSome, refl, sym, ap}
use Rattle.std.specs.List.{slice_get, slice_set}
use Rattle.boot_text.specs.declared.plan.Partition.{Partition}
use Rattle.vcpu_run.specs.declared.pair.Pair.{Pair}
use Rattle.vcpu_run.specs.declared.script.Script.{Script}
use Rattle.vcpu_run.specs.declared.unit_seat.Seat.{Seat}
use Rattle.vcpu_run.specs.declared.unit_seat.Seat.TheVariants as places
use Rattle.lan_script.specs.declared.seat.PortSeat.{PortSeat}
use Rattle.vcpu_run.specs.Agreed.{AreAllOut, AreCredited, IsCredited, IsLoggedOut, SameBeside, SameDrivers, SameElse, driver_at, driver_in}
use Rattle.vcpu_run.specs.ClientStrokes.{AreBare}
use Rattle.vcpu_run.specs.Machines.{AllStay, AreScripts}
use Rattle.vio_trace.specs.declared.window_rows.CopyRow.{CopyRow}
use Rattle.vcpu_run.specs.DataNoted.{PairNoted}
use Rattle.vcpu_run.specs.ScriptLogs.{LogsLines}
use Rattle.vcpu_run.specs.ScriptTold.{SameClients}
use Rattle.vcpu_run.specs.Making.{AreMade, IsMade}
use Rattle.vcpu_run.proofs.Agreeing.{on_same}
use Rattle.vcpu_run.proofs.CallRecords.{calls_else, calls_none, calls_served}
use Rattle.vcpu_run.proofs.ClientRecords.{logs_bare, logs_copied, logs_else, logs_served}
use Rattle.vcpu_run.proofs.Crediting.{credited_by_own, credited_same}
use Rattle.vcpu_run.proofs.Listed.{each_set, held}
use Rattle.vcpu_run.proofs.Scripted.{seats_apart}

pub else_none : (seats : List Seat) (pairs : List Pair) → SameElse seats pairs pairs
else_none seats pairs k none = refl

pub else_on : (seats : List Seat) (a b c : List Pair) → SameElse seats a b → SameElse seats b c → SameElse seats a c
else_on seats a b c one two k none = two k none ∙ one k none

-- a turn at one of the seats
pub else_one : (seats : List Seat) (unit k : ℕ) (old new : List Pair) → slice_get seats unit ≡ Some (places.Client k) → SameBeside k old new → SameElse seats old new
else_one seats unit k old new here others j none =
    others j (λ same. none unit (here ∙ ap (λ n. Some (places.Client n)) (sym same)))

-- the seat of a unit by itself
pub else_within : (seats : List Seat) (unit : ℕ) (seat : Seat) (old new : List Pair) → slice_get seats unit ≡ Some seat → SameElse (seat ∷ []) old new → SameElse seats old new
else_within seats unit seat old new here others j none =
    others j (λ u at. none unit (here ∙ only u at))
  where
    only : (u : ℕ) → slice_get (seat ∷ []) u ≡ Some (places.Client j) → Some seat ≡ Some (places.Client j)
    only zero at = at
    only (suc u) at = absurd (nothing u at)
      where
        nothing : (n : ℕ) → slice_get {X = Seat} [] n ≡ Some (places.Client j) → ⊥
        nothing n e = cc

-- what is so where a call ended well
pub ok_then : {T : Type 0} {E : Type 0} (r : Result T E) (P Q : Type 0) → (P → Q) → OnOk r P → OnOk r Q
ok_then (Ok x) P Q step p = step p
ok_then (Err e) P Q step p = tt

pub ok_two : {T : Type 0} {E : Type 0} (r : Result T E) (P Q : Type 0) → OnOk r P → OnOk r Q → OnOk r (P × Q)
ok_two (Ok x) P Q p q = (p, q)
ok_two (Err e) P Q p q = tt

-- a turn of the server, and of one script
pub credits_served : (copies copies' : ℕ → List CopyRow) (old new : List Pair) (scripts : List Script) → AllStay old new → SameDrivers old new → SameClients old new
    → ((k : ℕ) → (more : List CopyRow) × (copies' k ≡ copies k ++ more)) → AreCredited copies old scripts → AreCredited copies' new scripts
credits_served copies copies' old new scripts stay same clients grow are i script found =
    let logs = (are i script found).1 in (
      credited_same old new script same (are i script found).0,
      record {
        strokes = logs_copied copies copies' new script grow (logs_served copies old new script stay clients logs.strokes);
        calls = calls_served old new script stay clients logs.calls;
      },
    )

pub credits_turned : (copies : ℕ → List CopyRow) (old new : List Pair) (ports : List PortSeat) (scripts : List Script) (i : ℕ) (script later : Script) → slice_get scripts i ≡ Some script → AreScripts old ports scripts
    → SameElse script.seats.items old new → AreCredited copies old scripts → IsCredited new later × LogsLines copies new later → AreCredited copies new (slice_set scripts i later)
credits_turned copies old new ports scripts i script later found scripts_are others are here =
    each_set (λ j other. IsCredited new other × LogsLines copies new other) scripts i later
    (λ j other there apart.
    let same : (u k : ℕ) → slice_get other.seats.items u ≡ Some (places.Client k) → slice_get new k ≡ slice_get old k =
    λ u k sits. others k (λ v too. apart (seats_apart old ports scripts scripts_are j i u v k other script there found sits too).0) in (
      credited_by_own old new other (λ u k sits. on_same (driver_at old k) (driver_at new k) (ap driver_in (same u k sits))) (are j other there).0,
      record { strokes = logs_else copies old new other same (are j other there).1.strokes; calls = calls_else old new other same (are j other there).1.calls },
    ))
    here

-- before the first turn
pub all_out : (o : Option Pair) → ((pair : Pair) → o ≡ Some pair → IsLoggedOut pair) → IfSome (driver_in o) (λ driver. driver.client.granted ≡ None)
all_out None out = tt
all_out (Some pair) out = out pair refl

pub credits_made : (copies : ℕ → List CopyRow) (partitions : List Partition) (pairs : List Pair) (scripts : List Script) → AreMade partitions scripts → AreAllOut pairs → AreBare pairs → ((k : ℕ) (pair : Pair) → slice_get pairs k ≡ Some pair → PairNoted pair) → AreCredited copies pairs scripts
credits_made copies partitions pairs scripts made out bare noted i script found =
    let partition = held (λ partition. IsMade partition i script) (slice_get partitions i) (made.each i script found) in
    (partition.2.credited pairs (λ unit k sits. all_out (slice_get pairs k) (out k)), record { strokes = logs_bare copies pairs script partition.2.fresh bare noted; calls = calls_none pairs script partition.2.fresh })

-- the same copies, by other words
pub credits_as : (copies copies' : ℕ → List CopyRow) (pairs : List Pair) (scripts : List Script) → ((k : ℕ) → (more : List CopyRow) × (copies' k ≡ copies k ++ more))
    → AreCredited copies pairs scripts → AreCredited copies' pairs scripts
credits_as copies copies' pairs scripts grow are i script found =
    let here = are i script found in
    (here.0, record { strokes = logs_copied copies copies' pairs script grow here.1.strokes; calls = here.1.calls })
