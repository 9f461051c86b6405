-- What a raw call leaves of a partition's units, whether a row answers it or the table of calls refuses it.
use Rattle.std.proofs.Common.{◌≡◌, ℕ, true, false, List, Option, Some, None, Result, Ok, Err, IfOk, IfSome, OnOk, ap, refl, slice_get, sym, subst}
use Rattle.vio_num.specs.declared.hypervisor.Hrc.TheVariants as codes
use Rattle.vio_num.specs.declared.memory.NoMemory.{NoMemory}
use Rattle.boot_text.specs.declared.verb.Verb.{Verb}
use Rattle.hcall_table.specs.Asked.{Refuses, ask}
use Rattle.hcall_table.specs.Named.{unit_of}
use Rattle.hcall_table.specs.Rows.{further, row_of}
use Rattle.hcall_table.specs.declared.hcall.Hcall.{Hcall}
use Rattle.hcall_table.specs.declared.returned.Returned.{Returned}
use Rattle.vio_num.specs.declared.names.UnitId.{UnitId}
use Rattle.lan_script.specs.PortCounts.{CountsOn, SendsCalled, counts, counts_called}
use Rattle.vcpu_run.specs.PortRegions.{RegionsKept}
use Rattle.lan_script.specs.Replayed.{SameBeside}
use Rattle.lan_script.specs.Units.{LanValue}
use Rattle.lan_script.specs.Values.{SameValuesBeside}
use Rattle.lan_script.specs.declared.calls.PortCall.{PortCall}
use Rattle.vcpu_run.specs.Freed.{FreesNoneIf}
use Rattle.vcpu_run.specs.Pairs.{AreDriven}
use Rattle.vcpu_run.specs.Ports.{unit_of as unit_id}
use Rattle.vcpu_run.specs.declared.partition_units.PartitionUnits.{PartitionUnits}
use Rattle.vcpu_run.specs.declared.driver.Driver.{Driver}
use Rattle.vcpu_run.specs.declared.pair.Pair.{Pair}
use Rattle.vio_trace.specs.declared.outcome.Outcome.{Outcome}
use Rattle.vio_trace.specs.declared.outcome.Outcome.TheVariants as outcomes
use Rattle.unit_region.specs.declared.step.Step.{Step}
use Rattle.unit_region.specs.declared.step.Step.TheVariants as steps
use Rattle.vcpu_run.specs.Agreed.{OnDrivers, SameDrivers, StepsSeat, driver_at}
use Rattle.vcpu_run.specs.CallsAnswered.{IsReturned}
use Rattle.vcpu_run.specs.Credited.{StepsAgreed, StepsPort, grants, is_take}
use Rattle.unit_region.specs.Steps.{IsPlain, is_plain}
use Rattle.vcpu_run.specs.PortSteps.{IsApart}
use Rattle.vcpu_run.specs.PortMacs.{CallsPort, mac_asked}
use Rattle.vcpu_run.specs.RawCalls.{AnswersCall, CallsAt, CallsBy, CallsUnits, MakesCall, mac_of_row, place_of, seen_after}
use Rattle.vcpu_run.proofs.CalledPorts.{none_called, row_called}
use Rattle.vcpu_run.proofs.Crediting.{on_ok}
use Rattle.vcpu_run.proofs.PortTurns.{call_apart, idle_same}
use Rattle.vcpu_run.proofs.Credits.{plain_fresh}
use Rattle.vcpu_run.specs.Freeing.{NoneSits}
use Rattle.vcpu_run.proofs.Driving.{driven_same}
use Rattle.vcpu_run.proofs.ClientsLay.{none_lay_same}
use Rattle.vcpu_run.proofs.Unfreed.{frees_same}
use Rattle.vcpu_run.specs.ClientStrokes.{NoneLay}

units_same : (old new : PartitionUnits) → new ≡ old → CallsUnits old new
units_same old new same = subst (CallsUnits old) (sym same) (record { lender = refl; lan_lender = refl; driven = driven_same old.pairs.now; told = λ k. refl; ports = refl; stays = frees_same (NoneSits old.seats.now) old.pairs.now; others = λ k none. refl; lays = none_lay_same old.pairs.now })

pub calls_same : (old new : PartitionUnits) (result : Result Returned NoMemory) → new ≡ old → MakesCall old new result
calls_same old new result same = record {
  units = units_same old new same;
  apart = on_ok result (IsApart old.partition old.lan.now new.lan.now)
      (subst (λ (u : PartitionUnits). IsApart old.partition old.lan.now u.lan.now) (sym same) (λ unit _. idle_same old.lan.now unit));
}

-- a call at a port, which leaves the pairs
pub port_made : (old new : PartitionUnits) (u : ℕ) (id : UnitId) (call : PortCall) (r : Result Returned NoMemory) → id ≡ unit_id old.partition u → new.pairs ≡ old.pairs
    → new.lan.ghost_name ≡ old.lan.ghost_name → new.lan.now.seats ≡ old.lan.now.seats
    → IfOk r (λ returned. CountsOn id (counts 0 0) (counts_called call returned.code) old.lan.now new.lan.now)
    → IfOk r (λ returned. SendsCalled id call returned.code old.lan.now new.lan.now) → OnOk r (SameBeside id old.lan.now new.lan.now)
    → OnOk r (SameValuesBeside id old.lan.now new.lan.now) → OnOk r (RegionsKept old.lan.now new.lan.now) → MakesCall old new r
port_made old new u id call r is pairs lender seats counted sent beside values regions = record {
  units = record {
    lender = ap (λ p. p.ghost_name) pairs;
    lan_lender = lender;
    driven = subst (λ list. AreDriven old.pairs.now list) (sym now) (driven_same old.pairs.now);
    told = λ k. ap (λ list. driver_at list k) now;
    ports = seats;
    stays = subst (λ list. FreesNoneIf (NoneSits old.seats.now) old.pairs.now list) (sym now) (frees_same (NoneSits old.seats.now) old.pairs.now);
    others = λ k none. ap (λ list. slice_get list k) now;
    lays = subst (λ list. NoneLay old.pairs.now list) (sym now) (none_lay_same old.pairs.now);
  };
  apart = call_apart old.partition u call r old.lan.now new.lan.now seats
      (subst (λ (i : UnitId). IfOk r (λ returned. CountsOn i (counts 0 0) (counts_called call returned.code) old.lan.now new.lan.now)) is counted)
      (subst (λ (i : UnitId). IfOk r (λ returned. SendsCalled i call returned.code old.lan.now new.lan.now)) is sent)
      (subst (λ (i : UnitId). OnOk r (SameBeside i old.lan.now new.lan.now)) is beside)
      (subst (λ (i : UnitId). OnOk r (SameValuesBeside i old.lan.now new.lan.now)) is values) regions;
}
  where
    now : new.pairs.now ≡ old.pairs.now
    now = ap (λ p. p.now) pairs

-- a row that has a unit, or none of this partition
called_on : (old new : PartitionUnits) (row : Hcall) (args : List ℕ) (unit : Option ℕ) (result : Result Returned NoMemory)
    → (unit ≡ None → Refuses PartitionUnits codes.Parameter old new result) → IfSome unit (λ unit. AnswersCall (ask row unit args) old new result) → MakesCall old new result
called_on old new row args None result elsewhere made = calls_same old new result (elsewhere refl).same
called_on old new row args (Some unit) result elsewhere made = made.made

pub units_called : (old new : PartitionUnits) (number : ℕ) (args : List ℕ) (result : Result Returned NoMemory)
    → (row_of number ≡ None → Refuses PartitionUnits codes.Function old new result)
    → IfSome (row_of number) (λ row. unit_of (place_of old) row args ≡ None → Refuses PartitionUnits codes.Parameter old new result)
    → IfSome (row_of number) (λ row. IfSome (unit_of (place_of old) row args) (λ unit. AnswersCall (ask row unit (further row args)) old new result))
    → MakesCall old new result
units_called old new number args result unknown elsewhere made = at (row_of number) refl elsewhere made
  where
    at : (row : Option Hcall) → row_of number ≡ row
        → IfSome row (λ row. unit_of (place_of old) row args ≡ None → Refuses PartitionUnits codes.Parameter old new result)
        → IfSome row (λ row. IfSome (unit_of (place_of old) row args) (λ unit. AnswersCall (ask row unit (further row args)) old new result)) → MakesCall old new result
    at None e p m = calls_same old new result (unknown e).same
    at (Some row) e p m = called_on old new row (further row args) (unit_of (place_of old) row args) result p m

-- what it made of the ports of the partition
same_by : (partition : ℕ) (row : Option Hcall) (args : List ℕ) (old new : LanValue) (result : Result Returned NoMemory) → new ≡ old
    → IfOk result (λ returned. (u : ℕ) → CallsPort (mac_asked (unit_id partition u) row args (outcomes.Code returned.code)) (unit_id partition u) old new)
same_by partition row args old new (Err memory) same = tt
same_by partition row args old new (Ok returned) same = λ u.
    subst (λ (l : LanValue). CallsPort (mac_asked (unit_id partition u) row args (outcomes.Code returned.code)) (unit_id partition u) old l) (sym same)
    (none_called (mac_asked (unit_id partition u) row args (outcomes.Code returned.code)) (unit_id partition u) old)

ports_on : (old new : PartitionUnits) (row : Hcall) (args : List ℕ) (unit : ℕ) (result : Result Returned NoMemory) → unit_of (place_of old) row args ≡ Some unit
    → IfOk result (CallsAt unit (mac_of_row row (further row args)) old new)
    → IfOk result (λ returned. (u : ℕ) → CallsPort (mac_asked (unit_id old.partition u) (Some row) args (outcomes.Code returned.code)) (unit_id old.partition u) old.lan.now new.lan.now)
ports_on old new row args unit (Err memory) e h = tt
ports_on old new row args unit (Ok returned) e h = row_called (place_of old) row args unit returned.code old.lan.now new.lan.now e h

pub units_ports : (old new : PartitionUnits) (number : ℕ) (args : List ℕ) (result : Result Returned NoMemory)
    → (row_of number ≡ None → Refuses PartitionUnits codes.Function old new result)
    → IfSome (row_of number) (λ row. unit_of (place_of old) row args ≡ None → Refuses PartitionUnits codes.Parameter old new result)
    → IfSome (row_of number) (λ row. IfSome (unit_of (place_of old) row args) (λ unit. AnswersCall (ask row unit (further row args)) old new result))
    → IfOk result (CallsBy old.partition number args old.lan.now new.lan.now)
units_ports old new number args result unknown elsewhere made = at (row_of number) refl elsewhere made
  where
    lan_same : new ≡ old → new.lan.now ≡ old.lan.now
    lan_same same = ap (λ (u : PartitionUnits). u.lan.now) same

    on : (row : Hcall) (unit : Option ℕ) → unit_of (place_of old) row args ≡ unit → (unit ≡ None → Refuses PartitionUnits codes.Parameter old new result)
        → IfSome unit (λ unit. AnswersCall (ask row unit (further row args)) old new result)
        → IfOk result (λ returned. (u : ℕ) → CallsPort (mac_asked (unit_id old.partition u) (Some row) args (outcomes.Code returned.code)) (unit_id old.partition u) old.lan.now new.lan.now)
    on row None e p m = same_by old.partition (Some row) args old.lan.now new.lan.now result (lan_same (p refl).same)
    on row (Some unit) e p m = ports_on old new row args unit result e m.ports

    at : (row : Option Hcall) → row_of number ≡ row
        → IfSome row (λ row. unit_of (place_of old) row args ≡ None → Refuses PartitionUnits codes.Parameter old new result)
        → IfSome row (λ row. IfSome (unit_of (place_of old) row args) (λ unit. AnswersCall (ask row unit (further row args)) old new result))
        → IfOk result (λ returned. (u : ℕ) → CallsPort (mac_asked (unit_id old.partition u) row args (outcomes.Code returned.code)) (unit_id old.partition u) old.lan.now new.lan.now)
    at None e p m = same_by old.partition None args old.lan.now new.lan.now result (lan_same (unknown e).same)
    at (Some row) e p m = on row (unit_of (place_of old) row args) refl p m

-- what a call returned at the unit that it names
returned_on : (old new : PartitionUnits) (row : Hcall) (args : List ℕ) (unit : Option ℕ) (result : Result Returned NoMemory)
    → IfSome unit (λ unit. AnswersCall (ask row unit args) old new result) → IfSome unit (λ unit. IfOk result (IsReturned (seen_after old new unit) row args))
returned_on old new row args None result made = tt
returned_on old new row args (Some unit) result made = made.returned

pub returned_at : (old new : PartitionUnits) (number : ℕ) (args : List ℕ) (result : Result Returned NoMemory)
    → IfSome (row_of number) (λ row. IfSome (unit_of (place_of old) row args) (λ unit. AnswersCall (ask row unit (further row args)) old new result))
    → IfSome (row_of number) (λ row. IfSome (unit_of (place_of old) row args) (λ unit. IfOk result (IsReturned (seen_after old new unit) row (further row args))))
returned_at old new number args result made = at (row_of number) made
  where
    at : (row : Option Hcall) → IfSome row (λ row. IfSome (unit_of (place_of old) row args) (λ unit. AnswersCall (ask row unit (further row args)) old new result))
        → IfSome row (λ row. IfSome (unit_of (place_of old) row args) (λ unit. IfOk result (IsReturned (seen_after old new unit) row (further row args))))
    at None m = tt
    at (Some row) m = returned_on old new row (further row args) (unit_of (place_of old) row args) result m

-- a step that told no driver, and changed no credit
told_here : (verb : Verb) (taken : ℕ) (o p : Option Driver) (result : Result Step NoMemory) → is_take verb ≡ false → p ≡ o → IsPlain result
    → OnDrivers o p (λ a b. StepsAgreed verb taken taken a.client b.client result)
told_here verb taken o p result other same plain =
    subst (λ (q : Option Driver). OnDrivers o q (λ a b. StepsAgreed verb taken taken a.client b.client result)) (sym same) (at o)
  where
    at : (q : Option Driver) → OnDrivers q q (λ a b. StepsAgreed verb taken taken a.client b.client result)
    at None = tt
    at (Some d) = plain_fresh verb taken d.client d.client result other (record { granted = refl; outgoing = refl }) plain

pub told_steps : (old new : List Pair) (verb : Verb) (taken k : ℕ) (result : Result Step NoMemory) → is_take verb ≡ false → SameDrivers old new
    → IsPlain result → StepsSeat k verb taken taken old new result
told_steps old new verb taken k result other told plain = record {
  others = λ j apart. told j;
  credit = told_here verb taken (driver_at old k) (driver_at new k) result other (told k) plain;
}

-- a plain outcome grants nothing
plain_grants : (outcome : Outcome) → is_plain outcome ≡ true → grants outcome ≡ false
plain_grants (outcomes.Granted credits) h = absurd (cc)
plain_grants (outcomes.Sent tag) h = refl
plain_grants (outcomes.Took count) h = refl
plain_grants outcomes.Lost h = refl
plain_grants (outcomes.TookThenLost count) h = refl
plain_grants (outcomes.Rejected reason) h = refl
plain_grants outcomes.Unanswered h = refl
plain_grants outcomes.Range h = refl
plain_grants outcomes.NotLoggedIn h = refl
plain_grants (outcomes.NoCredit limit) h = refl
plain_grants (outcomes.Overlap tag) h = refl
plain_grants outcomes.Closed h = refl
plain_grants (outcomes.Dropped number held) h = refl
plain_grants (outcomes.Data len sum) h = refl
plain_grants (outcomes.Stale page) h = refl
plain_grants outcomes.Unknown h = refl
plain_grants (outcomes.Code code) h = refl
plain_grants (outcomes.Value value) h = refl
plain_grants (outcomes.Posted buffers code) h = refl
plain_grants (outcomes.Frame code number) h = refl
plain_grants outcomes.Done h = refl
plain_grants (outcomes.Bytes shown) h = refl

pub plain_port : (verb : Verb) (taken : ℕ) (result : Result Step NoMemory) → IsPlain result → StepsPort verb taken taken result
plain_port verb taken (Ok (steps.Ends outcome)) plain = plain_grants outcome plain
plain_port verb taken (Ok (steps.Waits did)) plain = λ fresh. fresh
plain_port verb taken (Err memory) plain = tt
