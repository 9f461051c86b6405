-- What the records of raw calls say, as a line ends, and where a call names no unit of the partition.
use Rattle.std.proofs.Common.{◌≡◌, ◌∙◌, ◌⊎◌, inl, inr, ℕ, ◌<◌, nat_lt, true, false, cond, List, [], ◌∷◌, ◌++◌, Option, Some, None, Result, Ok, Err, IfOk, IfSome, IsSome, IsSomeAnd, length, slice_get, refl, sym, ap, subst, arith}
use Rattle.std.proofs.lemmas.Bool.Decides.{nat_tests}
use Rattle.std.proofs.lemmas.Option.{slice_get_within}
use Rattle.vio_num.specs.declared.hypervisor.Hrc.TheVariants as codes
use Rattle.vio_num.specs.declared.memory.NoMemory.{NoMemory}
use Rattle.boot_text.specs.declared.plan.Line.{Line}
use Rattle.boot_text.specs.declared.verb.Verb.{Verb}
use Rattle.boot_text.specs.declared.verb.Verb.TheVariants as verbs
use Rattle.hcall_table.specs.Asked.{Refuses, bare}
use Rattle.hcall_table.specs.Named.{Place, unit_of}
use Rattle.hcall_table.specs.Rows.{gives_value, row_of}
use Rattle.hcall_table.specs.declared.hcall.Hcall.{Hcall}
use Rattle.hcall_table.specs.declared.hcall.Hcall.TheVariants as rows
use Rattle.hcall_table.specs.declared.kind.UnitKind.{UnitKind}
use Rattle.hcall_table.specs.declared.returned.Returned.{Returned}
use Rattle.lan_script.specs.Seats.{seat_at}
use Rattle.lan_script.specs.declared.seat.PortSeat.{PortSeat}
use Rattle.vio_trace.specs.declared.outcome.Outcome.{Outcome}
use Rattle.vio_trace.specs.declared.outcome.Outcome.TheVariants as outcomes
use Rattle.vio_trace.specs.declared.rows.LogRow.{LogRow}
use Rattle.unit_region.specs.declared.step.Step.{Step}
use Rattle.unit_region.specs.declared.step.Step.TheVariants as steps
use Rattle.vcpu_run.specs.declared.pair.Pair.{Pair}
use Rattle.vcpu_run.specs.declared.partition_units.PartitionUnits.{PartitionUnits}
use Rattle.vcpu_run.specs.declared.unit_seat.Seat.{Seat}
use Rattle.vcpu_run.specs.declared.unit_seat.Seat.TheVariants as sits
use Rattle.vcpu_run.specs.CallRows.{gives, says}
use Rattle.vcpu_run.specs.CallsSaid.{CallsSaid, EndsCall, IsSaidOf, StepSaid, UnitsSeen, seen_from, units_seen}
use Rattle.vcpu_run.specs.Pairs.{IsDriver}
use Rattle.vcpu_run.specs.Ports.{HavePorts, unit_of as unit_id}
use Rattle.vcpu_run.specs.RawCalls.{kind_of, pair_of, place_of, port_if, seat_among, seat_by}
use Rattle.vcpu_run.specs.Suited.{is_call}
use Rattle.vcpu_run.specs.Works.{HaveClients, fails}
use Rattle.vcpu_run.proofs.CallsGrow.{UnitsGrow, call_more, unit_like}
use Rattle.vcpu_run.proofs.Driving.{some_is}
use Rattle.vcpu_run.proofs.LinesShown.{no_row, row_at}

-- a line that makes no raw call
pub says_none : (seen : UnitsSeen) (verb : Verb) (outcome : Outcome) → is_call verb ≡ false → IsSaidOf seen verb outcome
says_none seen verbs.Login outcome is = tt
says_none seen verbs.Reset outcome is = tt
says_none seen verbs.Logout outcome is = tt
says_none seen verbs.Tur outcome is = tt
says_none seen (verbs.Read lba blocks at pieces table) outcome is = tt
says_none seen (verbs.Write lba blocks at pieces table) outcome is = tt
says_none seen (verbs.Command cdb) outcome is = tt
says_none seen (verbs.CommandIn cdb at len pieces table) outcome is = tt
says_none seen (verbs.CommandOut cdb at len pieces table) outcome is = tt
says_none seen (verbs.Task function of) outcome is = tt
says_none seen (verbs.Take count) outcome is = tt
says_none seen (verbs.Data of) outcome is = tt
says_none seen verbs.Open outcome is = tt
says_none seen verbs.Close outcome is = tt
says_none seen (verbs.Post at len count) outcome is = tt
says_none seen (verbs.Send to len seed at) outcome is = tt
says_none seen (verbs.ChangeMac own) outcome is = tt
says_none seen (verbs.Multicast control group) outcome is = tt
says_none seen (verbs.Fill at len seed) outcome is = tt
says_none seen (verbs.Poke at bytes) outcome is = tt
says_none seen (verbs.Peek at len) outcome is = tt
says_none seen (verbs.Tce entry page readable writable) outcome is = tt
says_none seen (verbs.Hcall number args) outcome is = absurd (cc)
says_none seen verbs.Fail outcome is = tt

-- one that fails the partition makes none
pub fails_no_call : (verb : Verb) → fails verb ≡ true → is_call verb ≡ false
fails_no_call verbs.Login is = refl
fails_no_call verbs.Reset is = refl
fails_no_call verbs.Logout is = refl
fails_no_call verbs.Tur is = refl
fails_no_call (verbs.Read lba blocks at pieces table) is = refl
fails_no_call (verbs.Write lba blocks at pieces table) is = refl
fails_no_call (verbs.Command cdb) is = refl
fails_no_call (verbs.CommandIn cdb at len pieces table) is = refl
fails_no_call (verbs.CommandOut cdb at len pieces table) is = refl
fails_no_call (verbs.Task function of) is = refl
fails_no_call (verbs.Take count) is = refl
fails_no_call (verbs.Data of) is = refl
fails_no_call verbs.Open is = refl
fails_no_call verbs.Close is = refl
fails_no_call (verbs.Post at len count) is = refl
fails_no_call (verbs.Send to len seed at) is = refl
fails_no_call (verbs.ChangeMac own) is = refl
fails_no_call (verbs.Multicast control group) is = refl
fails_no_call (verbs.Fill at len seed) is = refl
fails_no_call (verbs.Poke at bytes) is = refl
fails_no_call (verbs.Peek at len) is = refl
fails_no_call (verbs.Tce entry page readable writable) is = refl
fails_no_call (verbs.Hcall number args) is = absurd (cc)
fails_no_call verbs.Fail is = refl

-- the records before the first line, and one more, of the line that ended
pub called_none : (seen : ℕ → UnitsSeen) (lines : List Line) → CallsSaid seen lines []
called_none seen lines i line row found at = absurd (no_row row at)

pub called_one : (seen : ℕ → UnitsSeen) (lines : List Line) (records : List LogRow) (line : Line) (row : LogRow) → slice_get lines (length records) ≡ Some line
    → CallsSaid seen lines records → IsSaidOf (seen line.number) line.verb row.outcome → CallsSaid seen lines (records ++ row ∷ [])
called_one seen lines records line row found said last i l r there at = by (row_at records row r i at)
  where
    by : (slice_get records i ≡ Some r) ⊎ ((i ≡ length records) × (r ≡ row)) → IsSaidOf (seen l.number) l.verb r.outcome
    by (inl h) = said i l r there h
    by (inr h) =
        let same : l ≡ line = some_is l line (sym there ∙ (ap (slice_get lines) h.0 ∙ found)) in
        subst (λ (x : LogRow). IsSaidOf (seen l.number) l.verb x.outcome) (sym h.1)
        (subst (λ (x : Line). IsSaidOf (seen x.number) x.verb row.outcome) (sym same) last)

-- no row gives a value with Parameter
pub no_value : (row : Hcall) → gives_value row codes.Parameter ≡ false
no_value rows.GetTce = refl
no_value rows.PutTce = refl
no_value rows.StuffTce = refl
no_value rows.PutTceIndirect = refl
no_value rows.RegCrq = refl
no_value rows.FreeCrq = refl
no_value rows.SendCrq = refl
no_value rows.EnableCrq = refl
no_value rows.CopyRdma = refl
no_value rows.RegisterLogicalLan = refl
no_value rows.FreeLogicalLan = refl
no_value rows.AddLogicalLanBuffer = refl
no_value rows.SendLogicalLan = refl
no_value rows.MulticastCtrl = refl
no_value rows.ChangeLogicalLanMac = refl

pub gives_none : (row : Option Hcall) → gives row codes.Parameter ≡ false
gives_none None = refl
gives_none (Some row) = no_value row

-- each client of a partition has its pair, and each port is there: its units are where they sit
pub among_same : (partition : ℕ) (seats : List Seat) (pairs : List Pair) (ports : List PortSeat) (unit : ℕ) → HaveClients seats pairs → HavePorts partition seats ports
    → (o : Option Seat) → slice_get seats unit ≡ o → seat_among partition unit (length pairs) ports o ≡ o
among_same partition seats pairs ports unit clients have None e = refl
among_same partition seats pairs ports unit clients have (Some sits.Server) e = refl
among_same partition seats pairs ports unit clients have (Some (sits.Client k)) e =
    let less : nat_lt k (length pairs) ≡ true = below (slice_get pairs k) refl (clients unit k e) in
    ap (λ b. cond b (Some (sits.Client k)) None) less
  where
    within : (pair : Pair) → slice_get pairs k ≡ Some pair → nat_lt k (length pairs) ≡ true
    within pair there = let less : k < length pairs = slice_get_within pairs k pair there in grind (arith, nat_tests, less)

    below : (o : Option Pair) → slice_get pairs k ≡ o → IsSomeAnd o (λ pair. IsSomeAnd pair.driver (IsDriver pair.window)) → nat_lt k (length pairs) ≡ true
    below None there h = absurd h
    below (Some pair) there h = within pair there
among_same partition seats pairs ports unit clients have (Some sits.Port) e = there (seat_at ports (unit_id partition unit)) (have unit e)
  where
    there : (o : Option PortSeat) → IsSome o → port_if o ≡ Some sits.Port
    there None h = absurd (cc (h))
    there (Some seat) h = refl

-- the units of a partition are where they sit
pub seen_same : (partition : ℕ) (seats : List Seat) (pairs later : List Pair) (ports : List PortSeat) → HaveClients seats pairs → HavePorts partition seats ports
    → UnitsGrow (units_seen partition (seat_by partition seats (length pairs) ports) later) (seen_from partition seats later)
seen_same partition seats pairs later ports clients have =
    let each : (unit : ℕ) → slice_get seats unit ≡ seat_by partition seats (length pairs) ports unit =
    λ unit. sym (among_same partition seats pairs ports unit clients have (slice_get seats unit) refl) in
    let kinds : (λ (unit : ℕ). kind_of (slice_get seats unit)) ≡ (λ (unit : ℕ). kind_of (seat_by partition seats (length pairs) ports unit)) = λ i unit. kind_of (each unit i) in
    let make : (ℕ → Option UnitKind) → Place = λ kind. record { partition = partition; kind = kind } in
    record {
      place = ap make kinds;
      units = λ unit. unit_like (pair_of later (seat_by partition seats (length pairs) ports unit)) (pair_of later (slice_get seats unit)) (ap (pair_of later) (each unit));
    }

-- the table of calls refuses a unit of another partition, or of another kind
refused_by : (old new : PartitionUnits) (result : Result Returned NoMemory) → Refuses PartitionUnits codes.Parameter old new result → IfOk result (λ r. r ≡ bare codes.Parameter)
refused_by old new (Ok r) refuses = refuses.answer
refused_by old new (Err memory) refuses = tt

pub parameter_told : (old new : PartitionUnits) (number : ℕ) (args : List ℕ) (result : Result Returned NoMemory)
    → IfSome (row_of number) (λ row. unit_of (place_of old) row args ≡ None → Refuses PartitionUnits codes.Parameter old new result)
    → IfSome (row_of number) (λ row. unit_of (place_of old) row args ≡ None → IfOk result (λ r. r ≡ bare codes.Parameter))
parameter_told old new number args result refuses = at (row_of number) refuses
  where
    at : (o : Option Hcall) → IfSome o (λ row. unit_of (place_of old) row args ≡ None → Refuses PartitionUnits codes.Parameter old new result)
        → IfSome o (λ row. unit_of (place_of old) row args ≡ None → IfOk result (λ r. r ≡ bare codes.Parameter))
    at None h = tt
    at (Some row) h = λ none. refused_by old new result (h none)

-- what a call's record says of it
pub parameter_says : (number : ℕ) (returned : Returned) → returned ≡ bare codes.Parameter → says number returned ≡ outcomes.Code codes.Parameter
parameter_says number returned is =
    ap (says number) is ∙ ap (λ b. cond b (outcomes.Value 0) (outcomes.Code codes.Parameter)) (gives_none (row_of number))

-- a step of a line that makes no raw call
pub step_says_none : (seen : UnitsSeen) (verb : Verb) (result : Result Step NoMemory) → is_call verb ≡ false → IfOk result (StepSaid seen verb)
step_says_none seen verb (Ok (steps.Ends outcome)) none = says_none seen verb outcome none
step_says_none seen verb (Ok (steps.Waits did)) none = tt
step_says_none seen verb (Err memory) none = tt

-- one of a line that makes one
call_said : (seen other : UnitsSeen) (number : ℕ) (args : List ℕ) (step : Step) → UnitsGrow other seen → EndsCall other number args step
    → StepSaid seen (verbs.Hcall number args) step
call_said seen other number args (steps.Ends outcome) same said = call_more other seen same number args outcome said
call_said seen other number args (steps.Waits did) same said = tt

pub called_step : (seen other : UnitsSeen) (verb : Verb) (number : ℕ) (args : List ℕ) (result : Result Step NoMemory) → UnitsGrow other seen → verb ≡ verbs.Hcall number args
    → IfOk result (EndsCall other number args) → IfOk result (StepSaid seen verb)
called_step seen other verb number args (Ok step) same is said =
    subst (λ (v : Verb). StepSaid seen v step) (sym is) (call_said seen other number args step same said)
called_step seen other verb number args (Err memory) same is said = tt
