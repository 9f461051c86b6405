-- What the records of raw hypervisor calls say: codes of their rows, Parameter of a unit that the partition does not have, Parameter
-- exactly where the arguments decide it, and what is there of what they did.
use Rattle.std.specs.Prelude.{◌≡◌, ℕ, List, IfSome, Option, Some, None, ⊤}
use Rattle.std.specs.List.{slice_get}
use Rattle.vio_num.specs.declared.hypervisor.Hrc.TheVariants as codes
use Rattle.boot_text.specs.declared.plan.Line.{Line}
use Rattle.boot_text.specs.declared.verb.Verb.{Verb}
use Rattle.boot_text.specs.declared.verb.Verb.TheVariants as verbs
use Rattle.hcall_table.specs.Named.{Place, unit_of}
use Rattle.hcall_table.specs.Rows.{further, row_of}
use Rattle.vio_trace.specs.declared.outcome.Outcome.{Outcome}
use Rattle.vio_trace.specs.declared.outcome.Outcome.TheVariants as outcomes
use Rattle.vio_trace.specs.declared.rows.LogRow.{LogRow}
use Rattle.unit_region.specs.declared.step.Step.{Step}
use Rattle.unit_region.specs.declared.step.Step.TheVariants as steps
use Rattle.vcpu_run.specs.declared.pair.Pair.{Pair}
use Rattle.vcpu_run.specs.declared.unit_seat.Seat.{Seat}
use Rattle.vcpu_run.specs.CallRows.{SaysCall}
pub use Rattle.vcpu_run.specs.CallsAnswered.{IfDone, IsUnitSaid}
use Rattle.vcpu_run.specs.CallsAnswered.{UnitSeen, pair_of, unit_seen, unit_then}
use Rattle.vcpu_run.specs.PortCalls.{kind_of}

-- The units of a partition: what they are, and what there is of each.
pub record UnitsSeen : Type 1 where
  pub place : Place
  pub of_unit : ℕ → UnitSeen

-- a partition's units, by where they sit
abbrev pub units_seen : (partition : ℕ) → (ℕ → Option Seat) → List Pair → UnitsSeen
units_seen partition seat pairs = record {
  place = record { partition = partition; kind = λ unit. kind_of (seat unit) };
  of_unit = λ unit. unit_seen (pair_of pairs (seat unit));
}

abbrev pub seen_from : (partition : ℕ) → List Seat → List Pair → UnitsSeen
seen_from partition seats pairs = units_seen partition (slice_get seats) pairs

-- the same as the line of this number ended
abbrev pub seen_then : (number partition : ℕ) → List Seat → List Pair → UnitsSeen
seen_then number partition seats pairs = record {
  place = record { partition = partition; kind = λ unit. kind_of (slice_get seats unit) };
  of_unit = λ unit. unit_then number (pair_of pairs (slice_get seats unit));
}

-- A record of a raw call of this number, with these arguments, in a partition of these units: it is a code of the number's row, or a
-- value where the row gives one; a number without a row is Function, and no other is. A call is Parameter where the unit that it
-- names is not of the partition, or not of the row's kind; else it says what it may at that unit.
pub record IsCallSaid (seen : UnitsSeen) (number : ℕ) (args : List ℕ) (outcome : Outcome) : Type 0 where
  pub row : SaysCall number outcome
  pub elsewhere : IfSome (row_of number) (λ row. unit_of seen.place row args ≡ None → outcome ≡ outcomes.Code codes.Parameter)
  pub here : IfSome (row_of number) (λ row. IfSome (unit_of seen.place row args) (λ unit. IsUnitSaid (seen.of_unit unit) row (further row args) outcome))

-- what a line's record says, if the line makes a raw call
abbrev pub IsSaidOf : UnitsSeen → Verb → Outcome → Type 0
IsSaidOf seen (verbs.Hcall number args) outcome = IsCallSaid seen number args outcome
IsSaidOf seen verb outcome = ⊤

-- the same of each line that has a record, by what there was as the line of this number ended: the records are those of the first lines, in
-- their order
abbrev pub CallsSaid : ((number : ℕ) → UnitsSeen) → List Line → List LogRow → Type 0
CallsSaid seen lines rows =
    (i : ℕ) (line : Line) (row : LogRow) → slice_get lines i ≡ Some line → slice_get rows i ≡ Some row → IsSaidOf (seen line.number) line.verb row.outcome

-- the same of a step that ended its line
abbrev pub StepSaid : UnitsSeen → Verb → Step → Type 0
StepSaid seen verb (steps.Ends outcome) = IsSaidOf seen verb outcome
StepSaid seen verb (steps.Waits did) = ⊤

-- a raw call ends its line, and says so
abbrev pub EndsCall : UnitsSeen → (number : ℕ) → (args : List ℕ) → Step → Type 0
EndsCall seen number args (steps.Ends outcome) = IsCallSaid seen number args outcome
EndsCall seen number args (steps.Waits did) = ⊥
