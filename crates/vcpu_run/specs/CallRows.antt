-- The rows of the calls that reach client units, and what their codes say.
use Rattle.std.specs.Prelude.{◌≡◌, ℕ, Bool, true, false, List, [], ◌∷◌, Option, Some, None, if◌then◌else◌}
use Rattle.vio_num.specs.declared.hypervisor.Hrc.{Hrc}
use Rattle.vio_num.specs.declared.hypervisor.Hrc.TheVariants as codes
use Rattle.hcall_table.specs.Rows.{gives_value, may_answer, row_of}
use Rattle.hcall_table.specs.declared.hcall.Hcall.{Hcall}
use Rattle.hcall_table.specs.declared.hcall.Hcall.TheVariants as rows
use Rattle.hcall_table.specs.declared.returned.Returned.{Returned}
use Rattle.vio_trace.specs.declared.outcome.Outcome.{Outcome}
use Rattle.vio_trace.specs.declared.outcome.Outcome.TheVariants as outcomes
use Rattle.vcpu_run.specs.declared.client_call.ClientCall.{ClientCall}
use Rattle.vcpu_run.specs.declared.client_call.ClientCall.TheVariants as calls
use Rattle.unit_region.specs.declared.entry_calls.EntryCall.{EntryCall}
use Rattle.unit_region.specs.declared.entry_calls.EntryCall.TheVariants as entries
use Rattle.vcpu_run.specs.declared.client_call.QueueCall.{QueueCall}
use Rattle.vcpu_run.specs.declared.client_call.QueueCall.TheVariants as queues
use Rattle.unit_region.specs.EntryRows.{entry_row}

abbrev pub queue_row : QueueCall → Hcall
queue_row (queues.Register address length) = rows.RegCrq
queue_row queues.Free = rows.FreeCrq
queue_row (queues.Send high low) = rows.SendCrq
queue_row queues.Enable = rows.EnableCrq

-- the arguments of a call behind its unit
abbrev pub entry_arguments : EntryCall → List ℕ
entry_arguments (entries.Get address) = address ∷ []
entry_arguments (entries.Put address value) = address ∷ value ∷ []
entry_arguments (entries.Stuff address value count) = address ∷ value ∷ count ∷ []
entry_arguments (entries.PutList address list count) = address ∷ list ∷ count ∷ []

abbrev pub queue_arguments : QueueCall → List ℕ
queue_arguments (queues.Register address length) = address ∷ length ∷ []
queue_arguments queues.Free = []
queue_arguments (queues.Send high low) = high ∷ low ∷ []
queue_arguments queues.Enable = []

abbrev pub arguments_for : ClientCall → List ℕ
arguments_for (calls.Entry call) = entry_arguments call
arguments_for (calls.Queue call) = queue_arguments call

-- the row of a call
abbrev pub row_for : ClientCall → Hcall
row_for (calls.Entry call) = entry_row call
row_for (calls.Queue call) = queue_row call

-- whether a number's row gives a value with a code
abbrev pub gives : Option Hcall → Hrc → Bool
gives (Some row) code = gives_value row code
gives None code = false

-- what a record says of what a call returned
abbrev pub says : ℕ → Returned → Outcome
says number returned = if gives (row_of number) returned.code then outcomes.Value returned.r4 else outcomes.Code returned.code

-- a code that a number's row may answer; a number without a row is a function that is not there
abbrev pub CodedBy : Option Hcall → Hrc → Type 0
CodedBy (Some row) code = may_answer row code ≡ true
CodedBy None code = code ≡ codes.Function

-- a raw call ends its line, by a code of its row, or by the value of an entry
abbrev pub SaysCall : ℕ → Outcome → Type 0
SaysCall number (outcomes.Code code) = CodedBy (row_of number) code
SaysCall number (outcomes.Value value) = row_of number ≡ Some rows.GetTce
SaysCall number _ = ⊥
