-- The rows of the calls on translation entries, and what their codes say.
use Rattle.std.specs.Prelude.{ℕ}
use Rattle.vio_num.specs.declared.hypervisor.Hrc.{Hrc}
use Rattle.vio_num.specs.declared.hypervisor.Hrc.TheVariants as codes
use Rattle.tce_window.specs.declared.answers.GetTce.{GetTce}
use Rattle.tce_window.specs.declared.answers.GetTce.TheVariants as gets
use Rattle.tce_window.specs.declared.answers.TceAnswer.{TceAnswer}
use Rattle.tce_window.specs.declared.answers.TceAnswer.TheVariants as tces
use Rattle.hcall_table.specs.declared.hcall.Hcall.{Hcall}
use Rattle.hcall_table.specs.declared.hcall.Hcall.TheVariants as rows
use Rattle.hcall_table.specs.declared.returned.Returned.{Returned}
use Rattle.unit_region.specs.declared.entry_calls.EntryCall.{EntryCall}
use Rattle.unit_region.specs.declared.entry_calls.EntryCall.TheVariants as entries

abbrev pub entry_row : EntryCall → Hcall
entry_row (entries.Get address) = rows.GetTce
entry_row (entries.Put address value) = rows.PutTce
entry_row (entries.Stuff address value count) = rows.StuffTce
entry_row (entries.PutList address list count) = rows.PutTceIndirect

-- the code of an answer of a window
abbrev pub tce_code : TceAnswer → Hrc
tce_code tces.Done = codes.Success
tce_code tces.Parameter = codes.Parameter
tce_code (tces.Busy entry pins done) = codes.Busy

-- what a window answered, as registers return it
abbrev pub answer_by : Hrc → ℕ → GetTce
answer_by codes.Success value = gets.Value value
answer_by _ value = gets.Parameter

abbrev pub answer_of : Returned → GetTce
answer_of returned = answer_by returned.code returned.r4
