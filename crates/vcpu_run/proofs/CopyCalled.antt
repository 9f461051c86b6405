-- A raw call that copies is Parameter, and leaves all units of its partition as they were.
use Rattle.std.proofs.Common.{◌≡◌, ℕ, true, List, Ok, refl}
use Rattle.vio_num.specs.declared.hypervisor.Hrc.TheVariants as codes
use Rattle.hcall_table.specs.Asked.{ask}
use Rattle.hcall_table.specs.Named.{is_of_window}
use Rattle.hcall_table.specs.declared.hcall.Hcall.TheVariants as rows
use Rattle.hcall_table.specs.declared.returned.Returned.{Returned}
use Rattle.vcpu_run.specs.CallsAnswered.{IsReturned}
use Rattle.vcpu_run.specs.RawCalls.{AnswersCall, mac_of_row, seen_after}
use Rattle.vcpu_run.specs.declared.partition_units.PartitionUnits.{PartitionUnits}
use Rattle.vcpu_run.proofs.CalledPorts.{ports_same}
use Rattle.vcpu_run.proofs.PortCalling.{same_all}
use Rattle.vcpu_run.proofs.RawCalling.{calls_same}

no_window : is_of_window rows.CopyRdma ≡ true → ⊥
no_window e = cc (e)

copy_returned : (old : PartitionUnits) (unit : ℕ) (args : List ℕ) (returned : Returned) → returned.code ≡ codes.Parameter
    → IsReturned (seen_after old old unit) rows.CopyRdma args returned
copy_returned old unit args returned is = record { parameter = (λ e. refl, λ e. is); refused = λ e. tt; busy = λ e. tt; done = λ e. tt }

pub copy_called : (old : PartitionUnits) (unit : ℕ) (args : List ℕ) (returned : Returned) → returned.code ≡ codes.Parameter
    → AnswersCall (ask rows.CopyRdma unit args) old old (Ok returned)
copy_called old unit args returned is = record {
  made = calls_same old old (Ok returned) refl;
  ports = ports_same old.partition unit (mac_of_row rows.CopyRdma args returned.code) old.lan.now;
  returned = copy_returned old unit args returned is;
  entries = record { all = same_all old.lan.now old.lan.now refl; here = λ sat of_window. absurd (no_window of_window) };
}
