use Rattle.std.proofs.Common.{ap}
use Rattle.hcall_table.specs.declared.returned.Returned.{Returned}
use Rattle.vcpu_run.proofs.CopyCalled.{copy_called}
use Rattle.vcpu_run.proofs.partition_units.PartitionUnitsUnits.h_copy_rdma.Goals as goal

pub returns-clause-made : goal.returns-clause-made
returns-clause-made c = copy_called c.args.self.now _ _ c.bare.result (ap (λ (r : Returned). r.code) c.bare.ensures)
