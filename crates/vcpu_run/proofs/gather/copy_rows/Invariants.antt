use Rattle.std.proofs.Common.{◌≡◌, take}
use Rattle.std.specs.List.{flat_map}
use Rattle.vcpu_run.specs.Gathered.{copies_of}
use Rattle.vcpu_run.proofs.gather.copy_rows.Given as goal

abbrev pub invariant-loop-pair : goal.invariant-loop-pair
invariant-loop-pair l = l.rows.items ≡ flat_map (copies_of l.copies) (take l.pair-index l.pairs)
