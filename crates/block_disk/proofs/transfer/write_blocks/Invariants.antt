use Rattle.std.proofs.Common.{◌≡◌}
use Rattle.block_disk.specs.Disk.{after_written}
use Rattle.block_disk.proofs.transfer.write_blocks.Given as goal

abbrev pub invariant-loop-call : goal.invariant-loop-call
invariant-loop-call g l = g.B.Blocks.state l.disk ≡ after_written l.lba l.call l.call l.data_out (g.B.Blocks.state l.fn.disk)
