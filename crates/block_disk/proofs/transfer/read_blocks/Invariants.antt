use Rattle.std.proofs.Common.{◌≡◌, ◌*◌, IfSome, take, drop}
use Rattle.vio_io.specs.Image.{after_reads}
use Rattle.block_disk.specs.Disk.{bytes_of}
use Rattle.block_disk.proofs.transfer.read_blocks.Given as goal

abbrev pub invariant-loop-call : goal.invariant-loop-call
invariant-loop-call g l = record {
  state : g.B.Blocks.state l.disk ≡ after_reads l.call (g.B.Blocks.state l.fn.disk);
  given : IfSome (g.B.Blocks.state l.fn.disk).blocks (λ all. take (512 * l.call) l.data_in ≡ bytes_of (take l.call (drop l.lba all)));
}
