use Rattle.std.proofs.Common.{◌+◌, ◌<◌, arith}
use Rattle.block_disk.proofs.Blocks.{image_written-more, inside_told}
use Rattle.block_disk.proofs.transfer.write_blocks.Goals as goal

pub loop-call-preserved : goal.loop-call-preserved
loop-call-preserved g c =
    let old = g.B.Blocks.state c.args.disk.now in
    let inside : c.args.lba + c.loop-call.call < old.size = omega arith in
    image_written-more old _ _ c.args.lba c.loop-call.call c.args.data_out.now
    (inside_told old.blocks _ _ (g.met.B.Blocks.told c.args.disk.now) inside) c.loop-call.invariant c.in-Ok.ensures.done
