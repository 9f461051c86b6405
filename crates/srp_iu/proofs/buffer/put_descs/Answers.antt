use Rattle.std.proofs.Common.{arith, ◌<◌, length, add-one}
use Rattle.std.proofs.Math.Seq.{take-suc}
use Rattle.srp_iu.proofs.Descriptors.{written_next}
use Rattle.srp_iu.proofs.buffer.put_descs.Goals as goal

pub loop-desc-preserved : goal.loop-desc-preserved
loop-desc-preserved c =
    let here : c.loop-desc.desc-index < length c.args.list.now = omega arith in
    rw add-one (written_next _ _ _ _ _ _ (take-suc c.args.list.now c.loop-desc.desc-index _ here) c.loop-desc.invariant c.put_desc.ensures.bytes c.put_desc.ensures.reads_back)
