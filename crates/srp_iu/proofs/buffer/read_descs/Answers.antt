use Rattle.std.proofs.Common.{arith, add-one}
use Rattle.srp_iu.proofs.Descriptors.{descs_of-push}
use Rattle.srp_iu.proofs.buffer.read_descs.Goals as goal

pub loop-n-preserved : goal.loop-n-preserved
loop-n-preserved c = record {
  listed = rw (add-one, descs_of-push) (cc (c.push.ensures.items, c.read.ensures, c.rest_at.ensures, c.loop-n.invariant.listed));
  counted = omega (arith, c.push.ensures.len, c.loop-n.invariant.counted);
}
