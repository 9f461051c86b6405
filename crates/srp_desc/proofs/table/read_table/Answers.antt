use Rattle.std.proofs.Common.{arith, add-one, length-append}
use Rattle.srp_iu.proofs.GrammarLaws.{descs_of-push}
use Rattle.srp_desc.proofs.table.read_table.Goals as goal

pub loop-n-preserved : goal.loop-n-preserved
loop-n-preserved c = record {
  listed = rw (add-one, descs_of-push) (cc (c.push.ensures.items, c.desc_at.ensures, c.loop-n.invariant.listed));
  counted = grind (arith, c.push.ensures.items, c.loop-n.invariant.counted, length-append);
}
