use Rattle.srp_iu.proofs.Descriptors.{Written}
use Rattle.srp_iu.proofs.buffer.put_descs.Given as goal

abbrev pub invariant-loop-desc : goal.invariant-loop-desc
invariant-loop-desc l = Written l.list l.desc-index l.initial.out.items l.out.items
