use Rattle.std.proofs.Common.{arith}
use Rattle.crq_ring.proofs.Sessions.{HandsOver-none, Present-none}
use Rattle.crq_ring.proofs.Dropping.{Drops-none}
use Rattle.crq_ring.proofs.pipe.PlainPipe.in_session.Goals as goal

pub invariant_of-result : goal.invariant_of-result
invariant_of-result c = record {
  sized = c.requires.slots;
  counted = omega (arith, c.requires.session);
  hands_over = rw (c.new.ensures.items, c.new-2.ensures.items) (HandsOver-none c.args.slots);
  sending = rw c.new.ensures.items (Present-none c.args.session);
  taking = rw c.new-2.ensures.items (Present-none c.args.session);
  dropping = rw (c.new.ensures.items, c.new-3.ensures.items) (Drops-none c.args.session c.args.slots);
}
