use Rattle.std.proofs.Common.{rules, arith}
use Rattle.vio_trace.proofs.Parted.{without_more}
use Rattle.vio_trace.proofs.fields.place_of.Goals as goal

pub loop-at-preserved : goal.loop-at-preserved
loop-at-preserved c =
    (omega arith, without_more c.args.byte c.loop-at.at c.args.text.now c.loop-at-test.true (search rules) c.loop-at.invariant.1)
