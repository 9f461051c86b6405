use Rattle.std.proofs.Common.{refl, arith, slice_index}
use Rattle.vio_trace.proofs.Counted.{ends_few, ends_more}
use Rattle.vio_trace.proofs.read.line_at.Goals as goal

pub loop-at-init : goal.loop-at-init
loop-at-init c = record { within = omega arith; few = omega arith; line = refl }

pub loop-at-preserved : goal.loop-at-preserved
loop-at-preserved c =
    let byte = slice_index c.args.bytes.now c.loop-at.at in
    record {
      within = omega (arith, c.loop-at-test.true, c.if-left-bytes.true);
      few = omega (arith, c.line_behind-line.ensures, ends_few byte, c.loop-at.invariant.few);
      line = omega (arith, c.line_behind-line.ensures, c.loop-at.invariant.line, ends_more c.args.bytes.now c.loop-at.at (omega (arith, c.loop-at-test.true)));
    }
