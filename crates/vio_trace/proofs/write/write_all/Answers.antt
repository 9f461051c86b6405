-- What was written so far, and behind it what the sink took of the rest.
use Rattle.std.proofs.Common.{◌∙◌, arith}
use Rattle.std.proofs.lemmas.List.{length-take-le}
use Rattle.std.proofs.KnownBytes.{Appends-trans}
use Rattle.vio_trace.proofs.Fronts.{fronts}
use Rattle.vio_trace.proofs.write.write_all.Goals as goal

pub loop-written-preserved : goal.loop-written-preserved
loop-written-preserved g c = record {
  within = omega (arith, c.in_ok-written.ensures.bound, length-take-le c.loop-written.written c.args.text.now c.loop-written.invariant.within);
  taken = rw (fronts c.loop-written.written c.in_ok-written.field-0 c.args.text.now c.loop-written.invariant.within)
      (Appends-trans _ _ _ _ _ c.loop-written.invariant.taken c.in_ok-written.ensures.bytes);
  same = c.in_ok-written.ensures.same (λ e. cc e) ∙ c.loop-written.invariant.same;
}
