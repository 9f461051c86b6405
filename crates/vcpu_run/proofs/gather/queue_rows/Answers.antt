-- Each unit's rows come behind those of the units before it.
use Rattle.vcpu_run.specs.Gathered.{sessions_at, HasLawfulQueue}
use Rattle.vcpu_run.proofs.Cuts.{all_more, flat_more}
use Rattle.vcpu_run.proofs.gather.queue_rows.Goals as goal

pub loop-unit-preserved : goal.loop-unit-preserved
loop-unit-preserved c = record {
  rows = flat_more (sessions_at c.args.pairs.now) c.args.units.now c.loop-unit.unit-index _ _ _ c.loop-unit-test.true c.loop-unit.invariant.rows c.in_ok-put_queue.ensures.rows;
  lawful = all_more (HasLawfulQueue c.args.pairs.now) c.args.units.now c.loop-unit.unit-index _ c.loop-unit-test.true c.loop-unit.invariant.lawful c.in_ok-put_queue.ensures.lawful;
}
