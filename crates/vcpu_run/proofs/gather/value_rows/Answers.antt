-- Each unit's rows come behind those of the units before it.
use Rattle.vcpu_run.specs.Gathered.{values_at, HasLawfulWindow}
use Rattle.vcpu_run.proofs.Cuts.{all_more, flat_more}
use Rattle.vcpu_run.proofs.gather.value_rows.Goals as goal

pub loop-unit-preserved : goal.loop-unit-preserved
loop-unit-preserved c = record {
  rows = flat_more (values_at c.args.pairs.now c.args.lan.now) c.args.units.now c.loop-unit.unit-index _ _ _ c.loop-unit-test.true c.loop-unit.invariant.rows c.in_ok-put_window_values.ensures.rows;
  lawful = all_more (HasLawfulWindow c.args.pairs.now c.args.lan.now) c.args.units.now c.loop-unit.unit-index _ c.loop-unit-test.true c.loop-unit.invariant.lawful c.in_ok-put_window_values.ensures.lawful;
}
