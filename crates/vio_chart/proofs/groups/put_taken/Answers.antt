use Rattle.vio_num.specs.declared.entry.Entry.{Entry}
use Rattle.vio_chart.specs.Picture.{IsArrow}
use Rattle.vio_chart.proofs.Lists.{adds_all, adds_more}
use Rattle.vio_chart.proofs.groups.put_taken.Goals as goal

pub loop-entry-preserved : goal.loop-entry-preserved
loop-entry-preserved c =
    let none : Entry = record { high = 0; low = 0 } in
    adds_more (λ (entry : Entry). IsArrow c.args.ends.0 c.args.ends.1) _ _ none _ _ _ c.loop-entry-test.true c.loop-entry.invariant c.in_ok-put_entry.ensures

pub returns : goal.returns
returns c =
    adds_all (λ (entry : Entry). IsArrow c.args.ends.0 c.args.ends.1) c.args.taken.now c.loop-entry.entry-index _ _ c.loop-entry-test.false c.loop-entry.invariant
