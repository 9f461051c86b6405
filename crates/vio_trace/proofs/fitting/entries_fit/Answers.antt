use Rattle.std.proofs.lemmas.List.Elements.{All-more}
use Rattle.vio_num.specs.declared.entry.Entry.{Entry}
use Rattle.vio_trace.specs.Form.{IsEntry}
use Rattle.vio_trace.proofs.fitting.entries_fit.Goals as goal

pub loop-entry-preserved : goal.loop-entry-preserved
loop-entry-preserved c =
    let none : Entry = record { high = 0; low = 0 } in
    All-more IsEntry _ _ none c.loop-entry-test.true c.loop-entry.invariant c.entry_fits.ensures
