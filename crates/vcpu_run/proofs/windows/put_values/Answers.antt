-- Each entry's rows come behind those of the entries before it.
use Rattle.std.proofs.Common.{◌≡◌, ◌++◌, ◌+◌, sym, subst}
use Rattle.vcpu_run.proofs.Cuts.{behind, entries_step}
use Rattle.vcpu_run.specs.Windows.{rows_of_entry, values_from}
use Rattle.vcpu_run.proofs.windows.put_values.Goals as goal

pub loop-entry-preserved : goal.loop-entry-preserved
loop-entry-preserved c =
    behind _ _ _ _ _ _ c.in_ok-put_entry.ensures c.loop-entry.invariant
    (subst (λ rows. values_from c.args.unit c.args.window.now.rows 0 (c.loop-entry.entry + 1)
    ≡ values_from c.args.unit c.args.window.now.rows 0 c.loop-entry.entry ++ rows_of_entry c.args.unit rows c.loop-entry.entry)
    (sym c.values-values.ensures.rows) (entries_step c.args.unit c.args.window.now.rows c.loop-entry.entry))
