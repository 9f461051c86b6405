use Rattle.std.proofs.Common.{◌≡◌, ◌++◌, ◌+◌, drop}
use Rattle.lan_script.specs.Rows.{numbered, port_row_of}
use Rattle.lan_script.proofs.rows.put_drops.Given as goal

abbrev pub invariant-loop-before : goal.invariant-loop-before
invariant-loop-before l =
    l.rows.items ++ numbered (port_row_of l.unit l.slots) (l.before + 1) (drop l.before l.drops)
    ≡ l.initial.rows.items ++ numbered (port_row_of l.unit l.slots) 1 l.drops
